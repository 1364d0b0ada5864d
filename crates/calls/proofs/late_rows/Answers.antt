use lib.ListN.{get_or}
use mathlib.Core.Bool.{false}
use Rattle.std.proofs.Common.{rules}
use borrow.Author.Tests.{tests}
use Rattle.model.specs.State.{free_row}
use Rattle.choice.proofs.SummaryLaws.{made_each}
use Rattle.calls.specs.Inner.Parts.{late_row, late_marks}
use Rattle.calls.proofs.late_rows.Goals as goal

pub returns : goal.returns
unfolding late_marks
returns c =
    made_each _ (λ r. late_row c.args.clock (get_or c.args.rows.now r free_row)) (λ i y q k. search (rules, tests)) 32 false c.from_fn.result c.from_fn.ensures.items
