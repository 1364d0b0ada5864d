use mathlib.Core.Path.{◌≡◌}
use borrow.Author.Tests.{le-leb}
use lib.Dec.{ltb}
use lib.ListN.{length}
use Rattle.std.proofs.Common.{rules, tests}
use Rattle.seq.proofs.IterLaws.{all_slice}
use Rattle.model.specs.State.{free_row}
use Rattle.model.specs.declared.Row.{Row}
use Rattle.layout32.specs.Known.{fits}
use Rattle.layout32.proofs.is_narrow.Goals as goal

pub returns-then-clock-le-LAST_CLOCK : goal.returns-then-clock-le-LAST_CLOCK
unfolding fits
returns-then-clock-le-LAST_CLOCK c =
    let n : length c.args.rows.now ≡ 32 = search rules in
    rw (le-leb c.args.clock 4000000000 c.if-clock-le-LAST_CLOCK.true)
    (all_slice c.args.rows.now 32 n free_row _ c.all.result _ (λ (x : Row). ltb x.deadline 4294967296) (cc) (λ x b q k. search (rules, tests)) c.all.ensures.ran)
