use mathlib.Core.Bool.{false}
use lib.ListN.{get_or}
use Rattle.std.proofs.Common.{rules, of_calls}
use Rattle.serve.proofs.SlotLaws.{marks_are}
use Rattle.serve.proofs.mark_rows.Goals as goal

pub returns : goal.returns
returns g c = λ p t. marks_are c.args.held.now p c.from_fn.result (search rules) (λ row h. t row (get_or c.from_fn.result row false) h (search (rules, of_calls)))
