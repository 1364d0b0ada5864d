use mathlib.Core.Path.{◌≡◌}
use Rattle.seq.specs.Each.{each_below}
use Rattle.rules.specs.Calls.{delivered_row}
use Rattle.calls.proofs.deliver_rows.Given as goal

abbrev pub invariant-loop-x : goal.invariant-loop-x
invariant-loop-x l = l.x-items ≡ each_below l.x-index (λ row x. delivered_row l.clock x) l.fn.rows
