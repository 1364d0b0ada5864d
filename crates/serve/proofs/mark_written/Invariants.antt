use mathlib.Core.Path.{◌≡◌}
use Rattle.seq.specs.Each.{each_below}
use Rattle.serve.specs.Inner.SlotHoldings.{row_dirtied}
use Rattle.serve.proofs.mark_written.Given as goal

abbrev pub invariant-loop-i : goal.invariant-loop-i
invariant-loop-i l = l.slots ≡ each_below l.i (row_dirtied l.s l.row) l.fn.slots
