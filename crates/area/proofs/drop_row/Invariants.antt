use mathlib.Core.Path.{◌≡◌}
use lib.ListN.{length}
use Rattle.area.specs.Inner.Writes.{row_dropped}
use Rattle.area.proofs.drop_row.Given as goal

abbrev pub invariant-loop-i : goal.invariant-loop-i
invariant-loop-i l = (length l.a ≡ length l.initial.a) × (l.a ≡ row_dropped l.row l.i l.initial.a)
