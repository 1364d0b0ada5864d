use mathlib.Core.Path.{◌≡◌}
use lib.ListN.{length}
use Rattle.model.specs.Inner.Changed.{marked}
use Rattle.area.specs.Inner.Writes.{rows_dropped}
use Rattle.area.proofs.drop_rows.Given as goal

abbrev pub invariant-loop-row : goal.invariant-loop-row
invariant-loop-row l = (length l.a ≡ length l.initial.a) × (l.a ≡ rows_dropped (marked l.gone) l.row l.initial.a)
