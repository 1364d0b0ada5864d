use mathlib.Core.Path.{◌≡◌}
use mathlib.Core.Bool.{cond}
use lib.ListN.{length}
use Rattle.model.specs.Inner.Changed.{marked}
use Rattle.model.proofs.ElementLaws.{Turned}
use Rattle.model.proofs.replace_marked.Given as goal

abbrev pub invariant-loop-row : goal.invariant-loop-row
invariant-loop-row g l = (length l.y-items ≡ 32) × Turned (λ row y. cond (marked l.marks row) l.x y) l.row 32 l.x l.fn.xs l.y-items
