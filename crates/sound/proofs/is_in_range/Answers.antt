use mathlib.Core.Path.{◌≡◌}
use Prim.Native.Nat.{ℕ}
use lib.Dec.{leb}
use native.Mathlib.Omega.{arith}
use Rattle.std.proofs.lemmas.Bool.Decides.{nat_tests}
use Rattle.std.specs.Ordering.{partial_le, nat_cmp}
use Rattle.std.specs.Prelude.{Some}
use Rattle.sound.specs.Inner.Tests.{in_range}
use Rattle.sound.proofs.ElementLaws.{joins}
use Rattle.sound.proofs.is_in_range.Goals as goal

at_most : (a b : ℕ) → partial_le (λ x y. Some (nat_cmp x y)) a b ≡ leb a b
at_most a b = grind (arith, nat_tests)

pub returns : goal.returns
unfolding in_range
returns c =
    let h = simp (c.new.ensures.start, c.new.ensures.end, c.new.ensures.exhausted, at_most) at c.contains.ensures.value in
    let k = simp (c.new-2.ensures.start, c.new-2.ensures.end, c.new-2.ensures.exhausted, at_most) at c.contains-2.ensures.value in
    simp (joins, h, k)
