-- A request of a row up to L, served on two states alike for L: the same answer, and alike states.
use mathlib.Core.Path.{◌≡◌, refl, sym, ◌∙◌}
use mathlib.Core.Bool.{Bool, true, false, ◌&&◌}
use Prim.Native.Nat.{ℕ, ◌<◌, ◌≤◌}
use borrow.Author.Tests.{leb-true, le-leb}
use lib.Dec.{leb}
use Rattle.seq.specs.Below.{any_below}
use Rattle.seq.proofs.Tests.{true_false, and_true, not_true_false, both_true}
use Rattle.seq.proofs.BelowLaws.{any_none, any_hit}
use Rattle.model.specs.declared.Mode.{Mode}
use Rattle.model.specs.declared.State.{State}
use Rattle.model.specs.Parties.{level_of}
use Rattle.model.specs.Words.{is_held}
use Rattle.rules.specs.Calls.{served}
use Rattle.rules.specs.SoundFacts.{Sound}
use Rattle.rules.specs.Alike.{holding_on, Alike, Same}
use Rattle.rules.proofs.Choosing.IntoSame.{into_same}
use Rattle.rules.proofs.Same.SameServed.{same_served}

pub same_request : (L : ℕ) (s t : State) (me page : ℕ) (mode : Mode) → L ≤ 2 → me < 32 → level_of me ≤ L → Sound s → Sound t → Alike L s t → Same L (served s me page mode) (served t me page mode)
same_request L s t me page mode two h l y z alike = go (any_below 32 (λ r. leb (level_of r) L && is_held (holding_on s page r).pin)) refl
  where
    go : (b : Bool) → any_below 32 (λ r. leb (level_of r) L && is_held (holding_on s page r).pin) ≡ b → Same L (served s me page mode) (served t me page mode)
    go true e =
        let x = any_hit (λ r. leb (level_of r) L && is_held (holding_on s page r).pin) 32 e in
        let q = and_true (leb (level_of x.0) L) (is_held (holding_on s page x.0).pin) x.2 in
        same_served L s t y z alike me page mode h l two x.0 x.1 (leb-true (level_of x.0) L q.0) q.1
    go false e = into_same L s t me page mode two h l y z alike
        (λ r k m. not_true_false (is_held (holding_on s page r).pin)
        (λ w. true_false (sym (both_true (le-leb (level_of r) L m) w) ∙ any_none (λ r. leb (level_of r) L && is_held (holding_on s page r).pin) 32 r e k)))
