-- A slot that no row up to a level holds may take another page: the state stays alike for the level.
use mathlib.Core.Path.{◌≡◌, refl, sym, ◌∙◌}
use mathlib.Core.Bool.{Bool, true, false, cond}
use Prim.Native.Nat.{ℕ, ◌<◌, ◌≤◌}
use Rattle.seq.specs.declared.Found.TheVariants.{Nowhere}
use Rattle.model.specs.declared.State.{State}
use Rattle.model.specs.Parties.{level_of}
use Rattle.model.specs.State.{empty_holding, slot_at, holding_at}
use Rattle.model.specs.Words.{has_page, slot_of}
use Rattle.model.specs.Changes.{cleared}
use Rattle.model.specs.Ranges.{Sized}
use Rattle.rules.specs.Calls.{filled}
use Rattle.rules.specs.Alike.{holding_on, Alike}
use Rattle.rules.proofs.Leaves.PageLaws.{OneSlot, on_at}
use Rattle.rules.proofs.Leaves.FillLaws.{filled_on}

module _ (s : State) (z : Sized s) (most : s.size ≤ 64) (slot page level : ℕ) (there : slot < s.size) (one : OneSlot s) (nowhere : slot_of s page ≡ Nowhere) where
  pub filled_hidden : (L : ℕ) → ((r : ℕ) → r < 32 → level_of r ≤ L → holding_at s slot r ≡ empty_holding) → Alike L s (filled s slot page level)
  unfolding filled cleared
  filled_hidden L h = record {
    size = refl;
    delay = refl;
    clock = refl;
    row = λ r b l. refl;
    place = λ r b l. refl;
    holding = λ other r b l. sym (filled_on s z most slot page level there one nowhere other r b ∙ go other r (h r b l) (has_page other (slot_at s slot).content) refl);
  }
    where
      go : (other r : ℕ) → holding_at s slot r ≡ empty_holding → (x : Bool) → has_page other (slot_at s slot).content ≡ x → cond x empty_holding (holding_on s other r) ≡ holding_on s other r
      go other r e true q = sym (on_at s one other slot r there q ∙ e)
      go other r e false q = refl
