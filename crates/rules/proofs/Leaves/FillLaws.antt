-- What a slot filled with a page that no slot had leaves at each row, slot and holding, and on each page; a slot ready to be filled.
use mathlib.Core.Path.{◌≡◌, refl, sym, ◌∙◌, ap}
use mathlib.Core.Bool.{Bool, true, false, cond}
use Prim.Native.Nat.{ℕ, ◌+◌, ◌<◌, ◌≤◌}
use native.Mathlib.Omega.{arith}
use native.Mathlib.Decide.{ℕ_discrete}
use borrow.Author.Tests.{eq-eqb, ne_eqb, eqb-true}
use lib.Dec.{eqb}
use Rattle.seq.specs.declared.Found.{Found}
use Rattle.seq.specs.declared.Found.TheVariants.{At, Nowhere}
use Rattle.seq.proofs.Tests.{true_false, not_true_false, cond_same}
use Rattle.model.specs.declared.Cause.TheVariants.{Taken}
use Rattle.model.specs.declared.Content.TheVariants.{Filled}
use Rattle.model.specs.declared.Holding.{Holding}
use Rattle.model.specs.declared.Slot.{Slot}
use Rattle.model.specs.declared.State.{State}
use Rattle.model.specs.State.{empty_holding, row_at, slot_at, holding_at}
use Rattle.model.specs.Words.{has_page, pins, slot_of}
use Rattle.model.specs.Changes.{killed, cleared}
use Rattle.model.specs.Ranges.{Sized}
use Rattle.model.proofs.StateLaws.{slot_put, sized_put_slot}
use Rattle.model.proofs.ChangeLaws.{cleared_holding, sized_cleared, sized_killed, killed_size}
use Rattle.rules.specs.Calls.{filled}
use Rattle.rules.specs.SoundFacts.{Sound}
use Rattle.rules.specs.Alike.{holding_on}
use Rattle.rules.proofs.Leaves.PageLaws.{found_has, not_found, finds_only, OneSlot, on_slot, on_nowhere, on_at, one_has, killed_one}

abbrev pub filled_slot : State → ℕ → ℕ → Slot
filled_slot s page level = record { content = Filled page (s.clock + s.delay) false level; touch = s.clock }

module _ (s : State) (z : Sized s) (most : s.size ≤ 64) (slot page level : ℕ) (there : slot < s.size) where
  pub sized_filled : Sized (filled s slot page level)
  unfolding filled
  sized_filled = sized_put_slot (cleared slot s) (sized_cleared slot s z) slot (filled_slot s page level)

  pub filled_size : (filled s slot page level).size ≡ s.size
  unfolding filled cleared
  filled_size = refl

  pub filled_delay : (filled s slot page level).delay ≡ s.delay
  unfolding filled cleared
  filled_delay = refl

  pub filled_clock : (filled s slot page level).clock ≡ s.clock
  unfolding filled cleared
  filled_clock = refl

  pub filled_places : (filled s slot page level).places ≡ s.places
  unfolding filled cleared
  filled_places = refl

  pub filled_row : (r : ℕ) → row_at (filled s slot page level) r ≡ row_at s r
  unfolding filled cleared
  filled_row r = refl

  pub filled_slot_lem : (i : ℕ) → slot_at (filled s slot page level) i ≡ cond (eqb i slot) (filled_slot s page level) (slot_at s i)
  unfolding filled cleared
  filled_slot_lem i = slot_put s z slot (filled_slot s page level) i (omega arith)

  pub filled_at : slot_at (filled s slot page level) slot ≡ filled_slot s page level
  filled_at = filled_slot_lem slot ∙ rw (eq-eqb slot slot refl)

  -- the pages of the slots
  pub filled_page : (other i : ℕ) → has_page other (slot_at (filled s slot page level) i).content ≡ cond (eqb i slot) (eqb page other) (has_page other (slot_at s i).content)
  filled_page other i = ap (λ (x : Slot). has_page other x.content) (filled_slot_lem i) ∙ go (eqb i slot)
    where
      go : (b : Bool) → has_page other (cond b (filled_slot s page level) (slot_at s i)).content ≡ cond b (eqb page other) (has_page other (slot_at s i).content)
      go true = refl
      go false = refl

  pub filled_holding : (i r : ℕ) → r < 32 → holding_at (filled s slot page level) i r ≡ cond (eqb i slot) empty_holding (holding_at s i r)
  unfolding filled
  filled_holding i r b = cleared_holding slot s z i r b

  pub filled_other : (other i : ℕ) → (i ≡ slot → ⊥) → has_page other (slot_at (filled s slot page level) i).content ≡ has_page other (slot_at s i).content
  filled_other other i m = filled_page other i ∙ rw (ne_eqb i slot m)

  pub filled_has : has_page page (slot_at (filled s slot page level) slot).content ≡ true
  filled_has = filled_page page slot ∙ rw (eq-eqb slot slot refl) (eq-eqb page page refl)

  pub filled_empty : (r : ℕ) → r < 32 → holding_at (filled s slot page level) slot r ≡ empty_holding
  filled_empty r b = filled_holding slot r b ∙ rw (eq-eqb slot slot refl)

  module _ (one : OneSlot s) (nowhere : slot_of s page ≡ Nowhere) where
    pub filled_new : slot_of (filled s slot page level) page ≡ At slot
    filled_new = finds_only (filled s slot page level) page slot (rw filled_size there) filled_has
        (λ j h q. elim (ℕ_discrete j slot) [
          | yes m ↦ m
          | no m ↦ true_false (sym q ∙ filled_other page j m ∙ not_found s page j nowhere (rw filled_size at h))
        ])

    -- the holdings on the page that the slot had are gone, and no others
    pub filled_on : (other r : ℕ) → r < 32 → holding_on (filled s slot page level) other r ≡ cond (has_page other (slot_at s slot).content) empty_holding (holding_on s other r)
    filled_on other r b = go (slot_of (filled s slot page level) other) refl
      where
        -- a page that is in no slot now was in the slot that was filled, if in any
        none : slot_of (filled s slot page level) other ≡ Nowhere → (f : Found) → slot_of s other ≡ f → cond (has_page other (slot_at s slot).content) empty_holding (holding_on s other r) ≡ empty_holding
        none e Nowhere q =
            ap (λ (x : Holding). cond (has_page other (slot_at s slot).content) empty_holding x) (on_nowhere s other r q) ∙ cond_same (has_page other (slot_at s slot).content) empty_holding
        none e (At j) q =
            let k = found_has s other j q in
            elim (ℕ_discrete j slot) [
              | yes m ↦ rw (rw m at k.1)
              | no m ↦ true_false (sym k.1 ∙ sym (filled_other other j m) ∙ not_found (filled s slot page level) other j e (rw filled_size k.0))
            ]

        go : (f : Found) → slot_of (filled s slot page level) other ≡ f → holding_on (filled s slot page level) other r ≡ cond (has_page other (slot_at s slot).content) empty_holding (holding_on s other r)
        go Nowhere e = on_nowhere (filled s slot page level) other r e ∙ sym (none e (slot_of s other) refl)
        go (At i) e =
            let k = found_has (filled s slot page level) other i e in
            elim (ℕ_discrete i slot) [
              | yes m ↦
                  let w = sym (filled_page other i) ∙ k.1 in
                  let p : page ≡ other = eqb-true page other (rw (eq-eqb i slot m) at w) in
                  on_slot (filled s slot page level) other i r e ∙ filled_holding i r b ∙ rw (eq-eqb i slot m)
                  (sym (ap (λ (x : Holding). cond (has_page other (slot_at s slot).content) empty_holding x) (ap (λ (x : ℕ). holding_on s x r) (sym p) ∙ on_nowhere s page r nowhere) ∙ cond_same (has_page other (slot_at s slot).content) empty_holding))
              | no m ↦
                  let w : has_page other (slot_at s i).content ≡ true = sym (filled_other other i m) ∙ k.1 in
                  let n : has_page other (slot_at s slot).content ≡ false = not_true_false (has_page other (slot_at s slot).content) (λ q. m (one other i slot (rw filled_size at k.0) there w q)) in
                  on_slot (filled s slot page level) other i r e ∙ filled_holding i r b ∙ rw (ne_eqb i slot m, n) (sym (on_at s one other i r (rw filled_size at k.0) w))
            ]

-- a slot of which the pinners have been killed, ready to be filled
pub record Freed (s : State) (slot : ℕ) : Type 0 where
  pub sized : Sized (killed (pins s slot) Taken s)
  pub most : (killed (pins s slot) Taken s).size ≤ 64
  pub there : slot < (killed (pins s slot) Taken s).size
  pub one : OneSlot (killed (pins s slot) Taken s)

pub freed : (s : State) → Sound s → (slot : ℕ) → slot < s.size → Freed s slot
freed s z slot h = record {
  sized = sized_killed (pins s slot) s z.sized Taken;
  most = rw (killed_size (pins s slot) Taken s) z.size_most;
  there = rw (killed_size (pins s slot) Taken s) h;
  one = killed_one (pins s slot) s z.sized z.size_most Taken (one_has s z);
}
