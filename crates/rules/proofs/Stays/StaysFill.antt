-- A page put into a slot that no row pins, whose holders lose it, leaves a sound state sound.
use mathlib.Core.Path.{◌≡◌, refl, sym, ◌∙◌, ap}
use mathlib.Core.Bool.{true, false}
use Prim.Native.Nat.{ℕ, ◌<◌, ◌≤◌}
use native.Mathlib.Omega.{arith}
use native.Mathlib.Decide.{ℕ_discrete}
use borrow.Author.Tests.{ne_eqb}
use Rattle.seq.proofs.Tests.{true_false}
use Rattle.model.specs.declared.State.{State}
use Rattle.model.specs.State.{empty_holding, row_at, slot_at, holding_at}
use Rattle.model.specs.Words.{is_filled, page_in, pins}
use Rattle.model.specs.Changes.{cleared}
use Rattle.rules.specs.Calls.{filled}
use Rattle.rules.specs.SoundFacts.{Sound}
use Rattle.rules.proofs.Leaves.FillLaws.{filled_slot, sized_filled, filled_slot_lem, filled_at, filled_holding, filled_empty}
use Rattle.rules.proofs.Stays.StaysBase.{base, whole, slot_stays, HoldingStays, same, gone}
use Rattle.rules.proofs.Stays.StaysOrder.{order_stays}
use Rattle.rules.proofs.Stays.StaysChange.{SlotChange, old_slot, new_slot, old_holding, base_change}
use Rattle.rules.proofs.Stays.StaysRows.{settled_stays, row_stays}
use Rattle.rules.proofs.Stays.StaysNew.{Asking}

module _ (s : State) (slot page level : ℕ) (h : Sound s) (b : slot < s.size) where
  abbrev t : State
  t = filled s slot page level

  new_at : slot_at t slot ≡ filled_slot s page level
  new_at = filled_at s h.sized h.size_most slot page level b

  empty_at : (r : ℕ) → r < 32 → holding_at t slot r ≡ empty_holding
  empty_at = filled_empty s h.sized h.size_most slot page level b

  other_slot : (i : ℕ) → (i ≡ slot → ⊥) → slot_at t i ≡ slot_at s i
  other_slot i e = filled_slot_lem s h.sized h.size_most slot page level b i ∙ rw (ne_eqb i slot e)

  other_holding : (i r : ℕ) → r < 32 → (i ≡ slot → ⊥) → holding_at t i r ≡ holding_at s i r
  other_holding i r g e = filled_holding s h.sized h.size_most slot page level b i r g ∙ rw (ne_eqb i slot e)

  holdings : (i r : ℕ) → r < 32 → HoldingStays (holding_at s i r) (holding_at t i r)
  holdings i r g = elim (ℕ_discrete i slot) [
    | yes e ↦ rw e (gone (empty_at r g))
    | no e ↦ same (other_holding i r g e)
  ]

  pub asking_filled : (row : ℕ) → Asking s row → Asking t row
  unfolding filled cleared
  asking_filled row a = record {
    row_is = a.row_is;
    live = a.live;
    settled = settled_stays s t row (λ i _. holdings i row a.row_is) (row_at s row).deadline (row_at s row).deadline (omega arith) a.settled.deadline a.settled;
  }

  module _ (p : page ≤ 4095) (l : level ≤ 3) (loose : (r : ℕ) → r < 32 → pins s slot r ≡ false)
      (absent : (j : ℕ) → j < 64 → is_filled (slot_at s j).content ≡ true → page_in (slot_at s j).content ≡ page → ⊥) where
    slots : (i : ℕ) → i < 64 → SlotChange s t i
    unfolding filled cleared
    slots i g = elim (ℕ_discrete i slot) [
      | yes e ↦ rw e (new_slot
          (record {
            empty = λ w. true_false (rw new_at at w);
            page = λ _. rw new_at p;
            lowest = λ _. rw new_at l;
            touch = rw new_at (omega arith);
            arrival = λ _. rw new_at (omega arith);
            started = λ _. b;
          })
          (λ r f. rw (empty_at r f))
          (λ j f u w. elim (ℕ_discrete j slot) [
            | yes q ↦ sym q
            | no q ↦ absurd (absent j f (rw (other_slot j q) at u) (sym (rw (new_at, other_slot j q) at w)))
          ]))
      | no e ↦ old_slot (slot_stays (slot_at s i) (slot_at t i) (other_slot i e)) (rw (other_slot i e) (h.slot i g).touch)
    ]

    pub filled_sound : Sound t
    unfolding filled cleared
    filled_sound =
        whole t (base_change s t (base s h) (record {
          sized = sized_filled s h.sized h.size_most slot page level b;
          size = refl;
          delay = refl;
          clock = omega arith;
          clock_most = h.clock_most;
          borders = λ _ _ _. refl;
          slot = slots;
          holding = λ i r _ g. old_holding (holdings i r g);
          live = λ i r f g w. elim (ℕ_discrete i slot) [
            | yes e ↦ true_false (sym (rw (e, empty_at r g) at w))
            | no e ↦ (h.held i r f g (rw (other_holding i r g e) at w)).live
          ];
        }))
        (λ r g. row_stays s t r (λ i _. holdings i r g)
        (λ i _ w. elim (ℕ_discrete i slot) [
          | yes e ↦ true_false (sym w ∙ ap (λ (j : ℕ). pins s j r) e ∙ loose r g)
          | no e ↦ other_holding i r g e
        ])
        refl (λ _. refl) refl (h.row r g))
        (order_stays s t h.order refl (λ _ _. refl))
