-- What sound says of slots and holdings holds after a change if each slot and each holding is an old one that stays, or is new and sound.
use mathlib.Core.Path.{◌≡◌, sym, ◌∙◌}
use mathlib.Core.Bool.{true, false}
use Prim.Native.Nat.{ℕ, ◌<◌, ◌≤◌}
use native.Mathlib.Omega.{arith}
use Rattle.seq.proofs.Tests.{true_false}
use Rattle.model.specs.declared.State.{State}
use Rattle.model.specs.Parties.{level_of, class_of, last_clock}
use Rattle.model.specs.State.{empty_holding, row_at, slot_at, holding_at}
use Rattle.model.specs.Words.{is_live, is_filled, page_in, holds, conflict}
use Rattle.model.specs.Ranges.{Sized}
use Rattle.model.proofs.PinLaws.{conflict_comm}
use Rattle.rules.specs.SoundFacts.{SlotSound, Held}
use Rattle.rules.proofs.Stays.StaysBase.{Base, SlotStays, HoldingStays, still_held, not_held, no_conflict_stays}

-- a new slot has no holder, and its page is in no other slot
pub data SlotChange (s t : State) (i : ℕ) : Type 0 where
  old_slot : SlotStays (slot_at s i) (slot_at t i) → (slot_at t i).touch ≤ t.clock → SlotChange s t i
  new_slot : SlotSound t i → ((r : ℕ) → r < 32 → holds t i r ≡ false)
      → ((j : ℕ) → j < 64 → is_filled (slot_at t j).content ≡ true → page_in (slot_at t i).content ≡ page_in (slot_at t j).content → i ≡ j) → SlotChange s t i

-- a new holding's pin conflicts with none
pub data HoldingChange (s t : State) (i r : ℕ) : Type 0 where
  old_holding : HoldingStays (holding_at s i r) (holding_at t i r) → HoldingChange s t i r
  new_holding_lem : holds t i r ≡ true → Held t i r
      → ((q : ℕ) → q < 32 → (r ≡ q → ⊥) → conflict (holding_at t i r).pin (holding_at t i q).pin ≡ false) → HoldingChange s t i r

-- the borders stay while a row is live
pub record Change (s t : State) : Type 0 where
  pub sized : Sized t
  pub size : t.size ≡ s.size
  pub delay : t.delay ≡ s.delay
  pub clock : s.clock ≤ t.clock
  pub clock_most : t.clock ≤ last_clock
  pub borders : (r : ℕ) → r < 32 → is_live (row_at s r).condition ≡ true → t.borders ≡ s.borders
  pub slot : (i : ℕ) → i < 64 → SlotChange s t i
  pub holding : (i r : ℕ) → i < 64 → r < 32 → HoldingChange s t i r
  pub live : (i r : ℕ) → i < 64 → r < 32 → holds t i r ≡ true → is_live (row_at t r).condition ≡ true

module _ (s t : State) (b : Base s) (c : Change s t) where
  slot_change : (i : ℕ) → i < 64 → SlotChange s t i → SlotSound t i
  slot_change i h (new_slot x _ _) = x
  slot_change i h (old_slot k u) =
      let x = b.slot i h in
      record {
        empty = λ w. k.empty (sym k.filled ∙ w) ∙ x.empty (sym k.filled ∙ w);
        page = λ w. rw k.page (x.page (sym k.filled ∙ w));
        lowest = λ w. omega (arith, k.lowest, x.lowest (sym k.filled ∙ w));
        touch = u;
        arrival = λ w. rw k.arrival (omega (arith, x.arrival (sym k.filled ∙ w), c.clock, c.delay));
        started = λ w. omega (arith, x.started (sym k.filled ∙ w), c.size);
      }

  pages_change : (i j : ℕ) → i < 64 → j < 64 → SlotChange s t i → SlotChange s t j → is_filled (slot_at t i).content ≡ true → is_filled (slot_at t j).content ≡ true
      → page_in (slot_at t i).content ≡ page_in (slot_at t j).content → i ≡ j
  pages_change i j h g (new_slot _ _ f) m u v w = f j g v w
  pages_change i j h g (old_slot k _) (new_slot _ _ f) u v w = sym (f i h u (sym w))
  pages_change i j h g (old_slot k _) (old_slot m _) u v w = b.one_slot i j h g (sym k.filled ∙ u) (sym m.filled ∙ v) (sym k.page ∙ w ∙ m.page)

  held_change : (i r : ℕ) → i < 64 → r < 32 → SlotChange s t i → HoldingChange s t i r → holds t i r ≡ true → Held t i r
  held_change i r h g k (new_holding_lem _ x _) w = x
  held_change i r h g (new_slot _ f _) (old_holding _) w = true_false (sym w ∙ f r g)
  held_change i r h g (old_slot k _) (old_holding y) w =
      let m = still_held (holding_at s i r) (holding_at t i r) y w in
      let x = b.held i r h g m.held in
      record {
        live = c.live i r h g w;
        filled = k.filled ∙ x.filled;
        allowed = rw (k.page, c.borders r g x.live) (m.allowed (level_of r) (class_of s.borders (page_in (slot_at s i).content)) x.allowed);
        after = omega (arith, k.arrival, m.arrival, x.after);
        arrival = omega (arith, m.arrival, x.arrival, c.clock, c.delay);
        touch = omega (arith, m.touch, x.touch, k.later);
        lowest = omega (arith, k.lowest, x.lowest);
      }

  unheld_change : (i r : ℕ) → i < 64 → r < 32 → HoldingChange s t i r → holds t i r ≡ false → holding_at t i r ≡ empty_holding
  unheld_change i r h g (new_holding_lem f _ _) w = true_false (sym f ∙ w)
  unheld_change i r h g (old_holding k) w = not_held (holding_at s i r) (holding_at t i r) k (b.unheld i r h g) w

  conflict_change : (i r q : ℕ) → i < 64 → r < 32 → q < 32 → (r ≡ q → ⊥) → HoldingChange s t i r → HoldingChange s t i q → conflict (holding_at t i r).pin (holding_at t i q).pin ≡ false
  conflict_change i r q h g f m (new_holding_lem _ _ x) k = x q f m
  conflict_change i r q h g f m (old_holding k) (new_holding_lem _ _ x) =
      conflict_comm (holding_at t i r).pin (holding_at t i q).pin ∙ x r g (λ e. m (sym e))
  conflict_change i r q h g f m (old_holding k) (old_holding y) =
      no_conflict_stays (holding_at s i r) (holding_at t i r) (holding_at s i q) (holding_at t i q) k y (b.no_conflict i r q h g f m)

  pub base_change : Base t
  base_change = record {
    sized = c.sized;
    size_least = omega (arith, b.size_least, c.size);
    size_most = omega (arith, b.size_most, c.size);
    delay_least = omega (arith, b.delay_least, c.delay);
    delay_most = omega (arith, b.delay_most, c.delay);
    clock_most = c.clock_most;
    slot = λ i h. slot_change i h (c.slot i h);
    one_slot = λ i j h g. pages_change i j h g (c.slot i h) (c.slot j g);
    row = tt;
    order = tt;
    held = λ i r h g. held_change i r h g (c.slot i h) (c.holding i r h g);
    unheld = λ i r h g. unheld_change i r h g (c.holding i r h g);
    no_conflict = λ i r q h g f m. conflict_change i r q h g f m (c.holding i r h g) (c.holding i q h f);
  }
