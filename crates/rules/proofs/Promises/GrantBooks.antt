-- A grant drops no holding and no write pin; an unpin drops no holding, and books what was written.
use mathlib.Core.Path.{◌≡◌, refl, sym, ◌∙◌, ap}
use mathlib.Core.Bool.{Bool, true, false, cond, ◌&&◌}
use mathlib.Core.Logic.{◌⊎◌, inl, inr}
use Prim.Native.Nat.{ℕ, ◌<◌}
use native.Mathlib.Decide.{ℕ_discrete}
use borrow.Author.Tests.{eqb-true, eq-eqb, ne_eqb}
use lib.Dec.{leb, eqb}
use Rattle.seq.proofs.Tests.{true_false, and_true}
use Rattle.std.specs.Prelude.{Option}
use Rattle.model.specs.declared.Holding.{Holding}
use Rattle.model.specs.declared.Mode.{Mode}
use Rattle.model.specs.declared.Pin.{Pin}
use Rattle.model.specs.declared.Pin.TheVariants.{Absent, Unpinned, Read, Write}
use Rattle.model.specs.declared.Slot.{Slot}
use Rattle.model.specs.declared.State.{State}
use Rattle.model.specs.Parties.{level_of}
use Rattle.model.specs.State.{slot_at, holding_at}
use Rattle.model.specs.Words.{has_page, dirty_in, is_held, is_write, pin_of, stronger, holds}
use Rattle.model.specs.Changes.{written}
use Rattle.model.specs.Ranges.{Sized}
use Rattle.model.proofs.ContentLaws.{dirtied_page, dirtied_stays, dirtied_is}
use Rattle.model.proofs.PinLaws.{write_held, stronger_is, mode_held}
use Rattle.model.proofs.BookLaws.{Booked}
use Rattle.rules.specs.Calls.{held_with, unpinned_at, granted}
use Rattle.rules.proofs.Leaves.GrantLaws.{granted_slot, granted_holding, granted_slot_lem, granted_holding_lem, lowest_page, lowest_dirty}
use Rattle.rules.proofs.Leaves.UnpinLaws.{unpinned_holding, unpinned_slot, unpinned_holding_lem, unpinned_slot_lem}

-- ---- the holding that a grant puts

put_held : (own : Holding) (mode : Mode) (arrival clock : ℕ) → is_held (held_with (is_held own.pin) own (pin_of mode) arrival clock).pin ≡ true
put_held own mode arrival clock = go (is_held own.pin) refl
  where
    go : (b : Bool) → is_held own.pin ≡ b → is_held (held_with b own (pin_of mode) arrival clock).pin ≡ true
    go true e = stronger_is (λ x. is_held x ≡ true) own.pin (pin_of mode) e (mode_held mode)
    go false e = mode_held mode

stronger_write : (p : Pin) (mode : Mode) → is_write p ≡ true → is_write (stronger p (pin_of mode)) ≡ true
unfolding stronger
stronger_write Absent mode e = true_false (sym e)
stronger_write Unpinned mode e = true_false (sym e)
stronger_write Read mode e = true_false (sym e)
stronger_write Write Mode.Read e = refl
stronger_write Write Mode.Write e = refl

put_written : (k : ℕ) (own : Holding) (mode : Mode) (arrival clock : ℕ) → written k own ≡ true → written k (held_with (is_held own.pin) own (pin_of mode) arrival clock) ≡ true
unfolding written
put_written k own mode arrival clock e =
    let x = and_true (is_write own.pin) (leb own.arrival k) e in
    rw (write_held own.pin x.0, stronger_write own.pin mode x.0) x.1

-- what holds of the slot that is put, and of the old one elsewhere
put_or_old : (P : Slot → Type 0) (i slot : ℕ) (x y : Slot) → P y → (i ≡ slot → P x) → P (cond (eqb i slot) x y)
put_or_old P i slot x y h f = elim (ℕ_discrete i slot) [
  | yes m ↦ rw (eq-eqb i slot m) (f m)
  | no m ↦ rw (ne_eqb i slot m) h
]

module _ (u : State) (z : Sized u) (row slot : ℕ) (r : row < 32) (b : slot < 64) (mode : Mode) (arrival : ℕ) (back : Option ℕ) where
  pub granted_holds : (i q : ℕ) → q < 32 → holds u i q ≡ true → holds (granted u row slot mode arrival back).state i q ≡ true
  granted_holds i q h e = ap (λ (x : Holding). is_held x.pin) (granted_holding_lem u z row slot r b mode arrival back i q h) ∙ go (eqb i slot && eqb q row)
    where
      go : (own : Bool) → is_held (cond own (granted_holding u row slot mode arrival) (holding_at u i q)).pin ≡ true
      go true = put_held (holding_at u slot row) mode arrival u.clock
      go false = e

  pub granted_booked : (k page i : ℕ) → Booked k page u (granted u row slot mode arrival back).state i
  granted_booked k page i = record {
    has_it = λ h. rw (granted_slot_lem u z row slot r b mode arrival back i) (put_or_old (λ x. has_page page x.content ≡ true) i slot (granted_slot u row slot) (slot_at u i) h (λ m. lowest_page (level_of row) page (slot_at u slot).content ∙ (rw m at h)));
    dirty = λ h. rw (granted_slot_lem u z row slot r b mode arrival back i) (put_or_old (λ x. dirty_in x.content ≡ true) i slot (granted_slot u row slot) (slot_at u i) h (λ m. lowest_dirty (level_of row) (slot_at u slot).content ∙ (rw m at h)));
    wrote = λ h q m w. inl (rw (granted_holding_lem u z row slot r b mode arrival back i q m) (stays q w));
  }
    where
      stays : (q : ℕ) → written k (holding_at u i q) ≡ true → written k (cond (eqb i slot && eqb q row) (granted_holding u row slot mode arrival) (holding_at u i q)) ≡ true
      stays q w = go (eqb i slot) (eqb q row) refl refl
        where
          go : (a c : Bool) → eqb i slot ≡ a → eqb q row ≡ c → written k (cond (a && c) (granted_holding u row slot mode arrival) (holding_at u i q)) ≡ true
          go true true x y = put_written k (holding_at u slot row) mode arrival u.clock (rw (eqb-true i slot x, eqb-true q row y) at w)
          go true false x y = w
          go false c x y = w

-- ---- unpin

module _ (s : State) (z : Sized s) (row slot : ℕ) (r : row < 32) (b : slot < 64) where
  pub unpinned_holds : (i q : ℕ) → q < 32 → holds s i q ≡ true → holds (unpinned_at s row slot) i q ≡ true
  unpinned_holds i q h e = ap (λ (x : Holding). is_held x.pin) (unpinned_holding_lem s z row slot r b i q h) ∙ go (eqb i slot && eqb q row)
    where
      go : (own : Bool) → is_held (cond own (unpinned_holding (holding_at s slot row)) (holding_at s i q)).pin ≡ true
      go true = refl
      go false = e

  pub unpinned_booked : (page i : ℕ) → Booked s.clock page s (unpinned_at s row slot) i
  unpinned_booked page i = record {
    has_it = λ h. rw (unpinned_slot_lem s z row slot r b i) (put_or_old (λ x. has_page page x.content ≡ true) i slot (unpinned_slot s row slot) (slot_at s i) h (λ m. dirtied_page page (written s.clock (holding_at s slot row)) (slot_at s slot) ∙ (rw m at h)));
    dirty = λ h. rw (unpinned_slot_lem s z row slot r b i) (put_or_old (λ x. dirty_in x.content ≡ true) i slot (unpinned_slot s row slot) (slot_at s i) h (λ m. dirtied_stays (written s.clock (holding_at s slot row)) (slot_at s slot) (rw m at h)));
    wrote = λ h q m w. go h q m w (eqb i slot) (eqb q row) refl refl;
  }
    where
      go : has_page page (slot_at s i).content ≡ true → (q : ℕ) → q < 32 → written s.clock (holding_at s i q) ≡ true → (a c : Bool) → eqb i slot ≡ a → eqb q row ≡ c
          → (written s.clock (holding_at (unpinned_at s row slot) i q) ≡ true) ⊎ (dirty_in (slot_at (unpinned_at s row slot) i).content ≡ true)
      go h q m w true true x y =
          inr (rw (unpinned_slot_lem s z row slot r b i, x) (rw (rw (eqb-true i slot x, eqb-true q row y) at w) (dirtied_is page (slot_at s slot) (rw (eqb-true i slot x) at h))))
      go h q m w true false x y = inl (rw (unpinned_holding_lem s z row slot r b i q m, x, y) w)
      go h q m w false c x y = inl (rw (unpinned_holding_lem s z row slot r b i q m, x) w)
