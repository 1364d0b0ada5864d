-- The rows with a conflicting pin killed and the page granted: the state stays sound.
use mathlib.Core.Path.{◌≡◌, refl, sym, ◌∙◌}
use mathlib.Core.Bool.{Bool, true, false, cond}
use Prim.Native.Nat.{ℕ, ◌+◌, ◌<◌, ◌≤◌}
use native.Mathlib.Omega.{arith}
use borrow.Author.Tests.{ne_eqb}
use Rattle.seq.proofs.Tests.{true_false, not_false_true}
use Rattle.std.specs.Prelude.{None}
use Rattle.model.specs.declared.Cause.{Cause}
use Rattle.model.specs.declared.Cause.TheVariants.{Taken}
use Rattle.model.specs.declared.Mode.{Mode}
use Rattle.model.specs.declared.State.{State}
use Rattle.model.specs.Parties.{level_of, may_access}
use Rattle.model.specs.State.{empty_holding, row_at, slot_at, holding_at}
use Rattle.model.specs.Words.{is_filled, page_in, arrival_in, pin_of, conflict, holds}
use Rattle.model.specs.Changes.{killed, wrote_slot}
use Rattle.model.proofs.ChangeLaws.{killed_row_lem, killed_slot, killed_holding, killed_clock, killed_delay, killed_borders}
use Rattle.model.proofs.PinLaws.{no_pin}
use Rattle.rules.specs.Calls.{granted, conflicts}
use Rattle.rules.specs.SoundFacts.{Sound}
use Rattle.rules.proofs.Facts.SoundFacts.{held_taken}
use Rattle.rules.proofs.Leaves.GrantLaws.{own_spared, unheld_spared}
use Rattle.rules.proofs.Stays.StaysBase.{slot_marked, same}
use Rattle.rules.proofs.Stays.StaysRows.{settled_stays}
use Rattle.rules.proofs.Stays.StaysDrop.{killed_sound}
use Rattle.rules.proofs.Stays.StaysNew.{Asking}
use Rattle.rules.proofs.Stays.StaysGrant.{granted_sound}

-- a row that no kill takes may ask after it as before
pub asking_killed : (some : ℕ → Bool) (cause : Cause) (s : State) (row : ℕ) → Sound s → some row ≡ false → Asking s row → Asking (killed some cause s) row
asking_killed some cause s row h e a =
    let x : row_at (killed some cause s) row ≡ row_at s row = killed_row_lem some s h.sized cause row a.row_is ∙ rw e in
    record {
      row_is = a.row_is;
      live = rw x a.live;
      settled = rw x (settled_stays s (killed some cause s) row (λ i _. same (killed_holding some s h.sized cause i row a.row_is ∙ rw e))
          (row_at s row).deadline (row_at s row).deadline (omega (arith, killed_clock some cause s)) (rw (killed_clock some cause s) a.settled.deadline) a.settled);
    }

module _ (s : State) (row : ℕ) (mode : Mode) (h : Sound s) (a : Asking s row) where
  -- after the kill no pin conflicts
  alone : (slot q : ℕ) → q < 32 → (row ≡ q → ⊥) → conflict (pin_of mode) (holding_at (killed (conflicts s row slot mode) Taken s) slot q).pin ≡ false
  unfolding conflicts
  alone slot q b m = rw (killed_holding (conflicts s row slot mode) s h.sized Taken slot q b) (go (conflicts s row slot mode q) refl)
    where
      go : (x : Bool) → conflicts s row slot mode q ≡ x → conflict (pin_of mode) (cond (conflicts s row slot mode q) empty_holding (holding_at s slot q)).pin ≡ false
      go true e = rw e (no_pin (pin_of mode) empty_holding.pin refl)
      go false e = rw e (rw (ne_eqb q row (λ w. m (sym w))) at e)

  -- the conflicting rows killed, and the page granted
  pub killed_granted : (slot arrival : ℕ) → slot < 64 → is_filled (slot_at s slot).content ≡ true → may_access s.borders (level_of row) (page_in (slot_at s slot).content) mode ≡ true
      → arrival_in (slot_at s slot).content ≤ arrival → arrival ≤ s.clock + s.delay → (holds s slot row ≡ true → arrival ≤ s.clock)
      → Sound (granted (killed (conflicts s row slot mode) Taken s) row slot mode arrival None).state
  killed_granted slot arrival b f m l n o =
      let some = conflicts s row slot mode in
      let k = slot_marked (wrote_slot some s slot) (slot_at s slot) (slot_at (killed some Taken s) slot) (killed_slot some s h.sized Taken slot b) in
      let own : holding_at (killed some Taken s) slot row ≡ holding_at s slot row = killed_holding some s h.sized Taken slot row a.row_is ∙ rw (own_spared s row slot mode) in
      granted_sound (killed some Taken s) row slot mode arrival (killed_sound some Taken s h (λ r g w. held_taken s h slot r b g (not_false_true (holds s slot r) (λ e. true_false (sym w ∙ unheld_spared s row slot mode r e)))))
      (record {
        asking = asking_killed some Taken s row h (own_spared s row slot mode) a;
        slot_is = b;
        filled = k.filled ∙ f;
        allowed = rw (k.page, killed_borders some Taken s) m;
        least = rw k.arrival l;
        most = omega (arith, killed_clock some Taken s, killed_delay some Taken s);
        own = λ w. omega (arith, killed_clock some Taken s, o (rw own at w));
        alone = alone slot;
      })
      None
