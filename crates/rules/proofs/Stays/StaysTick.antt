-- A tick leaves a sound state sound. Between its steps a live row's deadline may have passed; such rows are killed last.
use mathlib.Core.Path.{◌≡◌, refl}
use mathlib.Core.Bool.{Bool, true, false, cond, ◌&&◌}
use Prim.Native.Nat.{ℕ, ◌+◌, ◌<◌, ◌≤◌}
use native.Mathlib.Omega.{arith}
use borrow.Author.Tests.{leb-true, leb-false, eqb-true}
use lib.Dec.{leb, eqb}
use Rattle.seq.proofs.Tests.{false_not, and_true}
use Rattle.model.specs.declared.Cause.TheVariants.{Late}
use Rattle.model.specs.declared.Condition.{Condition}
use Rattle.model.specs.declared.Condition.TheVariants.{Free, Idle, Fetching, Waiting, Killed}
use Rattle.model.specs.declared.State.{State}
use Rattle.model.specs.Parties.{last_clock, is_past}
use Rattle.model.specs.State.{row_at, slot_at, holding_at}
use Rattle.model.specs.Words.{is_live, holds, pins}
use Rattle.rules.specs.Sound.{awaits, in_time}
use Rattle.rules.specs.Calls.{delivered, delivered_row, delivered_rows, is_late, late_killed, advanced}
use Rattle.rules.specs.SoundFacts.{RowSound, OrderSound, Sound}
use Rattle.rules.proofs.Facts.SoundFacts.{live_taken}
use Rattle.rules.proofs.Leaves.TickLaws.{later, delivered_live, delivered_free, sized_later, later_row}
use Rattle.rules.proofs.Stays.StaysBase.{Base, base, slot_stays, same}
use Rattle.rules.proofs.Stays.StaysChange.{old_slot, old_holding, base_change}
use Rattle.rules.proofs.Stays.StaysOrder.{order_stays}
use Rattle.rules.proofs.Stays.StaysRows.{settled_stays, awaiting_stays}
use Rattle.rules.proofs.Stays.StaysDrop.{killed_rest}

module _ (s : State) (h : Sound s) where
  next_base : s.clock < last_clock → Base (later s)
  unfolding delivered_rows advanced delivered_row
  next_base early = base_change s (later s) (base s h) (record {
    sized = sized_later s h.sized;
    size = refl;
    delay = refl;
    clock = omega arith;
    clock_most = omega arith;
    borders = λ _ _ _. refl;
    slot = λ i g. old_slot (slot_stays (slot_at s i) (slot_at s i) refl) (omega (arith, (h.slot i g).touch));
    holding = λ i r _ _. old_holding (same refl);
    live = λ i r g f w. rw (later_row s h.sized r f, delivered_live (s.clock + 1) (row_at s r).condition) (h.held i r g f w).live;
  })

  in_time_lem : (d : ℕ) → is_past (s.clock + 1) d ≡ false → in_time (later s) d ≡ true
  unfolding delivered_rows advanced
  in_time_lem d e = false_not (is_past (s.clock + 1) d) e

  -- a delivered row, if its deadline has not passed
  delivered_sound : (r : ℕ) (x : Condition) (d : ℕ) → RowSound s r x d → is_live (delivered (s.clock + 1) x) && is_past (s.clock + 1) d ≡ false → RowSound (later s) r (delivered (s.clock + 1) x) d
  unfolding delivered_rows advanced awaits
  delivered_sound r Free d f e = f
  delivered_sound r (Killed cause) d f e = f
  delivered_sound r Idle d f e = settled_stays s (later s) r (λ i _. same refl) d d (omega arith) (in_time_lem d e) f
  delivered_sound r (Waiting page mode) d f e = (settled_stays s (later s) r (λ i _. same refl) d d (omega arith) (in_time_lem d e) f.0, f.1, f.2)
  delivered_sound r (Fetching due) d f e = go (leb due (s.clock + 1)) refl
    where
      arrived : due ≤ s.clock + 1 → (i : ℕ) → i < 64 → holds s i r ≡ true → (b : Bool) → awaits s r due i ≡ b → (holding_at s i r).arrival ≤ s.clock + 1
      arrived b i g w true q = omega (arith, eqb-true (holding_at s i r).arrival due (and_true (pins s i r) (eqb (holding_at s i r).arrival due) q).1)
      arrived b i g w false q = omega (arith, f.others i g w q)

      go : (b : Bool) → leb due (s.clock + 1) ≡ b → RowSound (later s) r (cond (leb due (s.clock + 1)) Idle (Fetching due)) d
      go true q = rw q (record {
        deadline = in_time_lem d (rw q at e);
        arrived = λ i g w. arrived (leb-true due (s.clock + 1) q) i g w (awaits s r due i) refl;
      })
      go false q = rw q (awaiting_stays s (later s) r (λ i _. same refl) (λ i _ _. refl) due d (omega arith) (in_time_lem d (rw q at e)) (leb-false due (s.clock + 1) q) f)

  next_rows : (r : ℕ) → r < 32 → is_late (later s) r ≡ false → RowSound (later s) r (row_at (later s) r).condition (row_at (later s) r).deadline
  unfolding is_late delivered_rows advanced delivered_row
  next_rows r b e = rw (later_row s h.sized r b) (delivered_sound r (row_at s r).condition (row_at s r).deadline (h.row r b) (rw (later_row s h.sized r b) at e))

  -- no row is delivered from free or to it
  next_order : OrderSound (later s)
  unfolding delivered_rows advanced delivered_row
  next_order = order_stays s (later s) h.order refl (λ r b. rw (later_row s h.sized r b) (delivered_free (s.clock + 1) (row_at s r).condition))

  pub ticked_sound : s.clock < last_clock → Sound (late_killed (later s))
  unfolding late_killed is_late
  ticked_sound early =
      killed_rest (is_late (later s)) Late (later s) (next_base early) next_rows next_order
      (λ r b e. live_taken (row_at (later s) r).condition (and_true (is_live (row_at (later s) r).condition) (is_past (later s).clock (row_at (later s) r).deadline) e).0)
