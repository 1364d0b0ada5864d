-- Before a row has begun, rows stay free and slots empty, and borders stay in order.
use mathlib.Core.Path.{◌≡◌, refl, ◌∙◌}
use mathlib.Core.Bool.{Bool, true, false, cond}
use Prim.Native.Nat.{ℕ, ◌<◌}
use lib.Dec.{eqb}
use Rattle.seq.proofs.Tests.{true_false}
use Rattle.model.specs.declared.Call.{Call}
use Rattle.model.specs.declared.Condition.TheVariants.{Free}
use Rattle.model.specs.declared.Outcome.{Outcome}
use Rattle.model.specs.declared.Row.{Row}
use Rattle.model.specs.declared.State.{State}
use Rattle.model.specs.Parties.{row_of}
use Rattle.model.specs.State.{free_row, row_at, slot_at}
use Rattle.model.specs.Changes.{wrote_slot, released, killed}
use Rattle.model.proofs.StateLaws.{row_put}
use Rattle.model.proofs.ChangeLaws.{released_slot, sized_released}
use Rattle.rules.specs.Calls.{row_ended, unpinned_at, delivered_row, delivered_rows, advanced, is_late, late_killed, three_steps, served}
use Rattle.rules.specs.Run.{outcome}
use Rattle.rules.specs.SoundFacts.{Sound, BordersSound}
use Rattle.rules.proofs.Leaves.CallEffects.{Effect, unchanged, starts, begins, unpins, ends, ticks, sets, serves, effect}
use Rattle.rules.proofs.Leaves.SettingLaws.{served_unset}
use Rattle.rules.proofs.Leaves.TickLaws.{later, later_row, ticked_row, ticked_slot}
use Rattle.rules.proofs.Stays.StaysBase.{slot_marked}
use Rattle.rules.proofs.Stays.StaysFresh.{fresh_borders}
use Rattle.rules.proofs.Stays.StaysBegun.{row_begun_lem, begun_still}
use Rattle.rules.proofs.Stays.StaysTick.{ticked_sound}
use Rattle.rules.proofs.Stays.StaysTries.{tried_facts}

module _ (s : State) (z : Sound s) (h : BordersSound s) where
  ended_borders : (row : ℕ) → row < 32 → BordersSound (row_ended s row)
  unfolding released
  ended_borders row b = record {
    valid = h.valid;
    free = λ e r g. rw (row_put (released (eqb row) s) (sized_released (eqb row) s z.sized) row free_row r b) (go (eqb r row) (row_at s r) (h.free e r g));
    empty = λ e i g. (slot_marked (wrote_slot (eqb row) s i) (slot_at s i) (slot_at (released (eqb row) s) i) (released_slot (eqb row) s z.sized i g)).filled ∙ h.empty e i g;
  }
    where
      go : (t : Bool) (x : Row) → x.condition ≡ Free → (cond t free_row x).condition ≡ Free
      go true x e = refl
      go false x e = e

  pub ticked_borders : BordersSound (late_killed (later s))
  unfolding late_killed delivered_rows advanced killed released is_late delivered_row
  ticked_borders = record {
    valid = h.valid;
    free = free;
    empty = λ e i g. (slot_marked (wrote_slot (is_late (later s)) (later s) i) (slot_at s i) (slot_at (late_killed (later s)) i) (ticked_slot s z.sized i g)).filled ∙ h.empty e i g;
  }
    where
      free : s.begun ≡ false → (r : ℕ) → r < 32 → (row_at (late_killed (later s)) r).condition ≡ Free
      free e r g = rw (ticked_row s z.sized r g, later_row s z.sized r g, h.free e r g)

pub stays_borders : (s : State) (c : Call) → Sound s → BordersSound s → BordersSound (outcome s c).state
unfolding unpinned_at
stays_borders s c z h = go (outcome s c) (effect s c)
  where
    go : (o : Outcome) → Effect s c o → BordersSound o.state
    go o (unchanged a q e) = rw e h
    go o (starts slots delay q t e) = rw e (fresh_borders slots delay)
    go o (begins level number deadline q t e) = rw e (record { valid = h.valid; free = λ w. true_false w; empty = λ w. true_false w })
    go o (unpins level number page slot q t f p e) =
        rw e (begun_still s h (unpinned_at s (row_of level number) slot) (refl, refl) (row_begun_lem s h (row_of level number) t.names.row_is (rw t.idle)))
    go o (ends level number q n e) = rw e (ended_borders s z h (row_of level number) n.names.row_is)
    go o (ticks room q w k e) = rw e (tried_facts (three_steps s) (ticked_sound s z k) (ticked_borders s z h)).1
    go o (sets b q t e) = rw e (record { valid = t.valid; free = h.free; empty = h.empty })
    go o (serves row page mode b a m e) = rw e (begun_still s h (served s row page mode).state (served_unset s row page mode) (row_begun_lem s h row b (rw m.0)))
