-- Demand 2 over lent areas: a row that is killed or free holds nothing; who is taken had a pin; a holding goes only so, or with its slot; what was written is dirty or reported, and what is reported was dirty.
use mathlib.Core.Path.{◌≡◌, refl, sym, ◌∙◌}
use mathlib.Core.Bool.{true, false}
use mathlib.Core.List.{List}
use mathlib.Core.Logic.{◌⊎◌}
use Prim.Native.Nat.{ℕ, ◌<◌, ◌≤◌}
use Rattle.seq.proofs.Tests.{true_false, not_true_false}
use Rattle.model.specs.declared.Answer.{Answer}
use Rattle.model.specs.declared.Answer.TheVariants.{RowFree, RowKilled}
use Rattle.model.specs.declared.Cause.{Cause}
use Rattle.model.specs.declared.Cause.TheVariants.{Late, Taken}
use Rattle.model.specs.declared.Condition.{Condition}
use Rattle.model.specs.declared.Condition.TheVariants.{Free, Idle, Fetching, Waiting, Killed}
use Rattle.model.specs.declared.State.{State}
use Rattle.model.specs.Parties.{row_of}
use Rattle.model.specs.State.{empty_holding, row_at, slot_at, holding_at}
use Rattle.model.specs.Words.{is_live, page_in, dirty_in, is_write, holds}
use Rattle.rules.specs.Sound.{sound}
use Rattle.rules.specs.Answers.{word, is_started}
use Rattle.rules.specs.Calls.{looked}
use Rattle.model.specs.declared.Call.{Call}
use Rattle.model.specs.declared.Call.TheVariants.{Look}
use Rattle.rules.specs.Content.{Fits}
use Rattle.rules.specs.Slots.{holds_page, Refilled, Dirty, Reported, WasDirty}
use Rattle.rules.specs.Taken.{TakenBy}
use Rattle.rules.proofs.Facts.SoundFacts.{facts}
use Rattle.rules.proofs.Promises.LetsGo as States
use Rattle.rules.proofs.Promises.Taken as Taking
use Rattle.rules.proofs.Promises.WasDirty as Dirtied
use Rattle.area.specs.Layout.{decoded}
use Rattle.sabre.specs.Lent.{answer_on, is_refused, area_after, fit_area}
use Rattle.demands.proofs.Areas.{accepted_sound, sound_answer, look_answer, look_named}
use Rattle.demands.proofs.Steps.{step_on}
use Rattle.sabre.proofs.SoundAreas.{fit_area_lem}

-- ---- rows

-- in a sound state a row that is free or killed has no holding
unheld : (s : State) → sound s ≡ true → (row slot : ℕ) → row < 32 → slot < 64 → is_live (row_at s row).condition ≡ false → holding_at s slot row ≡ empty_holding
unheld s z row slot r b d =
    let t = facts s z in
    t.unheld slot row b r (not_true_false (holds s slot row) (λ h. true_false (sym (t.held slot row b r h).live ∙ d)))

killed_condition : (x : Condition) (cause : Cause) → looked x ≡ RowKilled cause → is_live x ≡ false
killed_condition Free cause e = refl
killed_condition Idle cause e = true_false (cc)
killed_condition (Fetching due) cause e = true_false (cc)
killed_condition (Waiting page mode) cause e = true_false (cc)
killed_condition (Killed c) cause e = refl

free_condition : (x : Condition) → looked x ≡ RowFree → is_live x ≡ false
free_condition Free e = refl
free_condition Idle e = true_false (cc)
free_condition (Fetching due) e = true_false (cc)
free_condition (Waiting page mode) e = true_false (cc)
free_condition (Killed c) e = refl

killed_accepted : (cause : Cause) → is_refused (RowKilled cause) ≡ false
unfolding word
killed_accepted Late = refl
killed_accepted Taken = refl

-- the row of which a look says something
looked_unheld : (a : List ℕ) (level number : ℕ) (x : Answer) → is_refused x ≡ false → ((c : Condition) → looked c ≡ x → is_live c ≡ false) → answer_on a (Look level number) ≡ x
    → (slot : ℕ) → slot < 64 → holding_at (decoded a) slot (row_of level number) ≡ empty_holding
looked_unheld a level number x r d e slot b =
    let z = accepted_sound a (Look level number) refl (rw e r) in
    let m = look_named a level number (rw e r) in
    unheld (decoded a) (fit_area_lem a z).sound_state (row_of level number) slot m.row_is b
    (d (row_at (decoded a) (row_of level number)).condition (sym (look_answer a level number z m.level_is m.number_is) ∙ e))

-- On any area: a row of which a look says that it was killed, as late or as taken, or that it is free, holds nothing in any slot.
pub killed_unheld : (a : List ℕ) (level number : ℕ) (cause : Cause) → answer_on a (Look level number) ≡ RowKilled cause
    → (slot : ℕ) → slot < 64 → holding_at (decoded a) slot (row_of level number) ≡ empty_holding
killed_unheld a level number cause = looked_unheld a level number (RowKilled cause) (killed_accepted cause) (λ c. killed_condition c cause)

pub free_unheld : (a : List ℕ) (level number : ℕ) → answer_on a (Look level number) ≡ RowFree
    → (slot : ℕ) → slot < 64 → holding_at (decoded a) slot (row_of level number) ≡ empty_holding
unfolding word
free_unheld a level number = looked_unheld a level number RowFree refl free_condition

-- ---- calls on an area that is sound in one of the two layouts

module _ (a : List ℕ) (z : fit_area a ≡ true) (c : Call) (fits : Fits c) where
  -- a row that was live and is ended or killed, by whatever call of whatever row, has let go of every page that it held
  pub lets_go : (row slot : ℕ) → row < 32 → slot < 64
      → is_live (row_at (decoded a) row).condition ≡ true → is_live (row_at (decoded (area_after a c)) row).condition ≡ false
      → holds (decoded a) slot row ≡ true → holds (decoded (area_after a c)) slot row ≡ false
  lets_go row slot r b =
      rw (step_on a c z fits).1 (States.lets_go (decoded a) (fit_area_lem a z).sound_state c row slot r b)

  -- a row that the call newly makes taken had, on a state of the call's course, a pin in conflict on the slot of the page that another row asked for, or a pin on the slot that was chosen for it
  pub taken_only : (row : ℕ) → row < 32 → ((row_at (decoded a) row).condition ≡ Killed Taken → ⊥) → (row_at (decoded (area_after a c)) row).condition ≡ Killed Taken → TakenBy (decoded a) c row
  taken_only row r new =
      rw (step_on a c z fits).1 (Taking.taken_only (decoded a) (fit_area_lem a z).sound_state row r new c)

  -- a row no longer holds a page only where it is no longer live, or where it had no pin and a request that is served in the course of the call chose the slot for another page
  pub drops_only : (slot row page : ℕ) → slot < 64 → row < 32 → holds_page (decoded a) slot row page ≡ true → holds_page (decoded (area_after a c)) slot row page ≡ false
      → (is_live (row_at (decoded (area_after a c)) row).condition ≡ false) ⊎ Refilled (decoded a) c (decoded (area_after a c)) slot row
  drops_only slot row page b r =
      rw (step_on a c z fits).1 (States.drops_only (decoded a) (fit_area_lem a z).sound_state c slot row page b r)

  -- a page that is reported for write-back, by the answer or by an entry of the list, stood in that slot on a state of the call's course: dirty, or written by a row that the call took
  pub reported_dirty : (slot page : ℕ) → Reported (decoded a) c slot page → WasDirty (decoded a) c slot page
  reported_dirty = Dirtied.reported_dirty (decoded a) (fit_area_lem a z).sound_state c

  -- by every call but an accepted start
  module _ (again : is_started (answer_on a c) ≡ false) (slot : ℕ) (b : slot < 64) where
    -- a dirty page stays dirty in its slot, or is reported for write-back from it
    pub dirty_not_lost : dirty_in (slot_at (decoded a) slot).content ≡ true
        → Dirty (decoded (area_after a c)) slot (page_in (slot_at (decoded a) slot).content) ⊎ Reported (decoded a) c slot (page_in (slot_at (decoded a) slot).content)
    dirty_not_lost =
        let x = step_on a c z fits in
        rw x.1 (States.dirty_not_lost (decoded a) (fit_area_lem a z).sound_state c (rw (sound_answer a c z) at again) slot b)

    -- when a write pin goes and its arrival ≤ clock, the slot becomes dirty, or the page is reported for write-back from it
    pub write_not_lost : (row : ℕ) → row < 32 → is_write (holding_at (decoded a) slot row).pin ≡ true → (holding_at (decoded a) slot row).arrival ≤ (decoded (area_after a c)).clock
        → is_write (holding_at (decoded (area_after a c)) slot row).pin ≡ false
        → Dirty (decoded (area_after a c)) slot (page_in (slot_at (decoded a) slot).content) ⊎ Reported (decoded a) c slot (page_in (slot_at (decoded a) slot).content)
    write_not_lost row r =
        let x = step_on a c z fits in
        rw x.1 (States.write_not_lost (decoded a) (fit_area_lem a z).sound_state c (rw (sound_answer a c z) at again) slot b row r)
