-- Deadlines over lent areas. A deadline is an unsigned 64-bit number, which no sentence of sound says.
-- Document 02, T-01: a tick makes a live row late exactly when the clock is above its deadline.
use mathlib.Core.Path.{◌≡◌, sym, ◌∙◌}
use mathlib.Core.Bool.{true}
use mathlib.Core.List.{List, []}
use mathlib.Core.Logic.{◌⊎◌, inl, inr}
use Prim.Native.Nat.{ℕ, ◌^◌, ◌<◌, ◌≤◌}
use native.Mathlib.Omega.{arith}
use lib.Dec.{ltb}
use Rattle.model.specs.declared.Answer.TheVariants.{RowIdle, RowFetching, RowKilled, Clock}
use Rattle.model.specs.declared.Call.TheVariants.{Tick, Look}
use Rattle.model.specs.declared.Cause.TheVariants.{Taken}
use Rattle.model.specs.declared.Condition.{Condition}
use Rattle.model.specs.declared.Condition.TheVariants.{Idle, Killed}
use Rattle.model.specs.Parties.{row_of}
use Rattle.model.specs.State.{row_at}
use Rattle.model.specs.Words.{is_live}
use Rattle.rules.specs.Answers.{word, is_told_late}
use Rattle.rules.specs.Calls.{looked}
use Rattle.rules.specs.Run.{outcome, fills_of}
use Rattle.rules.proofs.Promises.Deadlines as States
use Rattle.area.specs.Layout.{row_from, decoded}
use Rattle.area.proofs.Elements.{decoded_row}
use Rattle.demands.specs.SlotWords.{deadline_word}
use Rattle.sabre.specs.Lent.{answer_on, area_after, fit_area}
use Rattle.sabre.proofs.SoundAreas.{sound_fit, fit_area_lem, fit_ok}
use Rattle.demands.proofs.Areas.{look_answer, look_named, looked_fetching}
use Rattle.demands.proofs.Steps.{tick_on}

-- the deadline word of each row
deadline_named : (a : List ℕ) (row : ℕ) → row < 32 → deadline_word a row ≡ (row_at (decoded a) row).deadline
unfolding row_from
deadline_named a row b = rw (decoded_row a row b)

pub deadline_fits : (a : List ℕ) → fit_area a ≡ true → (row : ℕ) → row < 32 → deadline_word a row < 2 ^ 64
deadline_fits a z row b = rw (deadline_named a row b) ((fit_ok a z).row row).deadline

-- a live row has a deadline at or above the clock
pub deadline_ahead : (a : List ℕ) → fit_area a ≡ true → (row : ℕ) → row < 32 → is_live (row_at (decoded a) row).condition ≡ true → (decoded a).clock ≤ deadline_word a row
deadline_ahead a z row b l = rw (deadline_named a row b) (States.deadline_ahead (decoded a) (fit_area_lem a z).sound_state row b l)

-- after an accepted tick a row that was live is told to be late exactly where the clock that the tick tells is above its deadline
pub late_exactly : (a : List ℕ) (room clock : ℕ) → answer_on a (Tick room) ≡ Clock clock → (level number : ℕ) → level ≤ 3 → number ≤ 7
    → is_live (row_at (decoded a) (row_of level number)).condition ≡ true
    → is_told_late (answer_on (area_after a (Tick room)) (Look level number)) ≡ ltb (deadline_word a (row_of level number)) clock
unfolding word
late_exactly a room clock e level number l n live =
    let x = tick_on a room clock e in
    let z = x.sound_before in
    let b : row_of level number < 32 = omega arith in
    rw (look_answer (area_after a (Tick room)) level number (sound_fit (area_after a (Tick room)) x.sound_after) l n, x.left, deadline_named a (row_of level number) b)
    (States.late_exactly (decoded a) x.sound_state room clock x.answer (row_of level number) b live)

-- a fetch that is due by the clock that a tick tells is delivered where that clock is not above the row's deadline, unless a try of the same tick kills the row
pub due_delivered : (a : List ℕ) (room clock : ℕ) → answer_on a (Tick room) ≡ Clock clock → (level number due : ℕ) → answer_on a (Look level number) ≡ RowFetching due
    → due ≤ clock → clock ≤ deadline_word a (row_of level number)
    → (answer_on (area_after a (Tick room)) (Look level number) ≡ RowIdle) ⊎ (answer_on (area_after a (Tick room)) (Look level number) ≡ RowKilled Taken)
unfolding word
due_delivered a room clock e level number due f d l =
    let x = tick_on a room clock e in
    let z = x.sound_before in
    let m = look_named a level number (rw f) in
    let b = m.row_is in
    let p = looked_fetching (row_at (decoded a) (row_of level number)).condition due (sym (look_answer a level number z m.level_is m.number_is) ∙ f) in
    rw (look_answer (area_after a (Tick room)) level number (sound_fit (area_after a (Tick room)) x.sound_after) m.level_is m.number_is, x.left)
    (go (row_at (outcome (decoded a) (Tick room)).state (row_of level number)).condition
    (States.due_delivered (decoded a) x.sound_state room clock x.answer (row_of level number) due b p d (rw (deadline_named a (row_of level number) b) at l)))
  where
    go : (x : Condition) → (x ≡ Idle) ⊎ (x ≡ Killed Taken) → (looked x ≡ RowIdle) ⊎ (looked x ≡ RowKilled Taken)
    go x (inl k) = inl (rw k)
    go x (inr k) = inr (rw k)

-- where the tick fills nothing the row is idle
pub delivered_alone : (a : List ℕ) (room clock : ℕ) → answer_on a (Tick room) ≡ Clock clock → (level number due : ℕ) → answer_on a (Look level number) ≡ RowFetching due
    → due ≤ clock → clock ≤ deadline_word a (row_of level number) → fills_of (decoded a) (Tick room) ≡ [] → answer_on (area_after a (Tick room)) (Look level number) ≡ RowIdle
unfolding word
delivered_alone a room clock e level number due f d l n =
    let x = tick_on a room clock e in
    let z = x.sound_before in
    let m = look_named a level number (rw f) in
    let b = m.row_is in
    let p = looked_fetching (row_at (decoded a) (row_of level number)).condition due (sym (look_answer a level number z m.level_is m.number_is) ∙ f) in
    rw (
      look_answer (area_after a (Tick room)) level number (sound_fit (area_after a (Tick room)) x.sound_after) m.level_is m.number_is,
      x.left,
      States.delivered_alone (decoded a) x.sound_state room clock x.answer (row_of level number) due b p d (rw (deadline_named a (row_of level number) b) at l) n,
    )
