-- Document 02, T-01: a live row's deadline is at or above the clock; a tick makes a live row late exactly when the clock is above its deadline, and delivers a fetch that is due where the clock is not above its row's deadline, unless a try kills the row.
use mathlib.Core.Path.{◌≡◌, refl, sym, ◌∙◌}
use mathlib.Core.Bool.{Bool, true, false, cond, ◌&&◌, not}
use mathlib.Core.List.{[]}
use mathlib.Core.Logic.{◌⊎◌, inl, inr}
use Prim.Native.Nat.{ℕ, ◌+◌, ◌<◌, ◌≤◌}
use native.Mathlib.Omega.{arith}
use borrow.Author.Tests.{ltb-true, ltb-false, leb-true, le-ltb, le-leb, lt-leb}
use lib.Dec.{leb, ltb}
use Rattle.seq.proofs.Tests.{true_false}
use Rattle.model.specs.declared.Answer.TheVariants.{Clock}
use Rattle.model.specs.declared.Call.TheVariants.{Tick}
use Rattle.model.specs.declared.Cause.TheVariants.{Late, Taken}
use Rattle.model.specs.declared.Condition.{Condition}
use Rattle.model.specs.declared.Condition.TheVariants.{Free, Idle, Fetching, Waiting, Killed}
use Rattle.model.specs.declared.Row.{Row}
use Rattle.model.specs.declared.State.{State}
use Rattle.model.specs.Parties.{last_clock, is_past}
use Rattle.model.specs.State.{row_at}
use Rattle.model.specs.Words.{is_live}
use Rattle.model.specs.Changes.{killed_row}
use Rattle.model.specs.Ranges.{Sized}
use Rattle.rules.specs.Sound.{in_time, sound}
use Rattle.rules.specs.Answers.{word, is_told_late}
use Rattle.rules.specs.Refusals.{tick_refusal}
use Rattle.rules.specs.Calls.{delivered, delivered_row, delivered_rows, is_late, advanced, three_steps, looked}
use Rattle.rules.specs.Listed.{is_idle_or_fetching}
use Rattle.rules.specs.Tries.{all_tried, ticked}
use Rattle.rules.specs.Run.{outcome, fills_of}
use Rattle.rules.specs.SoundFacts.{RowSound}
use Rattle.rules.proofs.Facts.SoundFacts.{facts}
use Rattle.rules.proofs.Leaves.RefusalFacts.{unless_is, tick_taken}
use Rattle.rules.proofs.Leaves.TickLaws.{later, delivered_live, later_row, ticked_row}
use Rattle.rules.proofs.Promises.ServedRows.{SameOrTaken}
use Rattle.rules.proofs.Promises.TriedRows.{AfterTries, same, taken, made, tried_after, tried_others, tried_dead, none_filled}
use Rattle.rules.proofs.Stays.StaysSound.{steps_sound}

-- the deadline is at or above the clock, in the words of T-01
pub in_time_lem : (s : State) (deadline : ℕ) → in_time s deadline ≡ leb s.clock deadline
in_time_lem s deadline = go (is_past s.clock deadline) refl
  where
    go : (b : Bool) → is_past s.clock deadline ≡ b → not b ≡ leb s.clock deadline
    go true e = sym (lt-leb s.clock deadline (ltb-true deadline s.clock e))
    go false e = sym (le-leb s.clock deadline (ltb-false deadline s.clock e))

-- a live row of a sound state is in time
pub deadline_ahead : (s : State) → sound s ≡ true → (row : ℕ) → row < 32 → is_live (row_at s row).condition ≡ true → s.clock ≤ (row_at s row).deadline
deadline_ahead s z row b l =
    leb-true s.clock (row_at s row).deadline (sym (in_time_lem s (row_at s row).deadline) ∙ go (row_at s row).condition (row_at s row).deadline ((facts s z).row row b) l)
  where
    go : (x : Condition) (d : ℕ) → RowSound s row x d → is_live x ≡ true → in_time s d ≡ true
    go Free d h e = true_false (cc)
    go Idle d h e = h.deadline
    go (Fetching due) d h e = h.deadline
    go (Waiting page mode) d h e = h.0.deadline
    go (Killed cause) d h e = true_false (cc)

-- no live row is told to be late
live_told : (x : Condition) → is_live x ≡ true → is_told_late (looked x) ≡ false
unfolding word
live_told Free e = true_false (cc)
live_told Idle e = refl
live_told (Fetching due) e = refl
live_told (Waiting page mode) e = refl
live_told (Killed cause) e = true_false (cc)

-- nor does a try make a row late
after_told : (x y : Row) → AfterTries x y → is_told_late (looked x.condition) ≡ false → is_told_late (looked y.condition) ≡ false
unfolding word
after_told x y (same e) n = rw e n
after_told x y (taken e) n = rw e
after_told x y (made w k d) n = go y.condition k
  where
    go : (c : Condition) → is_idle_or_fetching c ≡ true → is_told_late (looked c) ≡ false
    go Free q = true_false (sym q)
    go Idle q = refl
    go (Fetching due) q = refl
    go (Waiting page mode) q = true_false (sym q)
    go (Killed cause) q = true_false (sym q)

module _ (s : State) (sound-state : sound s ≡ true) (room clock : ℕ) (accepted : (outcome s (Tick room)).answer ≡ Clock clock) where
  z : Sized s
  z = (facts s sound-state).sized

  pub ticked_is : ((outcome s (Tick room)).state ≡ (all_tried (three_steps s)).state) × (clock ≡ s.clock + 1) × (s.clock < last_clock)
  unfolding outcome ticked
  ticked_is =
      unless_is (λ o. o.answer ≡ Clock clock → (o.state ≡ (all_tried (three_steps s)).state) × (clock ≡ s.clock + 1) × (s.clock < last_clock)) (tick_refusal s room) s
      (record { state = (all_tried (three_steps s)).state; answer = Clock (s.clock + 1) }) (λ k e. true_false (cc)) (λ n e. (refl, cc, (tick_taken s room n).early)) accepted

  pub stepped : sound (three_steps s) ≡ true
  stepped = steps_sound s sound-state ticked_is.2

  pub late_is : (row : ℕ) → row < 32 → is_late (later s) row ≡ is_live (row_at s row).condition && ltb (row_at s row).deadline (s.clock + 1)
  unfolding is_late delivered_rows advanced delivered_row
  late_is row b = rw (later_row s z row b, delivered_live (s.clock + 1) (row_at s row).condition)

  -- a row that is late in the steps stays so
  pub late_stays : (row : ℕ) → row < 32 → is_late (later s) row ≡ true → row_at (outcome s (Tick room)).state row ≡ killed_row Late
  late_stays row b e =
      let d : row_at (three_steps s) row ≡ killed_row Late = rw e at (ticked_row s z row b) in
      rw ticked_is.0 (tried_dead (three_steps s) stepped row b (rw d) ∙ d)

  pub late_exactly : (row : ℕ) → row < 32 → is_live (row_at s row).condition ≡ true
      → is_told_late (looked (row_at (outcome s (Tick room)).state row).condition) ≡ ltb (row_at s row).deadline clock
  unfolding word delivered_row
  late_exactly row b live =
      let t = ticked_is in
      rw (t.0, t.1) (go (ltb (row_at s row).deadline (s.clock + 1)) (rw (late_is row b, live) at (ticked_row s z row b)))
    where
      go : (late : Bool) → row_at (three_steps s) row ≡ cond late (killed_row Late) (delivered_row (s.clock + 1) (row_at s row))
          → is_told_late (looked (row_at (all_tried (three_steps s)).state row).condition) ≡ late
      go true e = rw (tried_dead (three_steps s) stepped row b (rw e), e)
      go false e = after_told (row_at (three_steps s) row) (row_at (all_tried (three_steps s)).state row) (tried_after (three_steps s) stepped row b)
          (rw e (live_told (delivered (s.clock + 1) (row_at s row).condition) (delivered_live (s.clock + 1) (row_at s row).condition ∙ live)))

  -- a fetch that is due is delivered by the steps of the tick
  due_idle : (row due : ℕ) → row < 32 → (row_at s row).condition ≡ Fetching due → due ≤ clock → clock ≤ (row_at s row).deadline → (row_at (three_steps s) row).condition ≡ Idle
  unfolding delivered_row
  due_idle row due b f d l =
      let t = ticked_is in
      rw (ticked_row s z row b, late_is row b, f, le-ltb (row_at s row).deadline (s.clock + 1) (omega (arith, t.1)), le-leb due (s.clock + 1) (omega (arith, t.1)))

  -- then the row is idle, unless a try kills it
  pub due_delivered : (row due : ℕ) → row < 32 → (row_at s row).condition ≡ Fetching due → due ≤ clock → clock ≤ (row_at s row).deadline
      → ((row_at (outcome s (Tick room)).state row).condition ≡ Idle) ⊎ ((row_at (outcome s (Tick room)).state row).condition ≡ Killed Taken)
  due_delivered row due b f d l =
      let e = due_idle row due b f d l in
      rw ticked_is.0 (go (row_at (three_steps s) row) (row_at (all_tried (three_steps s)).state row) e (tried_others (three_steps s) stepped row b (rw e)))
    where
      go : (x y : Row) → x.condition ≡ Idle → SameOrTaken x y → (y.condition ≡ Idle) ⊎ (y.condition ≡ Killed Taken)
      go x y e (inl k) = inl (rw k e)
      go x y e (inr k) = inr (rw k)

  -- and it is idle where the tick fills nothing
  pub delivered_alone : (row due : ℕ) → row < 32 → (row_at s row).condition ≡ Fetching due → due ≤ clock → clock ≤ (row_at s row).deadline
      → fills_of s (Tick room) ≡ [] → (row_at (outcome s (Tick room)).state row).condition ≡ Idle
  unfolding fills_of word
  delivered_alone row due b f d l n = rw (ticked_is.0, none_filled (three_steps s) stepped (rw accepted at n)) (due_idle row due b f d l)
