-- The answers of a served request, and that no other call is given one.
use mathlib.Core.Path.{◌≡◌, refl}
use mathlib.Core.Bool.{Bool, true, false, cond}
use Prim.Native.Nat.{ℕ}
use Rattle.seq.specs.declared.Found.{Found}
use Rattle.seq.specs.declared.Found.TheVariants.{At, Nowhere}
use Rattle.model.specs.declared.Answer.{Answer}
use Rattle.model.specs.declared.Answer.TheVariants.{
  Refused,
  Started,
  Begun,
  Ready,
  Fetch,
  Wait,
  Unpinned,
  Ended,
  Clock,
  RowFree,
  RowIdle,
  RowFetching,
  RowWaiting,
  RowKilled,
  PageUnseen,
  PageActive,
  PageRead,
  PageWrite,
  PageDormant,
  Open,
  Bordered,
}
use Rattle.model.specs.declared.Call.{Call}
use Rattle.model.specs.declared.Cause.TheVariants.{Late, Taken}
use Rattle.model.specs.declared.Condition.{Condition}
use Rattle.model.specs.declared.Condition.TheVariants.{Free, Idle, Fetching, Waiting, Killed}
use Rattle.model.specs.declared.Pin.{Pin}
use Rattle.model.specs.declared.State.{State}
use Rattle.model.specs.State.{slot_at}
use Rattle.model.specs.Words.{arrival_in, seen, sees_dormant, strongest_pin, least_arrival, slot_of}
use Rattle.rules.specs.Answers.{word, is_clock}
use Rattle.rules.specs.Refusals.{condition_at}
use Rattle.rules.specs.Calls.{looked, viewed_pin, viewed_in}
use Rattle.rules.proofs.Leaves.CallEffects.{Still, refused, looks, views, counts}

-- the answers of a served request
abbrev pub is_served : Answer → Bool
is_served (Refused number) = false
is_served Started = false
is_served Begun = false
is_served (Ready slot back) = true
is_served (Fetch due slot back) = true
is_served Wait = true
is_served Unpinned = false
is_served Ended = false
is_served (Clock clock) = false
is_served RowFree = false
is_served RowIdle = false
is_served (RowFetching due) = false
is_served RowWaiting = false
is_served (RowKilled cause) = false
is_served PageUnseen = false
is_served (PageActive arrival) = false
is_served (PageRead arrival) = false
is_served (PageWrite arrival) = false
is_served (PageDormant arrival) = false
is_served (Open n) = false
is_served Bordered = false

-- questions are answered by no served answer
looked_other : (x : Condition) → is_served (looked x) ≡ false
looked_other Free = refl
looked_other Idle = refl
looked_other (Fetching due) = refl
looked_other (Waiting page mode) = refl
looked_other (Killed cause) = refl

-- what holds of every answer to a view
pub viewed_is : (P : Answer → Type 0) → P PageUnseen → ((n : ℕ) → P (PageActive n)) → ((n : ℕ) → P (PageRead n)) → ((n : ℕ) → P (PageWrite n)) → ((n : ℕ) → P (PageDormant n))
    → (s : State) (level : ℕ) (f : Found) → P (viewed_in f s level)
viewed_is P unseen active read write asleep s level Nowhere = unseen
viewed_is P unseen active read write asleep s level (At slot) = go (seen s level slot) (sees_dormant s level slot) (strongest_pin s level slot)
  where
    go : (a b : Bool) (p : Pin) → P (cond a (viewed_pin p (least_arrival s level slot)) (cond b (PageDormant (arrival_in (slot_at s slot).content)) PageUnseen))
    go true b Pin.Absent = unseen
    go true b Pin.Unpinned = active (least_arrival s level slot)
    go true b Pin.Read = read (least_arrival s level slot)
    go true b Pin.Write = write (least_arrival s level slot)
    go false true p = asleep (arrival_in (slot_at s slot).content)
    go false false p = unseen

-- nor is a call that leaves the state told as a tick is
looked_silent : (x : Condition) → is_clock (looked x) ≡ false
unfolding word
looked_silent Free = refl
looked_silent Idle = refl
looked_silent (Fetching due) = refl
looked_silent (Waiting page mode) = refl
looked_silent (Killed Late) = refl
looked_silent (Killed Taken) = refl

pub still_silent : (s : State) (c : Call) (a : Answer) → Still s c a → is_clock a ≡ false
unfolding word
still_silent s c a (refused n e) = rw e
still_silent s c a (looks level number q n e) = rw e (looked_silent (condition_at s level number))
still_silent s c a (views level page q e) = rw e (viewed_is (λ a. is_clock a ≡ false) refl (λ _. refl) (λ _. refl) (λ _. refl) (λ _. refl) s level (slot_of s page))
still_silent s c a (counts level n q e) = rw e

pub still_unserved : (s : State) (c : Call) (a : Answer) → Still s c a → is_served a ≡ false
still_unserved s c a (refused n e) = rw e
still_unserved s c a (looks level number q n e) = rw e (looked_other (condition_at s level number))
still_unserved s c a (views level page q e) = rw e (viewed_is (λ a. is_served a ≡ false) refl (λ _. refl) (λ _. refl) (λ _. refl) (λ _. refl) s level (slot_of s page))
still_unserved s c a (counts level n q e) = rw e
