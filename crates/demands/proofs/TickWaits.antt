-- Document 02, T-05, over lent areas: after an accepted tick, why a row waits, what became of a row that waited, and of the best live row of all.
use mathlib.Core.Path.{◌≡◌}
use mathlib.Core.List.{List}
use Prim.Native.Nat.{ℕ, ◌<◌}
use Rattle.model.specs.declared.Answer.TheVariants.{Clock}
use Rattle.model.specs.declared.Call.TheVariants.{Tick}
use Rattle.model.specs.declared.Condition.TheVariants.{Waiting}
use Rattle.model.specs.declared.Mode.{Mode}
use Rattle.model.specs.declared.State.{State}
use Rattle.model.specs.State.{row_at}
use Rattle.rules.specs.Run.{fills_of}
use Rattle.rules.specs.Waits.{WaitReason, AfterWaiting, BestLive, PinsAll, IdleOrFetchingUnless}
use Rattle.rules.proofs.Promises.TickWaits as States
use Rattle.area.specs.Layout.{decoded}
use Rattle.sabre.specs.Lent.{answer_on, area_after}
use Rattle.demands.proofs.Steps.{TickOn, tick_on}

module _ (a : List ℕ) (room clock : ℕ) (e : answer_on a (Tick room) ≡ Clock clock) (row page : ℕ) (mode : Mode) (b : row < 32) where
  -- the area that the tick leaves, as a state
  abbrev t : State
  t = decoded (area_after a (Tick room))

  x : TickOn a room clock
  x = tick_on a room clock e

  -- a row that waits after the tick waited before it, and has its reason in the area that the tick leaves: a better row that it sees pins its page in conflict,
  -- or its page is unseen and every slot is held by a row of lower level, by a better row of its own level, or pinned by itself
  pub still_waiting : (row_at t row).condition ≡ Waiting page mode → ((row_at (decoded a) row).condition ≡ Waiting page mode) × WaitReason t row page mode
  still_waiting = rw x.left (States.still_waiting (decoded a) x.sound_state room clock x.answer row page mode b)

  -- a row that waited before the tick waits on for such a reason; or the list has an entry by which it is granted its page in its mode; or its deadline is past and it is late;
  -- or it is taken, and the list has an entry of a better row
  pub waiter_after : (row_at (decoded a) row).condition ≡ Waiting page mode → AfterWaiting (decoded a) t (fills_of (decoded a) (Tick room)) row page mode
  waiter_after = rw x.left (States.waiter_after (decoded a) x.sound_state room clock x.answer row page mode b)

  -- the best live row of all that waits before the tick is idle or fetching after it, unless that tick makes it late or it pins every slot itself
  pub best_served : (row_at (decoded a) row).condition ≡ Waiting page mode → BestLive (decoded a) row → IdleOrFetchingUnless (decoded a) t row
  best_served = rw x.left (States.best_served (decoded a) x.sound_state room clock x.answer row page mode b)

  -- and a row that is the best after the tick waits then only where it pins every slot itself
  pub best_waits : BestLive t row → (row_at t row).condition ≡ Waiting page mode → PinsAll t row
  best_waits = rw x.left (States.best_waits (decoded a) x.sound_state room clock x.answer row page mode b)
