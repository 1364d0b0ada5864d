-- Steps 1 to 3 of a request in the slot that has the page, and the plan of them.
use mathlib.Core.Path.{◌≡◌, refl}
use mathlib.Core.Bool.{Bool, true, false, cond}
use mathlib.Core.List.{List}
use Prim.Native.Nat.{ℕ, ◌+◌, ◌<◌}
use lib.ListN.{replicate}
use Rattle.std.specs.Prelude.{Option, Some, None}
use Rattle.seq.specs.declared.Found.TheVariants.{At}
use Rattle.seq.proofs.EachLaws.{replicate_at}
use Rattle.model.specs.declared.Cause.TheVariants.{Taken}
use Rattle.model.specs.declared.Holding.{Holding}
use Rattle.model.specs.declared.Mode.{Mode}
use Rattle.model.specs.declared.Outcome.{Outcome}
use Rattle.model.specs.declared.Rank.{Rank}
use Rattle.model.specs.declared.Row.{Row}
use Rattle.model.specs.declared.Slot.{Slot}
use Rattle.model.specs.declared.State.{State}
use Rattle.model.specs.Parties.{level_of}
use Rattle.model.specs.State.{slot_at}
use Rattle.model.specs.Words.{arrival_in, seen, sees_dormant, least_arrival}
use Rattle.model.specs.Changes.{killed}
use Rattle.model.specs.Inner.Changed.{marked}
use Rattle.model.specs.Ranges.{Sized}
use Rattle.rules.specs.Calls.{conflicts, must_wait, waiting, granted, step1, step2, step3, served_at}
use Rattle.choice.specs.Inner.Summary.{ranks_of}
use Rattle.serve.specs.declared.Plan.{Plan}
use Rattle.serve.specs.Inner.SlotHoldings.{holdings_on, conflicting, marks_of, seen_in, least_in, sees_dormant_in, must_wait_in}
use Rattle.serve.specs.Inner.Replies.{planned}
use Rattle.serve.proofs.SlotLaws.{seen_in_lem, least_in_lem, dormant_in_lem, must_wait_in_lem, conflicts_killed}
use Rattle.serve.proofs.KillLaws.{kill_none}

-- the plan, from what the functions called in each step give
module _ (held : List Holding) (rows : List Row) (places : List ℕ) (x : Slot) (row : ℕ) (mode : Mode) (due : ℕ) (marks : List Bool) (g : marks ≡ marks_of held (conflicting row mode)) (v : Bool)
    (e : v ≡ seen_in held (level_of row)) where
  module _ (w : v ≡ true) (ranks : List Rank) (k : ranks ≡ ranks_of rows places) (waits : Bool) (f : waits ≡ must_wait_in marks ranks row) where
    pub plan_waits : waits ≡ true → None ≡ planned held rows places x row mode due
    unfolding planned
    plan_waits t = rw (← e, w, ← g, ← k, ← f, t)

    pub plan_seen : waits ≡ false → (arrival : ℕ) → arrival ≡ least_in held (level_of row) → Some (record { marks = marks; arrival = arrival }) ≡ planned held rows places x row mode due
    unfolding planned
    plan_seen t arrival h = rw (← e, w, ← g, ← k, ← f, t, h)

  module _ (w : v ≡ false) (d : Bool) (q : d ≡ sees_dormant_in held x (level_of row)) where
    pub plan_dormant : d ≡ true → (arrival : ℕ) → arrival ≡ arrival_in x.content
        → Some (record { marks = replicate 32 false; arrival = arrival }) ≡ planned held rows places x row mode due
    unfolding planned
    plan_dormant t arrival h = rw (← e, w, ← q, t, h)

    pub plan_unseen : d ≡ false → Some (record { marks = marks; arrival = due }) ≡ planned held rows places x row mode due
    unfolding planned
    plan_unseen t = rw (← e, w, ← q, t, ← g)

-- the steps do what the plan says
module _ (s : State) (z : Sized s) (row slot page : ℕ) (mode : Mode) (h : row < 32) where
  -- what is done on a plan: the row waits where there is none
  abbrev pub done_as : Option Plan → Outcome
  done_as None = waiting s row page mode
  done_as (Some p) = granted (killed (marked p.marks) Taken s) row slot mode p.arrival None

  abbrev Planned : Type 0
  Planned = served_at (At slot) s row page mode ≡ done_as (planned (holdings_on s slot) s.rows s.places (slot_at s slot) row mode (s.clock + s.delay))

  planned_seen : seen s (level_of row) slot ≡ true → Planned
  unfolding planned step1
  planned_seen e = rw (seen_in_lem s slot (level_of row), e, must_wait_in_lem s slot row mode h, least_in_lem s slot (level_of row)) (go (must_wait s row slot mode))
    where
      arrival : ℕ
      arrival = least_arrival s (level_of row) slot

      go : (b : Bool) → cond b (waiting s row page mode) (granted (killed (conflicts s row slot mode) Taken s) row slot mode arrival None)
          ≡ done_as (cond b None (Some (record { marks = marks_of (holdings_on s slot) (conflicting row mode); arrival = arrival })))
      go true = refl
      go false = rw (conflicts_killed s slot z row mode)

  planned_dormant : seen s (level_of row) slot ≡ false → sees_dormant s (level_of row) slot ≡ true → Planned
  unfolding planned step2
  planned_dormant e f = rw (seen_in_lem s slot (level_of row), e, dormant_in_lem s slot (level_of row), f, kill_none (marked (replicate 32 false)) Taken s z (λ r _. replicate_at 32 r false))

  planned_unseen : seen s (level_of row) slot ≡ false → sees_dormant s (level_of row) slot ≡ false → Planned
  unfolding planned step3
  planned_unseen e f = rw (seen_in_lem s slot (level_of row), e, dormant_in_lem s slot (level_of row), f, conflicts_killed s slot z row mode)

  pub plan_served : Planned
  plan_served = go (seen s (level_of row) slot) (sees_dormant s (level_of row) slot) refl refl
    where
      go : (b d : Bool) → seen s (level_of row) slot ≡ b → sees_dormant s (level_of row) slot ≡ d → Planned
      go true d e f = planned_seen e
      go false true e f = planned_dormant e f
      go false false e f = planned_unseen e f
