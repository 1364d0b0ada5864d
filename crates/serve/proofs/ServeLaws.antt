-- How a request is served, from what the two searches and the functions called on the slot give.
use mathlib.Core.Path.{◌≡◌, sym, ◌∙◌, ap}
use mathlib.Core.Bool.{Bool, false}
use mathlib.Core.List.{List}
use Prim.Native.Nat.{ℕ, ◌+◌, ◌<◌, ◌≤◌}
use native.Mathlib.Omega.{arith}
use Rattle.std.specs.Prelude.{Option, Some, None}
use Rattle.seq.specs.declared.Found.{Found}
use Rattle.seq.specs.declared.Found.TheVariants.{At, Nowhere}
use Rattle.seq.proofs.PickLaws.{pick_is}
use Rattle.model.specs.declared.Change.{Change}
use Rattle.model.specs.declared.Holding.{Holding}
use Rattle.model.specs.declared.Mode.{Mode}
use Rattle.model.specs.declared.Reply.{Reply}
use Rattle.model.specs.declared.State.{State}
use Rattle.model.specs.Parties.{level_of}
use Rattle.model.specs.State.{slot_at}
use Rattle.model.specs.Words.{dormant, page_slot, slot_of}
use Rattle.model.specs.Changes.{killed}
use Rattle.model.specs.Inner.Changed.{outcome_of}
use Rattle.model.specs.Ranges.{Sized}
use Rattle.rules.specs.Choice.{or_else, step_a, step_b, before_dormant, in_c, in_d, in_e, in_f, before_held, step_held, chosen}
use Rattle.rules.specs.Calls.{waiting, granted, filled, write_back, into_slot, served}
use Rattle.rules.proofs.Leaves.PageLaws.{found_slot}
use Rattle.serve.specs.declared.Plan.{Plan}
use Rattle.serve.specs.Inner.SlotHoldings.{holdings_on, pinning, marks_of}
use Rattle.serve.specs.Inner.Replies.{wait_reply, planned, taken, entered, granting}
use Rattle.serve.proofs.SlotLaws.{pinners_killed_lem}
use Rattle.serve.proofs.ReplyLaws.{after_wait, after_taken, after_filled}
use Rattle.serve.proofs.StepLaws.{done_as, plan_served}

or_else_lem : (f g : Found) (n slot : ℕ) → (f ≡ At slot → slot < n) → (g ≡ At slot → slot < n) → or_else f g ≡ At slot → slot < n
or_else_lem Nowhere g n slot p q e = q e
or_else_lem (At i) g n slot p q e = p e

held_below : (s : State) (some : ℕ → Bool) (slot : ℕ) → step_held s some ≡ At slot → slot < s.size
unfolding step_held
held_below s some slot e = (pick_is some (before_held s) s.size slot e).0

-- a chosen slot is one of those started with
chosen_below : (s : State) (row slot : ℕ) → chosen s row ≡ At slot → slot < s.size
unfolding chosen step_a step_b
chosen_below s row slot =
    or_else_lem (step_a s) _ s.size slot (λ e. (pick_is _ (λ i j. false) s.size slot e).0)
    (or_else_lem (step_b s) _ s.size slot (λ e. (pick_is (dormant s) (before_dormant s) s.size slot e).0)
    (or_else_lem (step_held s (in_c s row)) _ s.size slot (held_below s (in_c s row) slot)
    (or_else_lem (step_held s (in_d s row)) _ s.size slot (held_below s (in_d s row) slot)
    (or_else_lem (step_held s (in_e s row)) (step_held s (in_f s row)) s.size slot (held_below s (in_e s row) slot)
    (held_below s (in_f s row) slot)))))

module _ (s : State) (row page : ℕ) (mode : Mode) where
  -- the slots that the searches find
  pub found_at : (f : Found) (slot : ℕ) → s.size ≤ 64 → f ≡ page_slot s.slots s.size page → f ≡ At slot → slot < 64
  unfolding slot_of
  found_at f slot h e q = omega (arith, (found_slot s page slot (sym e ∙ q)).0)

  pub chosen_at : (g : Found) (slot : ℕ) → s.size ≤ 64 → g ≡ chosen s row → g ≡ At slot → slot < 64
  chosen_at g slot h e q = omega (arith, chosen_below s row slot (sym e ∙ q))

  module _ (z : Sized s) (h : row < 32) where
    waited : (o : Reply) → o ≡ wait_reply s row page mode → outcome_of s o ≡ waiting s row page mode
    waited o q = ap (outcome_of s) q ∙ after_wait s z row page mode

    -- the page is in no slot
    module _ (f : Found) (e : f ≡ page_slot s.slots s.size page) (none : f ≡ Nowhere) (g : Found) (k : g ≡ chosen s row) where
      pub serve_wait : g ≡ Nowhere → (o : Reply) → o ≡ wait_reply s row page mode → outcome_of s o ≡ served s row page mode
      unfolding served slot_of
      serve_wait w o q = rw (← e, none, ← k, w) (waited o q)

      pub serve_into : (slot : ℕ) → g ≡ At slot → slot < 64 → (o : Reply) → o ≡ entered s slot row page mode (s.clock + s.delay) → outcome_of s o ≡ served s row page mode
      unfolding served slot_of entered taken killed
      serve_into slot w b o q = rw (← e, none, ← k, w) (ap (outcome_of s) q ∙ told)
        where
          marks : List Bool
          marks = marks_of (holdings_on s slot) pinning

          told : outcome_of s (entered s slot row page mode (s.clock + s.delay)) ≡ into_slot (At slot) s row page mode
          told =
              after_filled s z marks slot row mode (s.clock + s.delay) _ b h page (level_of row)
              ∙ ap (λ (t : State). granted (filled t slot page (level_of row)) row slot mode (s.clock + s.delay) (write_back (slot_at t slot))) (pinners_killed_lem s slot z)

    -- a slot has the page
    module _ (f : Found) (e : f ≡ page_slot s.slots s.size page) (slot : ℕ) (at : f ≡ At slot) (held : List Holding) (on : held ≡ holdings_on s slot) (p : Option Plan)
        (m : p ≡ planned held s.rows s.places (slot_at s slot) row mode (s.clock + s.delay)) where
      serve_plan : served s row page mode ≡ done_as s z row slot page mode h p
      unfolding served slot_of
      serve_plan = rw (← e, at, m, on) (plan_served s z row slot page mode h)

      pub serve_plan_wait : p ≡ None → (o : Reply) → o ≡ wait_reply s row page mode → outcome_of s o ≡ served s row page mode
      serve_plan_wait w o q = rw (serve_plan, w) (waited o q)

      pub serve_plan_grant : (x : Plan) → p ≡ Some x → slot < 64 → (c : Change) (o : Reply) → c ≡ taken s x.marks slot held → o ≡ granting c row mode x.arrival None
          → outcome_of s o ≡ served s row page mode
      serve_plan_grant x w b c o k q = rw (serve_plan, w, q, k, on) (after_taken s z x.marks slot row mode x.arrival None b h)
