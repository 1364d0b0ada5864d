-- Before a row has begun, a kept call of clearance 3 gives the same answer and, but for the borders, the same state whatever the borders are: no call then gets as far as to ask them.
use mathlib.Core.Path.{◌≡◌, refl, sym, ◌∙◌}
use mathlib.Core.Bool.{Bool, true, false}
use Prim.Native.Nat.{ℕ, zero, suc, ◌+◌, ◌≤◌}
use native.Mathlib.Omega.{arith}
use borrow.Author.Tests.{ltb-false, leb-true}
use lib.Dec.{ltb}
use Rattle.seq.specs.declared.Found.{Found}
use Rattle.seq.specs.declared.Found.TheVariants.{At, Nowhere}
use Rattle.seq.proofs.Tests.{true_false}
use Rattle.model.specs.declared.Answer.TheVariants.{Clock}
use Rattle.model.specs.declared.Borders.{Borders}
use Rattle.model.specs.declared.Call.{Call}
use Rattle.model.specs.declared.Call.TheVariants.{Start, Begin, Request, Unpin, End, Tick, Look, View, Count}
use Rattle.model.specs.declared.Condition.TheVariants.{Free, Idle}
use Rattle.model.specs.declared.Outcome.{Outcome}
use Rattle.model.specs.declared.State.{State}
use Rattle.model.specs.Parties.{row_of}
use Rattle.model.specs.State.{with_borders}
use Rattle.model.specs.Words.{seen_holder, seen, is_open, dormant, sees_dormant, strongest_pin, least_arrival, slot_of}
use Rattle.model.specs.Changes.{released, killed}
use Rattle.rules.specs.Calls.{unless, begun, unpinned, ended, delivered_rows, is_late, late_killed, advanced, three_steps, requested, looked_at, viewed_in, viewed, counted}
use Rattle.rules.specs.Refusals.{condition_at, pins_page, begin_refusal, request_refusal, unpin_refusal, end_refusal, tick_refusal, look_refusal, view_refusal, count_refusal}
use Rattle.rules.specs.Run.{outcome}
use Rattle.rules.specs.Secrecy.{is_kept}
use Rattle.rules.specs.Tries.{all_tried, ticked}
use Rattle.rules.specs.SoundFacts.{Sound, BordersSound}
use Rattle.rules.proofs.Leaves.RefusalFacts.{request_taken, unpin_taken}
use Rattle.rules.proofs.Leaves.TryLaws.{none_tried}
use Rattle.rules.proofs.Stays.StaysBorders.{ticked_borders}

-- an outcome whose state has the borders b
abbrev pub under_borders : Outcome → Borders → Outcome
under_borders o b = record { state = with_borders o.state b; answer = o.answer }

-- an idle row is not free
idle_free : Idle ≡ Free → ⊥
idle_free e = true_false (cc)

module _ (s : State) (b : Borders) where
  unless_under : (n m : ℕ) (o p : Outcome) → m ≡ n → (n ≡ 0 → p ≡ under_borders o b) → unless m (with_borders s b) p ≡ under_borders (unless n s o) b
  unless_under n m o p e f = rw e (go n f)
    where
      go : (k : ℕ) → (k ≡ 0 → p ≡ under_borders o b) → unless k (with_borders s b) p ≡ under_borders (unless k s o) b
      go zero g = g refl
      go (suc k) g = refl

  module _ (h : BordersSound s) (u : s.begun ≡ false) (level number : ℕ) (most : level ≤ 3) where
    free : number ≤ 7 → condition_at s level number ≡ Free
    free n = h.free u (row_of level number) (omega arith)

    same_request : (page mode : ℕ) → request_refusal (with_borders s b) level number page mode ≡ request_refusal s level number page mode
    unfolding request_refusal
    same_request page mode = go (ltb 7 number) refl
      where
        go : (x : Bool) → ltb 7 number ≡ x → request_refusal (with_borders s b) level number page mode ≡ request_refusal s level number page mode
        go true e = rw e
        go false e = rw (free (ltb-false 7 number e))

    under_request : (page mode : ℕ) → requested (with_borders s b) level number page mode ≡ under_borders (requested s level number page mode) b
    unfolding requested
    under_request page mode =
        unless_under (request_refusal s level number page mode) (request_refusal (with_borders s b) level number page mode) _ _ (same_request page mode)
        (λ e. let t = request_taken s level number page mode e in absurd (idle_free (sym t.idle ∙ free t.names.number_is)))

    under_unpin : (page : ℕ) → unpinned (with_borders s b) level number page ≡ under_borders (unpinned s level number page) b
    unfolding unpinned unpin_refusal pins_page slot_of
    under_unpin page =
        unless_under (unpin_refusal s level number page) (unpin_refusal (with_borders s b) level number page) _ _ refl
        (λ e. let t = unpin_taken s level number page e in absurd (idle_free (sym t.idle ∙ free t.names.number_is)))

  same_view : (level : ℕ) (f : Found) → viewed_in f (with_borders s b) level ≡ viewed_in f s level
  unfolding seen_holder seen dormant sees_dormant strongest_pin least_arrival
  same_view level Nowhere = refl
  same_view level (At slot) = refl

  -- a tick finds no row that waits
  under_ticked : Sound s → BordersSound s → s.begun ≡ false
      → (all_tried (three_steps (with_borders s b))).state ≡ with_borders (all_tried (three_steps s)).state b
  unfolding late_killed killed released delivered_rows advanced is_late
  under_ticked z h u =
      rw (none_tried (three_steps s) (λ r k. rw ((ticked_borders s z h).free u r k)), none_tried (three_steps (with_borders s b)) (λ r k. rw ((ticked_borders s z h).free u r k)))

  pub before_begun : (c : Call) → Sound s → BordersSound s → s.begun ≡ false → is_kept 3 c ≡ true → outcome (with_borders s b) c ≡ under_borders (outcome s c) b
  unfolding outcome is_kept begun ended ticked looked_at viewed counted begin_refusal end_refusal tick_refusal late_killed killed released delivered_rows advanced is_late seen_holder seen is_open slot_of
  before_begun (Start slots delay) z h u k = true_false (sym k)
  before_begun (Begin level number deadline) z h u k = unless_under (begin_refusal s level number deadline) (begin_refusal (with_borders s b) level number deadline) _ _ refl (λ _. refl)
  before_begun (Request level number page mode) z h u k = under_request h u level number (leb-true level 3 k) page mode
  before_begun (Unpin level number page) z h u k = under_unpin h u level number (leb-true level 3 k) page
  before_begun (End level number) z h u k = unless_under (end_refusal s level number) (end_refusal (with_borders s b) level number) _ _ refl (λ _. refl)
  before_begun (Tick room) z h u k = unless_under (tick_refusal s room) (tick_refusal (with_borders s b) room) _ _ refl (λ _ i. record { state = under_ticked z h u i; answer = Clock (s.clock + 1) })
  before_begun (Look level number) z h u k = unless_under (look_refusal level number) (look_refusal level number) _ _ refl (λ _. refl)
  before_begun (View level page) z h u k = unless_under (view_refusal level page) (view_refusal level page) _ _ refl (λ _ i. record { state = with_borders s b; answer = same_view level (slot_of s page) i })
  before_begun (Count level) z h u k = unless_under (count_refusal level) (count_refusal level) _ _ refl (λ _. refl)
  before_begun (Call.Borders first second third) z h u k = true_false (sym k)
