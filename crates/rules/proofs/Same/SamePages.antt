-- Two states alike for L: what the rows up to L have on a page, and what a level up to L sees of it.
use mathlib.Core.Path.{◌≡◌, refl, sym, ◌∙◌, ap}
use mathlib.Core.Bool.{Bool, true, false, ◌&&◌}
use Prim.Native.Nat.{ℕ, ◌<◌, ◌≤◌}
use native.Mathlib.Omega.{arith}
use borrow.Author.Tests.{leb-true}
use lib.Dec.{leb, ltb}
use Rattle.seq.specs.declared.Found.TheVariants.{At}
use Rattle.seq.proofs.Tests.{and_left, and_when}
use Rattle.seq.proofs.BelowLaws.{any_same}
use Rattle.seq.proofs.PickLaws.{picked_same}
use Rattle.model.specs.declared.Mode.{Mode}
use Rattle.model.specs.declared.Pin.TheVariants.{Absent}
use Rattle.model.specs.declared.Row.{Row}
use Rattle.model.specs.declared.State.{State}
use Rattle.model.specs.Parties.{level_of}
use Rattle.model.specs.State.{holding_at}
use Rattle.model.specs.Words.{holds, strength, seen_holder, seen, outranks, strongest_pin, least_arrival, slot_of}
use Rattle.model.proofs.PriorityLaws.{outranks_same}
use Rattle.model.proofs.SeenLaws.{no_dormant}
use Rattle.rules.specs.Calls.{conflicts, must_wait, hits_dormant}
use Rattle.rules.specs.Alike.{Alike}
use Rattle.rules.proofs.Leaves.PageLaws.{on_slot}

-- a row up to level 2 hits no dormant page
pub no_hit : (s : State) (me slot : ℕ) → level_of me ≤ 2 → hits_dormant s me slot ≡ false
no_hit s me slot l = no_dormant s (level_of me) slot l

module _ (L : ℕ) (s t : State) (alike : Alike L s t) where
  pub same_rank : (r q : ℕ) → r < 32 → q < 32 → level_of r ≤ L → level_of q ≤ L → outranks s r q ≡ outranks t r q
  same_rank r q h k l m =
      outranks_same s t r q (ap (λ (x : Row). x.deadline) (alike.row r h l)) (ap (λ (x : Row). x.deadline) (alike.row q k m)) (alike.place r h l) (alike.place q k m)

  pub same_holding : (page i j : ℕ) → slot_of s page ≡ At i → slot_of t page ≡ At j → (r : ℕ) → r < 32 → level_of r ≤ L → holding_at s i r ≡ holding_at t j r
  same_holding page i j at-s at-t r h l = sym (on_slot s page i r at-s) ∙ alike.holding page r h l ∙ on_slot t page j r at-t

  -- slots on which the rows up to L have the same holdings
  module _ (i j : ℕ) (same : (r : ℕ) → r < 32 → level_of r ≤ L → holding_at s i r ≡ holding_at t j r) where
    pub same_conflicts : (me : ℕ) (mode : Mode) (r : ℕ) → r < 32 → level_of r ≤ L → conflicts s me i mode r ≡ conflicts t me j mode r
    unfolding conflicts
    same_conflicts me mode r h l = rw (same r h l)

    module _ (level : ℕ) (up : level ≤ L) where
      pub same_holder : (r : ℕ) → r < 32 → seen_holder s level i r ≡ seen_holder t level j r
      unfolding seen_holder
      same_holder r h = and_when (leb (level_of r) level) (holds s i r) (holds t j r)
          (λ e. rw (same r h (omega (arith, leb-true (level_of r) level e))))

      pub same_seen : seen s level i ≡ seen t level j
      unfolding seen
      same_seen = any_same (seen_holder s level i) (seen_holder t level j) 32 same_holder

      seen_holding : (r : ℕ) → r < 32 → seen_holder s level i r ≡ true → holding_at s i r ≡ holding_at t j r
      unfolding seen_holder
      seen_holding r h e = same r h (omega (arith, leb-true (level_of r) level (and_left (leb (level_of r) level) (holds s i r) e)))

      pub same_strongest : strongest_pin s level i ≡ strongest_pin t level j
      unfolding strongest_pin
      same_strongest =
          picked_same (seen_holder s level i) (seen_holder t level j)
          (λ r q. ltb (strength (holding_at s i q).pin) (strength (holding_at s i r).pin))
          (λ r q. ltb (strength (holding_at t j q).pin) (strength (holding_at t j r).pin))
          (λ r. (holding_at s i r).pin) (λ r. (holding_at t j r).pin) Absent 32 same_holder
          (λ r q h k e f. rw (seen_holding r h e, seen_holding q k f))
          (λ r h e. rw (seen_holding r h e))

      pub same_least : least_arrival s level i ≡ least_arrival t level j
      unfolding least_arrival
      same_least =
          picked_same (seen_holder s level i) (seen_holder t level j)
          (λ r q. ltb (holding_at s i r).arrival (holding_at s i q).arrival)
          (λ r q. ltb (holding_at t j r).arrival (holding_at t j q).arrival)
          (λ r. (holding_at s i r).arrival) (λ r. (holding_at t j r).arrival) 0 32 same_holder
          (λ r q h k e f. rw (seen_holding r h e, seen_holding q k f))
          (λ r h e. rw (seen_holding r h e))

    pub same_must_wait : (me : ℕ) (mode : Mode) → me < 32 → level_of me ≤ L → must_wait s me i mode ≡ must_wait t me j mode
    unfolding must_wait
    same_must_wait me mode h l =
        any_same (λ r. leb (level_of r) (level_of me) && conflicts s me i mode r && outranks s r me) (λ r. leb (level_of r) (level_of me) && conflicts t me j mode r && outranks t r me) 32
        (λ r k. go r k (leb (level_of r) (level_of me)) refl)
      where
        go : (r : ℕ) → r < 32 → (b : Bool) → leb (level_of r) (level_of me) ≡ b
            → (leb (level_of r) (level_of me) && conflicts s me i mode r && outranks s r me) ≡ (leb (level_of r) (level_of me) && conflicts t me j mode r && outranks t r me)
        go r k false e = rw e
        go r k true e =
            let m : level_of r ≤ L = omega (arith, leb-true (level_of r) (level_of me) e) in
            rw (same_conflicts me mode r k m, same_rank r me k h m l)
