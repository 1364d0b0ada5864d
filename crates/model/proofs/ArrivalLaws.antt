-- The least arrival that a level sees on a slot.
use mathlib.Core.Path.{◌≡◌}
use mathlib.Core.Bool.{Bool, true}
use Prim.Native.Nat.{ℕ, ◌<◌, ◌≤◌}
use borrow.Author.Tests.{ltb-false}
use lib.Dec.{leb, ltb}
use Rattle.seq.proofs.Tests.{and_true}
use Rattle.seq.proofs.BelowLaws.{any_hit}
use Rattle.seq.proofs.OrderLaws.{ltb_strict, ltb_trans}
use Rattle.seq.proofs.PickLaws.{pick_is, pick_some, pick_first}
use Rattle.model.specs.declared.State.{State}
use Rattle.model.specs.Parties.{level_of}
use Rattle.model.specs.State.{holding_at}
use Rattle.model.specs.Words.{holds, seen_holder, seen, least_arrival}

-- it is that of a seen holding
pub least_is : (s : State) (level slot : ℕ) → seen s level slot ≡ true → (j : ℕ) × (j < 32) × (holds s slot j ≡ true) × (least_arrival s level slot ≡ (holding_at s slot j).arrival)
unfolding seen least_arrival seen_holder
least_is s level slot e =
    let a = any_hit (seen_holder s level slot) 32 e in
    let x = pick_some (seen_holder s level slot) (λ row other. ltb (holding_at s slot row).arrival (holding_at s slot other).arrival) 32 a.0 a.1 a.2 in
    let y = pick_is (seen_holder s level slot) (λ row other. ltb (holding_at s slot row).arrival (holding_at s slot other).arrival) 32 x.0 x.1 in
    (x.0, y.0, (and_true (leb (level_of x.0) level) (holds s slot x.0) y.1).1, rw x.1)

-- and no seen holding's is less
pub least_first : (s : State) (level slot r : ℕ) → r < 32 → seen_holder s level slot r ≡ true → least_arrival s level slot ≤ (holding_at s slot r).arrival
unfolding least_arrival
least_first s level slot r b e =
    let x = pick_some (seen_holder s level slot) before 32 r b e in
    rw x.1 (ltb-false (holding_at s slot r).arrival (holding_at s slot x.0).arrival
    (pick_first (seen_holder s level slot) before
    (λ i _. ltb_strict (holding_at s slot i).arrival)
    (λ i j k _ _ _. ltb_trans (holding_at s slot i).arrival (holding_at s slot j).arrival (holding_at s slot k).arrival)
    32 x.0 r x.1 b e))
  where
    before : ℕ → ℕ → Bool
    before row other = ltb (holding_at s slot row).arrival (holding_at s slot other).arrival
