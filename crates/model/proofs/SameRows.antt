-- Rows are released or killed by a test of the rows below 32 alone: two tests that agree on those change a state alike.
use mathlib.Core.Path.{◌≡◌}
use mathlib.Core.Bool.{Bool, cond, ◌&&◌}
use Prim.Native.Nat.{ℕ, ◌%◌, ◌<◌}
use native.Mathlib.Omega.{arith}
use Rattle.seq.proofs.BelowLaws.{any_same}
use Rattle.seq.proofs.EachLaws.{each_same}
use Rattle.model.specs.declared.Cause.{Cause}
use Rattle.model.specs.declared.State.{State}
use Rattle.model.specs.State.{free_row, empty_slot, empty_holding, holding_at, with_rows, with_slots, with_holdings}
use Rattle.model.specs.Changes.{written, dirtied, released, killed, killed_row, wrote_slot}
use Rattle.model.specs.Ranges.{Sized}

module _ (some other : ℕ → Bool) (s : State) (same : (row : ℕ) → row < 32 → some row ≡ other row) where
  wrote_same : (slot : ℕ) → wrote_slot some s slot ≡ wrote_slot other s slot
  wrote_same slot =
      any_same (λ row. some row && written s.clock (holding_at s slot row)) (λ row. other row && written s.clock (holding_at s slot row)) 32
      (λ row h. rw (same row h))

  pub released_same : released some s ≡ released other s
  unfolding released
  released_same = λ j.
      with_holdings
      (with_slots s (each_same (λ i x. cond (wrote_slot some s i) (dirtied x) x) (λ i x. cond (wrote_slot other s i) (dirtied x) x) s.slots empty_slot
      (λ i h. rw (wrote_same i)) j))
      (each_same (λ k x. cond (some (k % 32)) empty_holding x) (λ k x. cond (other (k % 32)) empty_holding x) s.holdings empty_holding
      (λ k h. rw (same (k % 32) (omega arith))) j)

  pub killed_same : Sized s → (cause : Cause) → killed some cause s ≡ killed other cause s
  unfolding killed
  killed_same z cause = λ j.
      with_rows (released_same j)
      (each_same (λ row x. cond (some row) (killed_row cause) x) (λ row x. cond (other row) (killed_row cause) x) s.rows free_row
      (λ row h. rw (same row (rw z.rows at h))) j)
