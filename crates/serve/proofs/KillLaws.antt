-- A kill of no rows changes nothing.
use mathlib.Core.Path.{◌≡◌}
use mathlib.Core.Bool.{Bool, false, cond, ◌&&◌}
use Prim.Native.Nat.{ℕ, ◌%◌, ◌<◌}
use native.Mathlib.Omega.{arith}
use Rattle.seq.specs.Below.{any_below}
use Rattle.seq.proofs.BelowLaws.{none_any}
use Rattle.seq.proofs.EachLaws.{each_still}
use Rattle.model.specs.declared.Cause.{Cause}
use Rattle.model.specs.declared.State.{State}
use Rattle.model.specs.State.{free_row, empty_slot, empty_holding, holding_at}
use Rattle.model.specs.Changes.{written, dirtied, released, killed, killed_row}
use Rattle.model.specs.Ranges.{Sized}

pub kill_none : (some : ℕ → Bool) (cause : Cause) (s : State) → Sized s → ((row : ℕ) → row < 32 → some row ≡ false) → killed some cause s ≡ s
unfolding killed released
kill_none some cause s z h = λ j. record {
  size = s.size;
  delay = s.delay;
  clock = s.clock;
  rows = each_still (λ row x. cond (some row) (killed_row cause) x) s.rows free_row (λ row k. rw (h row (rw z.rows at k))) j;
  slots = each_still (λ slot x. cond (wrote slot) (dirtied x) x) s.slots empty_slot (λ slot k. rw (unwritten slot)) j;
  holdings = each_still (λ k x. cond (some (k % 32)) empty_holding x) s.holdings empty_holding (λ k i. rw (h (k % 32) (omega arith))) j;
  borders = s.borders;
  begun = s.begun;
  places = s.places;
}
  where
    wrote : ℕ → Bool
    wrote slot = any_below 32 (λ row. some row && written s.clock (holding_at s slot row))

    unwritten : (slot : ℕ) → wrote slot ≡ false
    unwritten slot = none_any (λ row. some row && written s.clock (holding_at s slot row)) 32 (λ row k. rw (h row k))
