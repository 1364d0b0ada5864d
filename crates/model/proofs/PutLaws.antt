-- What stands at the place that was replaced, and at every other place.
use mathlib.Core.Path.{◌≡◌}
use Prim.Native.Nat.{ℕ, ◌+◌, ◌*◌, ◌<◌}
use native.Mathlib.Omega.{arith}
use lib.Seq.{get_or-set_same, get_or-set_other}
use Rattle.model.specs.State.{free_row, empty_slot, empty_holding, row_at, slot_at, holding_at, put_row, put_slot, put_holding}
use Rattle.model.specs.declared.Row.{Row}
use Rattle.model.specs.declared.Slot.{Slot}
use Rattle.model.specs.declared.Holding.{Holding}
use Rattle.model.specs.declared.State.{State}
use Rattle.model.specs.Ranges.{Sized}

module _ (s : State) (z : Sized s) where
  pub row_same : (row : ℕ) (x : Row) → row < 32 → row_at (put_row s row x) row ≡ x
  row_same row x h = get_or-set_same s.rows row x free_row (rw z.rows h)

  pub row_other : (row : ℕ) (x : Row) (other : ℕ) → (other ≡ row → ⊥) → row_at (put_row s row x) other ≡ row_at s other
  row_other row x other m = get_or-set_other s.rows row other x free_row m

  pub slot_same : (slot : ℕ) (x : Slot) → slot < 64 → slot_at (put_slot s slot x) slot ≡ x
  slot_same slot x h = get_or-set_same s.slots slot x empty_slot (rw z.slots h)

  pub slot_other : (slot : ℕ) (x : Slot) (other : ℕ) → (other ≡ slot → ⊥) → slot_at (put_slot s slot x) other ≡ slot_at s other
  slot_other slot x other m = get_or-set_other s.slots slot other x empty_slot m

  pub holding_same : (slot row : ℕ) (x : Holding) → slot < 64 → row < 32 → holding_at (put_holding s slot row x) slot row ≡ x
  holding_same slot row x h g = get_or-set_same s.holdings (slot * 32 + row) x empty_holding (rw z.holdings (omega arith))

  -- another slot, or another row
  pub holding_other_slot : (slot row : ℕ) (x : Holding) (other row' : ℕ) → row < 32 → row' < 32 → (other ≡ slot → ⊥) → holding_at (put_holding s slot row x) other row' ≡ holding_at s other row'
  holding_other_slot slot row x other row' h g m = get_or-set_other s.holdings (slot * 32 + row) (other * 32 + row') x empty_holding (λ e. m (omega arith))

  pub holding_other_row : (slot row : ℕ) (x : Holding) (other row' : ℕ) → row < 32 → row' < 32 → (row' ≡ row → ⊥) → holding_at (put_holding s slot row x) other row' ≡ holding_at s other row'
  holding_other_row slot row x other row' h g m = get_or-set_other s.holdings (slot * 32 + row) (other * 32 + row') x empty_holding (λ e. m (omega arith))
