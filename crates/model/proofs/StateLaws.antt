-- What stands at a row, a slot and a holding of a state with one of them replaced, and of the fresh state.
use mathlib.Core.Path.{◌≡◌, sym, ◌∙◌, ap}
use mathlib.Core.Bool.{Bool, false, cond, ◌&&◌}
use Prim.Native.Nat.{ℕ, ◌+◌, ◌*◌, ◌/◌, ◌%◌, ◌<◌}
use native.Mathlib.Omega.{arith}
use native.Mathlib.Decide.{ℕ_discrete}
use borrow.Author.Tests.{eq-eqb, ne_eqb}
use lib.Dec.{eqb}
use lib.ListN.{replicate, length-set, length-replicate}
use Rattle.seq.proofs.EachLaws.{set_at, replicate_at}
use Rattle.model.specs.Ranges.{Sized}
use Rattle.model.specs.Parties.{usual_borders}
use Rattle.model.specs.State.{free_row, empty_slot, empty_holding, empty_holdings, fresh, row_at, slot_at, holding_at, with_begun, put_row, put_slot, put_holding}
use Rattle.model.specs.declared.Row.{Row}
use Rattle.model.specs.declared.Slot.{Slot}
use Rattle.model.specs.declared.Holding.{Holding}
use Rattle.model.specs.declared.State.{State}

-- the place of a holding tells its slot and its row
pub place_slot : (slot row : ℕ) → row < 32 → (slot * 32 + row) / 32 ≡ slot
place_slot slot row h = omega arith

pub place_row : (slot row : ℕ) → row < 32 → (slot * 32 + row) % 32 ≡ row
place_row slot row h = omega arith

same_place_lem : (slot row other row' : ℕ) → row < 32 → row' < 32 → eqb (other * 32 + row') (slot * 32 + row) ≡ eqb other slot && eqb row' row
same_place_lem slot row other row' h h' =
    elim (ℕ_discrete other slot) [
      | yes e ↦ elim (ℕ_discrete row' row) [
        | yes f ↦ eq-eqb (other * 32 + row') (slot * 32 + row) (omega arith) ∙ sym (rw (eq-eqb other slot e) (eq-eqb row' row f))
        | no f ↦ ne_eqb (other * 32 + row') (slot * 32 + row) (λ q. f (omega arith)) ∙ sym (rw (eq-eqb other slot e) (ne_eqb row' row f))
      ]
      | no e ↦ ne_eqb (other * 32 + row') (slot * 32 + row) (λ q. e (omega arith)) ∙ sym (rw (ne_eqb other slot e))
    ]

module _ (s : State) (z : Sized s) where
  pub row_put : (row : ℕ) (x : Row) (other : ℕ) → row < 32 → row_at (put_row s row x) other ≡ cond (eqb other row) x (row_at s other)
  row_put row x other h = set_at s.rows row other x free_row (rw z.rows h)

  pub slot_put : (slot : ℕ) (x : Slot) (other : ℕ) → slot < 64 → slot_at (put_slot s slot x) other ≡ cond (eqb other slot) x (slot_at s other)
  slot_put slot x other h = set_at s.slots slot other x empty_slot (rw z.slots h)

  pub holding_put : (slot row : ℕ) (x : Holding) (other row' : ℕ) → slot < 64 → row < 32 → row' < 32
      → holding_at (put_holding s slot row x) other row' ≡ cond (eqb other slot && eqb row' row) x (holding_at s other row')
  holding_put slot row x other row' h r r' =
      set_at s.holdings (slot * 32 + row) (other * 32 + row') x empty_holding (rw z.holdings (omega arith))
      ∙ ap (λ (b : Bool). cond b x (holding_at s other row')) (same_place_lem slot row other row' r r')

  pub sized_put_row : (row : ℕ) (x : Row) → Sized (put_row s row x)
  sized_put_row row x = record { rows = length-set s.rows row x ∙ z.rows; slots = z.slots; holdings = z.holdings; places = z.places }

  pub sized_put_slot : (slot : ℕ) (x : Slot) → Sized (put_slot s slot x)
  sized_put_slot slot x = record { rows = z.rows; slots = length-set s.slots slot x ∙ z.slots; holdings = z.holdings; places = z.places }

  pub sized_put_holding : (slot row : ℕ) (x : Holding) → Sized (put_holding s slot row x)
  sized_put_holding slot row x = record { rows = z.rows; slots = z.slots; holdings = length-set s.holdings (slot * 32 + row) x ∙ z.holdings; places = z.places }

  pub sized_begun : Sized (with_begun s)
  sized_begun = record { rows = z.rows; slots = z.slots; holdings = z.holdings; places = z.places }

-- the fresh state, made of a row, a slot and a holding
pub fresh_is : (slots delay : ℕ) (r : Row) (t : Slot) (h : Holding) → r ≡ free_row → t ≡ empty_slot → h ≡ empty_holding → record {
  size = slots;
  delay = delay;
  clock = 0;
  rows = replicate 32 r;
  slots = replicate 64 t;
  holdings = replicate 2048 h;
  borders = usual_borders;
  begun = false;
  places = replicate 32 0;
} ≡ fresh slots delay
unfolding fresh empty_holdings
fresh_is slots delay r t h a b e = rw (a, b, e)

-- the fresh state, at each place
module _ (slots delay : ℕ) where
  pub fresh_row : (row : ℕ) → row_at (fresh slots delay) row ≡ free_row
  unfolding fresh
  fresh_row row = replicate_at 32 row free_row

  pub fresh_slot : (slot : ℕ) → slot_at (fresh slots delay) slot ≡ empty_slot
  unfolding fresh
  fresh_slot slot = replicate_at 64 slot empty_slot

  pub fresh_holding : (slot row : ℕ) → holding_at (fresh slots delay) slot row ≡ empty_holding
  unfolding fresh empty_holdings
  fresh_holding slot row = replicate_at 2048 (slot * 32 + row) empty_holding

  pub fresh_sized : Sized (fresh slots delay)
  unfolding fresh empty_holdings
  fresh_sized = record { rows = length-replicate 32 free_row; slots = length-replicate 64 empty_slot; holdings = length-replicate 2048 empty_holding; places = length-replicate {A = ℕ} 32 0 }
