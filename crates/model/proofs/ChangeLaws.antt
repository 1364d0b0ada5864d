-- What stands at a row, a slot and a holding after an elementary change.
use mathlib.Core.Path.{◌≡◌, refl, ◌∙◌, ap}
use mathlib.Core.Bool.{Bool, cond}
use Prim.Native.Nat.{ℕ, ◌+◌, ◌*◌, ◌/◌, ◌%◌, ◌<◌}
use lib.Dec.{eqb}
use Rattle.seq.proofs.Tests.{cond_same}
use Rattle.seq.proofs.EachLaws.{each_at, each_length, each_any}
use Rattle.model.specs.State.{free_row, empty_slot, empty_holding, row_at, slot_at, holding_at}
use Rattle.model.specs.Changes.{dirtied, wrote_slot, released, killed, killed_row, cleared}
use Rattle.model.specs.declared.Cause.{Cause}
use Rattle.model.specs.declared.State.{State}
use Rattle.model.specs.Ranges.{Sized}
use Rattle.model.proofs.StateLaws.{place_slot, place_row}

module _ (some : ℕ → Bool) (s : State) (z : Sized s) where
  pub released_holding : (slot row : ℕ) → row < 32 → holding_at (released some s) slot row ≡ cond (some row) empty_holding (holding_at s slot row)
  unfolding released
  released_holding slot row h =
      each_any (λ k x. cond (some (k % 32)) empty_holding x) s.holdings (slot * 32 + row) empty_holding (λ _. cond_same (some ((slot * 32 + row) % 32)) empty_holding)
      ∙ ap (λ (r : ℕ). cond (some r) empty_holding (holding_at s slot row)) (place_row slot row h)

  pub released_slot : (slot : ℕ) → slot < 64 → slot_at (released some s) slot ≡ cond (wrote_slot some s slot) (dirtied (slot_at s slot)) (slot_at s slot)
  unfolding released
  released_slot slot h = each_at (λ i x. cond (wrote_slot some s i) (dirtied x) x) s.slots slot empty_slot (rw z.slots h)

  pub sized_released : Sized (released some s)
  unfolding released
  sized_released = record { rows = z.rows; slots = each_length _ s.slots ∙ z.slots; holdings = each_length _ s.holdings ∙ z.holdings; places = z.places }

  module _ (cause : Cause) where
    pub killed_row_lem : (row : ℕ) → row < 32 → row_at (killed some cause s) row ≡ cond (some row) (killed_row cause) (row_at s row)
    unfolding killed
    killed_row_lem row h = each_at (λ i x. cond (some i) (killed_row cause) x) s.rows row free_row (rw z.rows h)

    pub killed_slot : (slot : ℕ) → slot < 64 → slot_at (killed some cause s) slot ≡ cond (wrote_slot some s slot) (dirtied (slot_at s slot)) (slot_at s slot)
    unfolding killed
    killed_slot slot h = released_slot slot h

    pub killed_holding : (slot row : ℕ) → row < 32 → holding_at (killed some cause s) slot row ≡ cond (some row) empty_holding (holding_at s slot row)
    unfolding killed
    killed_holding slot row h = released_holding slot row h

    pub sized_killed : Sized (killed some cause s)
    unfolding killed released
    sized_killed = record { rows = each_length _ s.rows ∙ z.rows; slots = sized_released.slots; holdings = sized_released.holdings; places = z.places }

-- the number of slots, the delay, the clock, the borders and the begin orders stay
pub killed_clock : (some : ℕ → Bool) (cause : Cause) (s : State) → (killed some cause s).clock ≡ s.clock
unfolding killed released
killed_clock some cause s = refl

pub killed_delay : (some : ℕ → Bool) (cause : Cause) (s : State) → (killed some cause s).delay ≡ s.delay
unfolding killed released
killed_delay some cause s = refl

pub killed_size : (some : ℕ → Bool) (cause : Cause) (s : State) → (killed some cause s).size ≡ s.size
unfolding killed released
killed_size some cause s = refl

pub killed_borders : (some : ℕ → Bool) (cause : Cause) (s : State) → (killed some cause s).borders ≡ s.borders
unfolding killed released
killed_borders some cause s = refl

pub killed_places : (some : ℕ → Bool) (cause : Cause) (s : State) → (killed some cause s).places ≡ s.places
unfolding killed released
killed_places some cause s = refl

module _ (gone : ℕ) (s : State) (z : Sized s) where
  pub cleared_holding : (slot row : ℕ) → row < 32 → holding_at (cleared gone s) slot row ≡ cond (eqb slot gone) empty_holding (holding_at s slot row)
  unfolding cleared
  cleared_holding slot row h =
      each_any (λ k x. cond (eqb (k / 32) gone) empty_holding x) s.holdings (slot * 32 + row) empty_holding (λ _. cond_same (eqb ((slot * 32 + row) / 32) gone) empty_holding)
      ∙ ap (λ (i : ℕ). cond (eqb i gone) empty_holding (holding_at s slot row)) (place_slot slot row h)

  pub sized_cleared : Sized (cleared gone s)
  unfolding cleared
  sized_cleared = record { rows = z.rows; slots = z.slots; holdings = each_length _ s.holdings ∙ z.holdings; places = z.places }
