-- What a grant leaves at each row, slot and holding, and on each page; the rows that it spares.
use mathlib.Core.Path.{◌≡◌, refl}
use mathlib.Core.Bool.{false, cond, ◌&&◌, not}
use Prim.Native.Nat.{ℕ, ◌<◌}
use borrow.Author.Tests.{eq-eqb}
use lib.Dec.{leb, eqb}
use Rattle.seq.specs.declared.Found.TheVariants.{At}
use Rattle.seq.proofs.Tests.{and_false_right}
use Rattle.std.specs.Prelude.{Option}
use Rattle.model.specs.declared.Mode.{Mode}
use Rattle.model.specs.declared.Condition.TheVariants.{Idle, Fetching}
use Rattle.model.specs.declared.Content.{Content}
use Rattle.model.specs.declared.Content.TheVariants.{Empty, Filled}
use Rattle.model.specs.declared.Row.{Row}
use Rattle.model.specs.declared.Slot.{Slot}
use Rattle.model.specs.declared.Holding.{Holding}
use Rattle.model.specs.declared.State.{State}
use Rattle.model.specs.Parties.{level_of}
use Rattle.model.specs.State.{row_at, slot_at, holding_at}
use Rattle.model.specs.Words.{has_page, dirty_in, is_held, pin_of, conflict, holds, slot_of}
use Rattle.model.specs.Ranges.{Sized}
use Rattle.model.proofs.StateLaws.{row_put, slot_put, holding_put, sized_put_row, sized_put_slot, sized_put_holding}
use Rattle.model.proofs.PinLaws.{no_pin, not_pinned}
use Rattle.rules.specs.Calls.{held_with, with_lowest, granted, conflicts}
use Rattle.rules.specs.Alike.{holding_on}
use Rattle.rules.proofs.Leaves.PageLaws.{put_on_lem, put_slot_of}

-- the rows with a conflicting pin are not the requester, and hold the slot
pub own_spared : (s : State) (row slot : ℕ) (mode : Mode) → conflicts s row slot mode row ≡ false
unfolding conflicts
own_spared s row slot mode = rw (eq-eqb row row refl)

pub unheld_spared : (s : State) (row slot : ℕ) (mode : Mode) (q : ℕ) → holds s slot q ≡ false → conflicts s row slot mode q ≡ false
unfolding conflicts
unheld_spared s row slot mode q e =
    and_false_right (not (eqb q row)) (conflict (pin_of mode) (holding_at s slot q).pin) (no_pin (pin_of mode) (holding_at s slot q).pin (not_pinned (holding_at s slot q).pin e))

-- the holding, the slot and the row that a grant puts
abbrev pub granted_holding : State → ℕ → ℕ → Mode → ℕ → Holding
granted_holding s row slot mode arrival = held_with (is_held (holding_at s slot row).pin) (holding_at s slot row) (pin_of mode) arrival s.clock

abbrev pub granted_slot : State → ℕ → ℕ → Slot
granted_slot s row slot = record { content = with_lowest (level_of row) (slot_at s slot).content; touch = s.clock }

abbrev pub granted_row : State → ℕ → ℕ → Row
granted_row s row arrival = record { condition = cond (leb arrival s.clock) Idle (Fetching arrival); deadline = (row_at s row).deadline }

-- the lowest level changes neither the page nor the dirty mark
pub lowest_page : (level page : ℕ) (c : Content) → has_page page (with_lowest level c) ≡ has_page page c
lowest_page level page Empty = refl
lowest_page level page (Filled p arrival dirty lowest) = refl

pub lowest_dirty : (level : ℕ) (c : Content) → dirty_in (with_lowest level c) ≡ dirty_in c
lowest_dirty level Empty = refl
lowest_dirty level (Filled p arrival dirty lowest) = refl

module _ (s : State) (z : Sized s) (row slot : ℕ) (r : row < 32) (b : slot < 64) (mode : Mode) (arrival : ℕ) (back : Option ℕ) where
  pub granted_row_lem : (other : ℕ) → row_at (granted s row slot mode arrival back).state other ≡ cond (eqb other row) (granted_row s row arrival) (row_at s other)
  unfolding granted
  granted_row_lem other = row_put s z row (granted_row s row arrival) other r

  pub granted_slot_lem : (other : ℕ) → slot_at (granted s row slot mode arrival back).state other ≡ cond (eqb other slot) (granted_slot s row slot) (slot_at s other)
  unfolding granted
  granted_slot_lem other = slot_put s z slot (granted_slot s row slot) other b

  pub granted_holding_lem : (other q : ℕ) → q < 32
      → holding_at (granted s row slot mode arrival back).state other q ≡ cond (eqb other slot && eqb q row) (granted_holding s row slot mode arrival) (holding_at s other q)
  unfolding granted
  granted_holding_lem other q h = holding_put s z slot row (granted_holding s row slot mode arrival) other q b r h

  pub sized_granted : Sized (granted s row slot mode arrival back).state
  unfolding granted
  sized_granted = record {
    rows = (sized_put_row s z row (granted_row s row arrival)).rows;
    slots = (sized_put_slot s z slot (granted_slot s row slot)).slots;
    holdings = (sized_put_holding s z slot row (granted_holding s row slot mode arrival)).holdings;
    places = z.places;
  }

  pub granted_size : (granted s row slot mode arrival back).state.size ≡ s.size
  unfolding granted
  granted_size = refl

  pub granted_delay : (granted s row slot mode arrival back).state.delay ≡ s.delay
  unfolding granted
  granted_delay = refl

  pub granted_clock : (granted s row slot mode arrival back).state.clock ≡ s.clock
  unfolding granted
  granted_clock = refl

  pub granted_slot_of : (page : ℕ) → slot_of (granted s row slot mode arrival back).state page ≡ slot_of s page
  unfolding granted
  granted_slot_of page =
      put_slot_of s (granted s row slot mode arrival back).state slot (granted_slot s row slot) refl granted_slot_lem page (lowest_page (level_of row) page (slot_at s slot).content)

-- the requester has the page; every other holding on a page stays
pub granted_on : (s : State) (z : Sized s) (row slot page : ℕ) → row < 32 → slot < 64 → slot_of s page ≡ At slot → (mode : Mode) (arrival : ℕ) (back : Option ℕ) (other q : ℕ) → q < 32
    → holding_on (granted s row slot mode arrival back).state other q ≡ cond (eqb other page && eqb q row) (granted_holding s row slot mode arrival) (holding_on s other q)
granted_on s z row slot page r b found mode arrival back =
    put_on_lem s (granted s row slot mode arrival back).state row slot page (granted_holding s row slot mode arrival) found
    (granted_slot_of s z row slot r b mode arrival back) (granted_holding_lem s z row slot r b mode arrival back)
