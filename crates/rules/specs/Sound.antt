-- Document 01, "State": what sound means, a live row's deadline as T-01 of document 02 has it, the borders as T-02 and the begin orders as T-06 have them. Its sentences stand beside the tests of the whole state, a slot, a row and a holding.
use Rattle.std.specs.Prelude.{Bool, true, cond, ◌&&◌, ◌||◌, not, ℕ, ◌+◌, leb, ltb, eqb, length}
use Rattle.seq.specs.Below.{all_below, count_below}
use Rattle.model.specs.declared.Condition.{Condition}
use Rattle.model.specs.declared.Condition.TheVariants.{Free, Idle, Fetching, Waiting, Killed}
use Rattle.model.specs.declared.Content.{Content}
use Rattle.model.specs.declared.Content.TheVariants.{Empty, Filled}
use Rattle.model.specs.declared.Pin.{Pin}
use Rattle.model.specs.declared.Pin.TheVariants.{Absent, Unpinned, Read, Write}
use Rattle.model.specs.declared.Mode.TheVariants as Mode
use Rattle.model.specs.declared.State.{State}
use Rattle.model.specs.Parties.{row_of, level_of, class_of, are_borders, allowed, may_access, last_clock, is_past}
use Rattle.model.specs.State.{row_at, slot_at, holding_at, place_at}
use Rattle.model.specs.Words.{is_free, is_live, is_filled, page_in, arrival_in, lowest_in, has_page, holds, pins, conflict}
use Rattle.model.specs.Changes.{rows_not_free}

-- the arrays have their sizes, and the numbers of the whole state are in range
unfoldable pub sound_numbers : State → Bool
sound_numbers s =
    eqb (length s.rows) 32 && eqb (length s.slots) 64 && eqb (length s.holdings) 2048 && eqb (length s.places) 32
    && leb 1 s.size && leb s.size 64 && leb 1 s.delay && leb s.delay 255 && leb s.clock last_clock

-- no pin against the access rule, by the class of the page
abbrev pub pin_allowed : ℕ → ℕ → Pin → Bool
pin_allowed level class Absent = true
pin_allowed level class Unpinned = true
pin_allowed level class Read = allowed level class Mode.Read
pin_allowed level class Write = allowed level class Mode.Write

-- the holding has arrived, or is none
unfoldable pub arrived : State → ℕ → ℕ → Bool
arrived s slot row = not (holds s slot row) || leb (holding_at s slot row).arrival s.clock

-- the row pins the slot's page, which arrives at the tick
unfoldable pub awaits : State → ℕ → ℕ → ℕ → Bool
awaits s row due slot = pins s slot row && eqb (holding_at s slot row).arrival due

-- a slot: empty ones are zero; of a filled one the page and the lowest level are in range,
-- its touch is at most the clock, and its arrival at most clock + delay
abbrev pub sound_content : State → Content → ℕ → Bool
sound_content s Empty touch = eqb touch 0
sound_content s (Filled page arrival dirty lowest) touch =
    leb page 4095 && leb lowest 3 && leb touch s.clock && leb arrival (s.clock + s.delay)

-- slots past the number started with are empty
unfoldable pub sound_slot : State → ℕ → Bool
sound_slot s slot =
    sound_content s (slot_at s slot).content (slot_at s slot).touch
    && (ltb slot s.size || not (is_filled (slot_at s slot).content))

-- both slots have one page
unfoldable pub same_page : State → ℕ → ℕ → Bool
same_page s slot other =
    is_filled (slot_at s slot).content && has_page (page_in (slot_at s slot).content) (slot_at s other).content

-- no page in two slots
unfoldable pub sound_pages : State → Bool
sound_pages s = all_below 64 (λ slot. all_below slot (λ other. not (same_page s slot other)))

-- the deadline is at or above the clock
abbrev pub in_time : State → ℕ → Bool
in_time s deadline = not (is_past s.clock deadline)

-- a row: a free or killed one is zero but for its mark; a live row's deadline is at or above the clock;
-- a fetching row pins one page whose arrival is its due tick, above the clock, and its other holdings have arrived;
-- all holdings of an idle or waiting row have arrived; a waiting row's mode is allowed for its page.
-- A deadline is any number that its word names, an unsigned 64-bit one (`deadline_fits`, crates/demands)
abbrev pub sound_condition : State → ℕ → Condition → ℕ → Bool
sound_condition s row Free deadline = eqb deadline 0
sound_condition s row (Killed cause) deadline = eqb deadline 0
sound_condition s row Idle deadline =
    in_time s deadline && all_below 64 (λ slot. arrived s slot row)
sound_condition s row (Fetching due) deadline =
    in_time s deadline && ltb s.clock due
    && eqb (count_below 64 (awaits s row due)) 1
    && all_below 64 (λ slot. arrived s slot row || awaits s row due slot)
sound_condition s row (Waiting page mode) deadline =
    in_time s deadline && all_below 64 (λ slot. arrived s slot row)
    && leb page 4095 && may_access s.borders (level_of row) page mode

unfoldable pub sound_row : State → ℕ → Bool
sound_row s row = sound_condition s row (row_at s row).condition (row_at s row).deadline

-- a holding: an empty one is zero; others only of live rows, and only in filled slots;
-- its pin not against the access rule; its arrival at least its slot's and at most clock + delay;
-- its touch at most the slot's; its level at least the slot's lowest
unfoldable pub sound_holding : State → ℕ → ℕ → Bool
sound_holding s slot row =
    cond (holds s slot row)
    (is_live (row_at s row).condition && is_filled (slot_at s slot).content
    && pin_allowed (level_of row) (class_of s.borders (page_in (slot_at s slot).content)) (holding_at s slot row).pin
    && leb (arrival_in (slot_at s slot).content) (holding_at s slot row).arrival
    && leb (holding_at s slot row).arrival (s.clock + s.delay)
    && leb (holding_at s slot row).touch (slot_at s slot).touch
    && leb (lowest_in (slot_at s slot).content) (level_of row))
    (eqb (holding_at s slot row).arrival 0 && eqb (holding_at s slot row).touch 0)

-- no conflicting pins on a slot
unfoldable pub sound_pins : State → ℕ → Bool
sound_pins s slot =
    all_below 32 (λ row. all_below row (λ other. not (conflict (holding_at s slot row).pin (holding_at s slot other).pin)))

-- the borders do not fall and do not exceed 4,096; before any accepted begin rows are free and slots empty
unfoldable pub sound_borders : State → Bool
sound_borders s =
    are_borders s.borders
    && (s.begun || (all_below 32 (λ row. is_free (row_at s row).condition) && all_below 64 (λ slot. not (is_filled (slot_at s slot).content))))

-- a begin order names each row of its level that is not free once, and no other: such a row has a place from 1 to their number, no two have one place;
-- a free row has none
unfoldable pub sound_place : State → ℕ → ℕ → Bool
sound_place s level number =
    let place = place_at s (row_of level number) in
    cond (is_free (row_at s (row_of level number)).condition) (eqb place 0) (leb 1 place && leb place (rows_not_free s.rows level))

-- two rows of a level have one place
unfoldable pub same_place : State → ℕ → ℕ → ℕ → Bool
same_place s level number other =
    ltb 0 (place_at s (row_of level number)) && eqb (place_at s (row_of level number)) (place_at s (row_of level other))

unfoldable pub sound_order : State → ℕ → Bool
sound_order s level =
    all_below 8 (sound_place s level) && all_below 8 (λ number. all_below number (λ other. not (same_place s level number other)))

unfoldable pub sound : State → Bool
sound s =
    sound_numbers s && all_below 64 (sound_slot s) && sound_pages s && all_below 32 (sound_row s)
    && all_below 64 (λ slot. all_below 32 (sound_holding s slot)) && all_below 64 (sound_pins s) && sound_borders s
    && all_below 4 (sound_order s)
