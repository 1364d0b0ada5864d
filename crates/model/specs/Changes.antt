-- Document 01, "The calls", and T-06 of document 02: the elementary changes of a state. A set of rows is a test.
use Rattle.std.specs.Prelude.{Bool, true, cond, ◌&&◌, not, List, ℕ, ◌-◌, ◌/◌, ◌%◌, leb, ltb, eqb, get_or}
use Rattle.seq.specs.Below.{any_below, count_below}
use Rattle.seq.specs.Each.{each}
use Rattle.model.specs.declared.Cause.{Cause}
use Rattle.model.specs.declared.Condition.TheVariants.{Killed}
use Rattle.model.specs.declared.Content.{Content}
use Rattle.model.specs.declared.Content.TheVariants.{Empty, Filled}
use Rattle.model.specs.declared.Row.{Row}
use Rattle.model.specs.declared.Slot.{Slot}
use Rattle.model.specs.declared.Holding.{Holding}
use Rattle.model.specs.declared.State.{State}
use Rattle.model.specs.Parties.{row_of, level_of}
use Rattle.model.specs.State.{free_row, empty_holding, holding_at, with_rows, with_slots, with_holdings}
use Rattle.model.specs.Words.{is_free, is_write}

-- a write pin whose arrival is at most the clock: when it goes, the slot becomes dirty
unfoldable pub written : ℕ → Holding → Bool
written clock h = is_write h.pin && leb h.arrival clock

abbrev pub dirtied_content : Content → Content
dirtied_content Empty = Empty
dirtied_content (Filled page arrival dirty lowest) = Filled page arrival true lowest

unfoldable pub dirtied : Slot → Slot
dirtied x = record { content = dirtied_content x.content; touch = x.touch }

-- one of the rows wrote the slot's page, which had arrived
abbrev pub wrote_slot : (ℕ → Bool) → State → ℕ → Bool
wrote_slot some s slot = any_below 32 (λ row. some row && written s.clock (holding_at s slot row))

-- all holdings of some rows go; a slot whose page one of them wrote becomes dirty
unfoldable pub released : (ℕ → Bool) → State → State
released some s =
    with_holdings
    (with_slots s (each (λ slot x. cond (wrote_slot some s slot) (dirtied x) x) s.slots))
    (each (λ k h. cond (some (k % 32)) empty_holding h) s.holdings)

-- the mark of a killed row
abbrev pub killed_row : Cause → Row
killed_row cause = record { condition = Killed cause; deadline = 0 }

-- a kill drops all holdings of a row and marks it: here of some rows, for one cause
unfoldable pub killed : (ℕ → Bool) → Cause → State → State
killed some cause s = with_rows (released some s) (each (λ row x. cond (some row) (killed_row cause) x) s.rows)

-- the holders of a slot lose it
unfoldable pub cleared : ℕ → State → State
cleared slot s = with_holdings s (each (λ k h. cond (eqb (k / 32) slot) empty_holding h) s.holdings)

-- each level keeps the begin order of its own eight rows, those that are not free: how many these are
unfoldable pub rows_not_free : List Row → ℕ → ℕ
rows_not_free rows level = count_below 8 (λ number. not (is_free (get_or rows (row_of level number) free_row).condition))

-- the order of a level is closed up when the row at a place ends: that row has no place, and those behind it move up by one
unfoldable pub moved_up : ℕ → ℕ → ℕ → ℕ → ℕ
moved_up row place other old = cond (eqb other row) 0 (cond (eqb (level_of other) (level_of row) && ltb place old) (old - 1) old)

unfoldable pub closed_up : ℕ → List ℕ → List ℕ
closed_up row places = each (moved_up row (get_or places row 0)) places
