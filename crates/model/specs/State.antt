-- Document 01, "State", and T-02 and T-06 of document 02: the empty values, the fresh state, what stands at a row, a slot and a holding, a row's place in the begin order, and a state with one part replaced.
use Rattle.std.specs.Prelude.{true, false, List, ℕ, ◌+◌, ◌*◌, get_or, set, replicate}
use Rattle.model.specs.declared.Condition.TheVariants.{Free}
use Rattle.model.specs.declared.Content.TheVariants.{Empty}
use Rattle.model.specs.declared.Pin.TheVariants.{Absent}
use Rattle.model.specs.declared.Row.{Row}
use Rattle.model.specs.declared.Slot.{Slot}
use Rattle.model.specs.declared.Holding.{Holding}
use Rattle.model.specs.declared.Borders.{Borders}
use Rattle.model.specs.declared.State.{State}
use Rattle.model.specs.Parties.{usual_borders}

abbrev pub free_row : Row
free_row = record { condition = Free; deadline = 0 }

abbrev pub empty_slot : Slot
empty_slot = record { content = Empty; touch = 0 }

abbrev pub empty_holding : Holding
empty_holding = record { pin = Absent; arrival = 0; touch = 0 }

-- all 2,048 holdings empty, 64 slots by 32 rows
unfoldable pub empty_holdings : List Holding
empty_holdings = replicate 2048 empty_holding

-- a fresh start: clock 0, every row free, all slots and all holdings empty, the usual borders, no row begun, no row in an order
unfoldable pub fresh : ℕ → ℕ → State
fresh slots delay = record {
  size = slots;
  delay = delay;
  clock = 0;
  rows = replicate 32 free_row;
  slots = replicate 64 empty_slot;
  holdings = empty_holdings;
  borders = usual_borders;
  begun = false;
  places = replicate 32 0;
}

abbrev pub row_at : State → ℕ → Row
row_at s row = get_or s.rows row free_row

abbrev pub slot_at : State → ℕ → Slot
slot_at s slot = get_or s.slots slot empty_slot

-- the holding of a row on a slot
abbrev pub holding_at : State → ℕ → ℕ → Holding
holding_at s slot row = get_or s.holdings (slot * 32 + row) empty_holding

-- the place of a row in the begin order of its level, from 1; 0 where it has none
abbrev pub place_at : State → ℕ → ℕ
place_at s row = get_or s.places row 0

abbrev pub with_clock : State → ℕ → State
with_clock s clock = record { size = s.size; delay = s.delay; clock = clock; rows = s.rows; slots = s.slots; holdings = s.holdings; borders = s.borders; begun = s.begun; places = s.places }

abbrev pub with_rows : State → List Row → State
with_rows s rows = record { size = s.size; delay = s.delay; clock = s.clock; rows = rows; slots = s.slots; holdings = s.holdings; borders = s.borders; begun = s.begun; places = s.places }

abbrev pub with_slots : State → List Slot → State
with_slots s slots = record { size = s.size; delay = s.delay; clock = s.clock; rows = s.rows; slots = slots; holdings = s.holdings; borders = s.borders; begun = s.begun; places = s.places }

abbrev pub with_holdings : State → List Holding → State
with_holdings s holdings = record { size = s.size; delay = s.delay; clock = s.clock; rows = s.rows; slots = s.slots; holdings = holdings; borders = s.borders; begun = s.begun; places = s.places }

abbrev pub with_borders : State → Borders → State
with_borders s b = record { size = s.size; delay = s.delay; clock = s.clock; rows = s.rows; slots = s.slots; holdings = s.holdings; borders = b; begun = s.begun; places = s.places }

-- a row has begun
abbrev pub with_begun : State → State
with_begun s = record { size = s.size; delay = s.delay; clock = s.clock; rows = s.rows; slots = s.slots; holdings = s.holdings; borders = s.borders; begun = true; places = s.places }

abbrev pub with_places : State → List ℕ → State
with_places s places = record { size = s.size; delay = s.delay; clock = s.clock; rows = s.rows; slots = s.slots; holdings = s.holdings; borders = s.borders; begun = s.begun; places = places }

abbrev pub put_row : State → ℕ → Row → State
put_row s row x = with_rows s (set s.rows row x)

abbrev pub put_slot : State → ℕ → Slot → State
put_slot s slot x = with_slots s (set s.slots slot x)

abbrev pub put_holding : State → ℕ → ℕ → Holding → State
put_holding s slot row x = with_holdings s (set s.holdings (slot * 32 + row) x)
