-- For the code; a call's reply is proved equal to its outcome, crates/calls: what a call makes of a state, as a change of its parts.
use Rattle.std.specs.Prelude.{◌≡◌, Bool, true, false, cond, List, ℕ, ◌/◌, ◌%◌, eqb, get_or, set, replicate}
use Rattle.seq.specs.Each.{each}
use Rattle.model.specs.declared.Row.{Row}
use Rattle.model.specs.declared.Slot.{Slot}
use Rattle.model.specs.declared.Holding.{Holding}
use Rattle.model.specs.declared.State.{State}
use Rattle.model.specs.declared.Outcome.{Outcome}
use Rattle.model.specs.declared.Borders.{Borders}
use Rattle.model.specs.declared.Setting.{Setting}
use Rattle.model.specs.declared.Setting.TheVariants.{Left, Begun, Ended, Set}
use Rattle.model.specs.declared.Change.{Change}
use Rattle.model.specs.declared.Reply.{Reply}
use Rattle.model.specs.State.{empty_holding, with_clock, with_rows, with_slots, with_holdings}
use Rattle.model.specs.Changes.{closed_up}

-- the rows that a list of marks names
abbrev pub marked : List Bool → ℕ → Bool
marked marks row = get_or marks row false

-- the holding at place k once a row has lost its holdings, once the marked rows have, and once a slot has the holdings held, by row
abbrev pub row_dropped : ℕ → ℕ → Holding → Holding
row_dropped row k h = cond (eqb (k % 32) row) empty_holding h

abbrev pub rows_dropped : List Bool → ℕ → Holding → Holding
rows_dropped gone k h = cond (marked gone (k % 32)) empty_holding h

abbrev pub held_put : ℕ → List Holding → ℕ → Holding → Holding
held_put slot held k h = cond (eqb (k / 32) slot) (get_or held (k % 32) empty_holding) h

-- the holding at place k after a change
unfoldable pub holding_after : Change → ℕ → Holding → Holding
holding_after c k h = held_put c.slot c.held k (rows_dropped c.gone k h)

-- the borders after a change, whether a row has begun, and the places in the begin orders
abbrev pub borders_after : Setting → Borders → Borders
borders_after Left b = b
borders_after (Begun row place) b = b
borders_after (Ended row) b = b
borders_after (Set first second third) b = record { first = first; second = second; third = third }

abbrev pub begun_after : Setting → Bool → Bool
begun_after Left begun = begun
begun_after (Begun row place) begun = true
begun_after (Ended row) begun = begun
begun_after (Set first second third) begun = begun

abbrev pub places_after : Setting → List ℕ → List ℕ
places_after Left places = places
places_after (Begun row place) places = set places row place
places_after (Ended row) places = closed_up row places
places_after (Set first second third) places = places

abbrev pub with_setting : State → Setting → State
with_setting s x = record {
  size = s.size;
  delay = s.delay;
  clock = s.clock;
  rows = s.rows;
  slots = s.slots;
  holdings = s.holdings;
  borders = borders_after x s.borders;
  begun = begun_after x s.begun;
  places = places_after x s.places;
}

-- the state after a change
unfoldable pub changed : State → Change → State
changed s c =
    with_setting
    (with_holdings (with_slots (with_rows (with_clock s c.clock) c.rows) c.slots) (each (holding_after c) s.holdings))
    c.setting

-- the change leaves the borders, whether a row has begun, and the begin order
abbrev pub LeavesSetting : State → Change → Type 0
LeavesSetting s c =
    (borders_after c.setting s.borders ≡ s.borders) × (begun_after c.setting s.begun ≡ s.begun) × (places_after c.setting s.places ≡ s.places)

-- what a call leaves and answers
unfoldable pub outcome_of : State → Reply → Outcome
outcome_of s r = record { state = changed s r.change; answer = r.answer }

-- some rows lose all their holdings, and no other holding changes
unfoldable pub holdings_dropped : ℕ → List Row → List Slot → List Bool → Setting → Change
holdings_dropped clock rows slots gone setting =
    record { clock = clock; rows = rows; slots = slots; gone = gone; slot = 64; held = replicate 32 empty_holding; setting = setting }
