-- Document 01, "The calls": the answer and the next state of each call but tick, and the three steps of a tick, its late rows as T-01 of document 02 has them; T-02's call for borders, and the begin orders of T-06.
use Rattle.std.specs.Prelude.{Bool, true, false, cond, ◌&&◌, not, ℕ, zero, suc, ◌+◌, min, leb, eqb, set, Option, None, Some}
use Rattle.seq.specs.Below.{any_below, count_below, at_found}
use Rattle.seq.specs.Each.{each}
use Rattle.seq.specs.declared.Found.{Found}
use Rattle.seq.specs.declared.Found.TheVariants.{At, Nowhere}
use Rattle.model.specs.declared.Mode.{Mode}
use Rattle.model.specs.declared.Cause.TheVariants.{Late, Taken}
use Rattle.model.specs.declared.Condition.{Condition}
use Rattle.model.specs.declared.Condition.TheVariants.{Free, Idle, Fetching, Waiting, Killed}
use Rattle.model.specs.declared.Content.{Content}
use Rattle.model.specs.declared.Content.TheVariants.{Empty, Filled}
use Rattle.model.specs.declared.Pin.{Pin}
use Rattle.model.specs.declared.Row.{Row}
use Rattle.model.specs.declared.Slot.{Slot}
use Rattle.model.specs.declared.Holding.{Holding}
use Rattle.model.specs.declared.Borders.{Borders}
use Rattle.model.specs.declared.State.{State}
use Rattle.model.specs.declared.Outcome.{Outcome}
use Rattle.model.specs.declared.Answer.{Answer}
use Rattle.model.specs.declared.Answer.TheVariants.{
  Refused,
  Started,
  Begun,
  Ready,
  Fetch,
  Wait,
  Unpinned,
  Ended,
  RowFree,
  RowIdle,
  RowFetching,
  RowWaiting,
  RowKilled,
  PageUnseen,
  PageActive,
  PageRead,
  PageWrite,
  PageDormant,
  Open,
  Bordered,
}
use Rattle.model.specs.Parties.{row_of, level_of, mode_of, is_past}
use Rattle.model.specs.State.{free_row, fresh, row_at, slot_at, holding_at, with_clock, with_rows, with_borders, with_begun, with_places, put_row, put_slot, put_holding}
use Rattle.model.specs.Words.{is_live, arrival_in, page_in, dirty_in, is_held, pin_of, conflict, stronger, pins, seen, is_open, sees_dormant, outranks, strongest_pin, least_arrival, slot_of}
use Rattle.model.specs.Changes.{written, dirtied, released, killed, cleared, rows_not_free, closed_up}
use Rattle.rules.specs.Choice.{chosen}
use Rattle.rules.specs.Refusals.{
  start_refusal,
  begin_refusal,
  request_refusal,
  unpin_refusal,
  end_refusal,
  look_refusal,
  view_refusal,
  count_refusal,
  borders_refusal,
}

-- a refused call changes nothing
abbrev pub unless : ℕ → State → Outcome → Outcome
unless zero s accepted = accepted
unless (suc n) s accepted = record { state = s; answer = Refused (suc n) }

-- start
unfoldable pub started : State → ℕ → ℕ → Outcome
started s slots delay = unless (start_refusal slots delay) s (record { state = fresh slots delay; answer = Started })

-- begin: the row is idle, and takes the last place in the begin order of its level, behind its other rows that are not free
abbrev pub last_place : State → ℕ → ℕ
last_place s level = rows_not_free s.rows level + 1

abbrev pub row_begun : State → ℕ → ℕ → State
row_begun s row deadline =
    with_places
    (put_row (with_begun s) row (record { condition = Idle; deadline = deadline }))
    (set s.places row (last_place s (level_of row)))

unfoldable pub begun : State → ℕ → ℕ → ℕ → Outcome
begun s level number deadline =
    unless (begin_refusal s level number deadline) s (record { state = row_begun s (row_of level number) deadline; answer = Begun })

-- unpin: the pin becomes none, the holding stays; when a write pin goes and its arrival ≤ clock, the slot becomes dirty
unfoldable pub unpinned_at : State → ℕ → ℕ → State
unpinned_at s row slot =
    let h = holding_at s slot row in
    put_holding
    (put_slot s slot (cond (written s.clock h) (dirtied (slot_at s slot)) (slot_at s slot)))
    slot row (record { pin = Pin.Unpinned; arrival = h.arrival; touch = h.touch })

unfoldable pub unpinned : State → ℕ → ℕ → ℕ → Outcome
unpinned s level number page =
    unless (unpin_refusal s level number page) s
    (record { state = at_found (slot_of s page) (unpinned_at s (row_of level number)) s; answer = Unpinned })

-- end: all the row's holdings go, row free; the begin order of its level is closed up
abbrev pub row_ended : State → ℕ → State
row_ended s row = with_places (put_row (released (eqb row) s) row free_row) (closed_up row s.places)

unfoldable pub ended : State → ℕ → ℕ → Outcome
ended s level number =
    unless (end_refusal s level number) s (record { state = row_ended s (row_of level number); answer = Ended })

-- tick, its three steps: clock + 1; then fetching rows with due ≤ clock become idle; then live rows with deadline < clock are killed as late. The call itself is `ticked`, specs/Tries.antt
abbrev pub delivered : ℕ → Condition → Condition
delivered clock Free = Free
delivered clock Idle = Idle
delivered clock (Fetching due) = cond (leb due clock) Idle (Fetching due)
delivered clock (Waiting page mode) = Waiting page mode
delivered clock (Killed cause) = Killed cause

unfoldable pub delivered_row : ℕ → Row → Row
delivered_row clock x = record { condition = delivered clock x.condition; deadline = x.deadline }

unfoldable pub delivered_rows : State → State
delivered_rows s = with_rows s (each (λ row x. delivered_row s.clock x) s.rows)

unfoldable pub is_late : State → ℕ → Bool
is_late s row = is_live (row_at s row).condition && is_past s.clock (row_at s row).deadline

unfoldable pub late_killed : State → State
late_killed s = killed (is_late s) Late s

unfoldable pub advanced : State → State
advanced s = with_clock s (s.clock + 1)

abbrev pub three_steps : State → State
three_steps s = late_killed (delivered_rows (advanced s))

-- Request: `served`, below its steps, takes the first that applies.
-- Step 1, page seen through a holding: wait, or kill and grant. Step 2, level 3 and a dormant page: grant.
-- Step 3, not seen: grant in the slot that has the page, or else in a chosen slot (`into_slot`; g. none: wait).
-- Step 4 is `granted`, the end of every step that does not wait: ready or fetching.

-- a wait alters only the row's own condition
unfoldable pub waiting : State → ℕ → ℕ → Mode → Outcome
waiting s row page mode =
    record { state = put_row s row (record { condition = Waiting page mode; deadline = (row_at s row).deadline }); answer = Wait }

-- step 4: the holding gets the pin and touch = clock; a row's own holding keeps its arrival and the stronger pin
abbrev pub held_with : Bool → Holding → Pin → ℕ → ℕ → Holding
held_with false own pin arrival clock = record { pin = pin; arrival = arrival; touch = clock }
held_with true own pin arrival clock = record { pin = stronger own.pin pin; arrival = own.arrival; touch = clock }

-- a slot's lowest level and latest touch
abbrev pub with_lowest : ℕ → Content → Content
with_lowest level Empty = Empty
with_lowest level (Filled page arrival dirty lowest) = Filled page arrival dirty (min lowest level)

abbrev pub touched : State → ℕ → ℕ → State
touched s row slot = put_slot s slot (record { content = with_lowest (level_of row) (slot_at s slot).content; touch = s.clock })

-- step 4: ready, the row idle, if arrival ≤ clock, else fetching until then
unfoldable pub granted : State → ℕ → ℕ → Mode → ℕ → Option ℕ → Outcome
granted s row slot mode arrival back =
    let own = holding_at s slot row in
    record {
      state =
          put_row
          (put_holding (touched s row slot) slot row (held_with (is_held own.pin) own (pin_of mode) arrival s.clock))
          row
          (record { condition = cond (leb arrival s.clock) Idle (Fetching arrival); deadline = (row_at s row).deadline });
      answer = cond (leb arrival s.clock) (Ready slot back) (Fetch arrival slot back);
    }

-- another row has a conflicting pin on the slot
unfoldable pub conflicts : State → ℕ → ℕ → Mode → ℕ → Bool
conflicts s row slot mode other = not (eqb other row) && conflict (pin_of mode) (holding_at s slot other).pin

-- step 1, page seen through a holding: if a seen conflicting pin belongs to a row of better priority, wait
unfoldable pub must_wait : State → ℕ → ℕ → Mode → Bool
must_wait s row slot mode =
    any_below 32 (λ other. leb (level_of other) (level_of row) && conflicts s row slot mode other && outranks s other row)

-- else kill every other row with a conflicting pin, seen or not; arrival is the least among the seen holdings before the killing
unfoldable pub step1 : State → ℕ → ℕ → ℕ → Mode → Outcome
step1 s row slot page mode =
    cond (must_wait s row slot mode) (waiting s row page mode)
    (granted (killed (conflicts s row slot mode) Taken s) row slot mode (least_arrival s (level_of row) slot) None)

-- step 2, level 3, dormant page: arrival is the slot's
unfoldable pub step2 : State → ℕ → ℕ → Mode → Outcome
step2 s row slot mode = granted s row slot mode (arrival_in (slot_at s slot).content) None

-- step 3, not seen: arrival = clock + delay; if a slot has the page, use that slot, its own arrival unchanged, and kill conflicting pins
unfoldable pub step3 : State → ℕ → ℕ → Mode → Outcome
step3 s row slot mode = granted (killed (conflicts s row slot mode) Taken s) row slot mode (s.clock + s.delay) None

-- rows that pin the chosen slot are killed
unfoldable pub pinners_killed : State → ℕ → State
pinners_killed s slot = killed (pins s slot) Taken s

-- a dirty page is reported for write-back
unfoldable pub write_back : Slot → Option ℕ
write_back x = cond (dirty_in x.content) (Some (page_in x.content)) None

-- the other holders lose the slot; the new page is clean, and its slot's arrival is the new holding's
unfoldable pub filled : State → ℕ → ℕ → ℕ → State
filled s slot page level =
    put_slot (cleared slot s) slot (record { content = Filled page (s.clock + s.delay) false level; touch = s.clock })

-- step 3, the page in no slot: a slot is chosen; g. none: wait
abbrev pub into_slot : Found → State → ℕ → ℕ → Mode → Outcome
into_slot Nowhere s row page mode = waiting s row page mode
into_slot (At slot) s row page mode =
    granted (filled (pinners_killed s slot) slot page (level_of row)) row slot mode (s.clock + s.delay)
    (write_back (slot_at (pinners_killed s slot) slot))

-- step 3, not seen: the slot that has the page, or else one that is chosen
abbrev pub unseen_at : Found → State → ℕ → ℕ → Mode → Outcome
unseen_at Nowhere s row page mode = into_slot (chosen s row) s row page mode
unseen_at (At slot) s row page mode = step3 s row slot mode

-- step 2 applies
abbrev pub hits_dormant : State → ℕ → ℕ → Bool
hits_dormant s row slot = sees_dormant s (level_of row) slot

abbrev pub served_at : Found → State → ℕ → ℕ → Mode → Outcome
served_at Nowhere s row page mode = unseen_at Nowhere s row page mode
served_at (At slot) s row page mode =
    cond (seen s (level_of row) slot) (step1 s row slot page mode)
    (cond (hits_dormant s row slot) (step2 s row slot mode)
    (unseen_at (At slot) s row page mode))

unfoldable pub served : State → ℕ → ℕ → Mode → Outcome
served s row page mode = served_at (slot_of s page) s row page mode

unfoldable pub requested : State → ℕ → ℕ → ℕ → ℕ → Outcome
requested s level number page mode =
    unless (request_refusal s level number page mode) s (served s (row_of level number) page (mode_of mode))

-- look at a row: none, idle, fetch (due), wait, late, taken
abbrev pub looked : Condition → Answer
looked Free = RowFree
looked Idle = RowIdle
looked (Fetching due) = RowFetching due
looked (Waiting page mode) = RowWaiting
looked (Killed cause) = RowKilled cause

unfoldable pub looked_at : State → ℕ → ℕ → Outcome
looked_at s level number =
    unless (look_refusal level number) s (record { state = s; answer = looked (row_at s (row_of level number)).condition })

-- view a page as a level: unseen, active, read, write (strongest seen pin; least seen arrival), dormant (slot arrival)
abbrev pub viewed_pin : Pin → ℕ → Answer
viewed_pin Pin.Absent arrival = PageUnseen
viewed_pin Pin.Unpinned arrival = PageActive arrival
viewed_pin Pin.Read arrival = PageRead arrival
viewed_pin Pin.Write arrival = PageWrite arrival

abbrev pub viewed_in : Found → State → ℕ → Answer
viewed_in Nowhere s level = PageUnseen
viewed_in (At slot) s level =
    cond (seen s level slot) (viewed_pin (strongest_pin s level slot) (least_arrival s level slot))
    (cond (sees_dormant s level slot) (PageDormant (arrival_in (slot_at s slot).content)) PageUnseen)

unfoldable pub viewed : State → ℕ → ℕ → Outcome
viewed s level page = unless (view_refusal level page) s (record { state = s; answer = viewed_in (slot_of s page) s level })

-- count a level's open slots
unfoldable pub counted : State → ℕ → Outcome
counted s level =
    unless (count_refusal level) s (record { state = s; answer = Open (count_below s.size (is_open s level)) })

-- borders: set, as often as asked, until a row begins
unfoldable pub bordered : State → Borders → Outcome
bordered s b = unless (borders_refusal s b) s (record { state = with_borders s b; answer = Bordered })
