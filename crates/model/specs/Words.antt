-- Document 01, "State": the words in which the rules speak of rows, slots and holdings.
use Rattle.std.specs.Prelude.{Bool, true, false, cond, ◌&&◌, ◌||◌, not, List, ℕ, leb, ltb, eqb, get_or}
use Rattle.seq.specs.Below.{any_below, pick_below, first_below, at_found}
use Rattle.seq.specs.declared.Found.{Found}
use Rattle.model.specs.declared.Mode.{Mode}
use Rattle.model.specs.declared.Condition.{Condition}
use Rattle.model.specs.declared.Condition.TheVariants.{Free, Idle, Fetching, Waiting, Killed}
use Rattle.model.specs.declared.Content.{Content}
use Rattle.model.specs.declared.Content.TheVariants.{Empty, Filled}
use Rattle.model.specs.declared.Pin.{Pin}
use Rattle.model.specs.declared.Pin.TheVariants.{Absent, Unpinned, Read, Write}
use Rattle.model.specs.declared.Rank.{Rank}
use Rattle.model.specs.declared.Slot.{Slot}
use Rattle.model.specs.declared.State.{State}
use Rattle.model.specs.Parties.{level_of, rank_of, better}
use Rattle.model.specs.State.{empty_slot, row_at, slot_at, holding_at, place_at}

abbrev pub is_free : Condition → Bool
is_free Free = true
is_free Idle = false
is_free (Fetching due) = false
is_free (Waiting page mode) = false
is_free (Killed cause) = false

-- idle, fetching and waiting rows are live
abbrev pub is_live : Condition → Bool
is_live Free = false
is_live Idle = true
is_live (Fetching due) = true
is_live (Waiting page mode) = true
is_live (Killed cause) = false

abbrev pub is_filled : Content → Bool
is_filled Empty = false
is_filled (Filled page arrival dirty lowest) = true

-- the parts of a filled slot's content; 0, or clean, where it is empty
abbrev pub page_in : Content → ℕ
page_in Empty = 0
page_in (Filled page arrival dirty lowest) = page

abbrev pub arrival_in : Content → ℕ
arrival_in Empty = 0
arrival_in (Filled page arrival dirty lowest) = arrival

abbrev pub dirty_in : Content → Bool
dirty_in Empty = false
dirty_in (Filled page arrival dirty lowest) = dirty

abbrev pub lowest_in : Content → ℕ
lowest_in Empty = 0
lowest_in (Filled page arrival dirty lowest) = lowest

abbrev pub has_page : ℕ → Content → Bool
has_page page Empty = false
has_page page (Filled p arrival dirty lowest) = eqb p page

-- there is a holding
abbrev pub is_held : Pin → Bool
is_held Absent = false
is_held Unpinned = true
is_held Read = true
is_held Write = true

-- its pin is read or write
abbrev pub is_pin : Pin → Bool
is_pin Absent = false
is_pin Unpinned = false
is_pin Read = true
is_pin Write = true

abbrev pub is_write : Pin → Bool
is_write Absent = false
is_write Unpinned = false
is_write Read = false
is_write Write = true

-- the pin that a request's mode asks for
abbrev pub pin_of : Mode → Pin
pin_of Mode.Read = Read
pin_of Mode.Write = Write

-- two pins of different rows conflict if either is write
unfoldable pub conflict : Pin → Pin → Bool
conflict p q = is_pin p && is_pin q && (is_write p || is_write q)

-- no holding, pin none, read, write: each stronger than the one before
abbrev pub strength : Pin → ℕ
strength Absent = 0
strength Unpinned = 1
strength Read = 2
strength Write = 3

unfoldable pub stronger : Pin → Pin → Pin
stronger p q = cond (ltb (strength p) (strength q)) q p

-- the row holds the slot
abbrev pub holds : State → ℕ → ℕ → Bool
holds s slot row = is_held (holding_at s slot row).pin

abbrev pub pins : State → ℕ → ℕ → Bool
pins s slot row = is_pin (holding_at s slot row).pin

-- the row is of the level or a lower one, and holds the slot
unfoldable pub seen_holder : State → ℕ → ℕ → ℕ → Bool
seen_holder s level slot row = leb (level_of row) level && holds s slot row

-- the level sees the slot's page through a holding: a row of its level or a lower one holds it
unfoldable pub seen : State → ℕ → ℕ → Bool
seen s level slot = any_below 32 (seen_holder s level slot)

-- a slot is open to a level if no row of that level or a lower one holds it
unfoldable pub is_open : State → ℕ → ℕ → Bool
is_open s level slot = not (seen s level slot)

-- a slot with a page and no holding is dormant
unfoldable pub dormant : State → ℕ → Bool
dormant s slot = is_filled (slot_at s slot).content && not (any_below 32 (holds s slot))

-- level 3 also sees dormant pages
unfoldable pub sees_dormant : State → ℕ → ℕ → Bool
sees_dormant s level slot = eqb level 3 && dormant s slot

-- what priority compares of a row
abbrev pub rank_at : State → ℕ → Rank
rank_at s row = rank_of row (row_at s row).deadline (place_at s row)

-- the first row has better priority than the second
unfoldable pub outranks : State → ℕ → ℕ → Bool
outranks s row other = better (rank_at s row) (rank_at s other)

-- the holder of best priority
unfoldable pub best_holder : State → ℕ → Found
best_holder s slot = pick_below 32 (holds s slot) (outranks s)

-- the strongest pin that the level sees on the slot
unfoldable pub strongest_pin : State → ℕ → ℕ → Pin
strongest_pin s level slot =
    let pin : ℕ → Pin = λ row. (holding_at s slot row).pin in
    at_found (pick_below 32 (seen_holder s level slot) (λ row other. ltb (strength (pin other)) (strength (pin row)))) pin Absent

-- the least arrival among the holdings that the level sees on the slot
unfoldable pub least_arrival : State → ℕ → ℕ → ℕ
least_arrival s level slot =
    let arrival : ℕ → ℕ = λ row. (holding_at s slot row).arrival in
    at_found (pick_below 32 (seen_holder s level slot) (λ row other. ltb (arrival row) (arrival other))) arrival 0

-- the latest touch of the slot by holders of the level
unfoldable pub latest_touch : State → ℕ → ℕ → ℕ
latest_touch s level slot =
    let touch : ℕ → ℕ = λ row. (holding_at s slot row).touch in
    at_found (pick_below 32 (λ row. eqb (level_of row) level && holds s slot row) (λ row other. ltb (touch other) (touch row))) touch 0

-- the slot that has a page
abbrev pub page_slot : List Slot → ℕ → ℕ → Found
page_slot slots size page = first_below size (λ slot. has_page page (get_or slots slot empty_slot).content)

unfoldable pub slot_of : State → ℕ → Found
slot_of s page = page_slot s.slots s.size page
