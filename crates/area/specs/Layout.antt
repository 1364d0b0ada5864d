-- docs/LAYOUT.md: a state as the first 65,536 bytes of a lent area, the state that an area names, and whether its bytes are exactly that state's.
use Rattle.std.specs.Prelude.{Bool, cond, not, List, [], ◌∷◌, ◌++◌, ℕ, ◌+◌, ◌*◌, ◌%◌, eqb, get_or, take, replicate}
use Rattle.seq.specs.Each.{each}
use Rattle.words.specs.Bytes.{word_at, word_bytes, zero_words, joined, same}
use Rattle.model.specs.declared.Cause.{Cause}
use Rattle.model.specs.declared.Cause.TheVariants.{Late, Taken}
use Rattle.model.specs.declared.Condition.{Condition}
use Rattle.model.specs.declared.Condition.TheVariants.{Free, Idle, Fetching, Waiting, Killed}
use Rattle.model.specs.declared.Content.{Content}
use Rattle.model.specs.declared.Content.TheVariants.{Empty, Filled}
use Rattle.model.specs.declared.Pin.{Pin}
use Rattle.model.specs.declared.Pin.TheVariants.{Absent, Unpinned, Read, Write}
use Rattle.model.specs.declared.Row.{Row}
use Rattle.model.specs.declared.Slot.{Slot}
use Rattle.model.specs.declared.Holding.{Holding}
use Rattle.model.specs.declared.Borders.{Borders}
use Rattle.model.specs.declared.State.{State}
use Rattle.model.specs.Parties.{mode_of, mode_number}
use Rattle.model.specs.State.{free_row, empty_slot, empty_holding, empty_holdings, row_at, slot_at}
use Rattle.model.specs.Words.{is_filled, page_in, arrival_in, dirty_in, lowest_in, strength}

-- the letters SABREBUF, the first the least byte
abbrev pub mark : ℕ
mark = 5068029821175611731

-- the version that is written
abbrev pub version : ℕ
version = 4

-- a Bool as 0 or 1
abbrev pub bit : Bool → ℕ
bit b = cond b 1 0

-- the number of slots started with, the delay, the clock, the three borders and whether a row has begun stand behind the mark and the version
unfoldable pub header_words : ℕ → State → List ℕ
header_words v s =
    mark ∷ v ∷ s.size ∷ s.delay ∷ s.clock ∷ s.borders.first ∷ s.borders.second ∷ s.borders.third ∷ bit s.begun ∷ []

abbrev pub cause_number : Cause → ℕ
cause_number Late = 4
cause_number Taken = 5

abbrev pub condition_number : Condition → ℕ
condition_number Free = 0
condition_number Idle = 1
condition_number (Fetching due) = 2
condition_number (Waiting page mode) = 3
condition_number (Killed cause) = cause_number cause

-- the due tick of a fetching row, the page of a waiting one
abbrev pub awaited : Condition → ℕ
awaited Free = 0
awaited Idle = 0
awaited (Fetching due) = due
awaited (Waiting page mode) = page
awaited (Killed cause) = 0

abbrev pub waiting_mode : Condition → ℕ
waiting_mode Free = 0
waiting_mode Idle = 0
waiting_mode (Fetching due) = 0
waiting_mode (Waiting page mode) = mode_number mode
waiting_mode (Killed cause) = 0

unfoldable pub row_words : Row → List ℕ
row_words x = condition_number x.condition ∷ awaited x.condition ∷ waiting_mode x.condition ∷ x.deadline ∷ 0 ∷ 0 ∷ 0 ∷ 0 ∷ []

unfoldable pub slot_words : Slot → List ℕ
slot_words x =
    bit (is_filled x.content) ∷ page_in x.content ∷ arrival_in x.content ∷ bit (dirty_in x.content) ∷ lowest_in x.content ∷ x.touch ∷ 0 ∷ 0 ∷ []

unfoldable pub holding_words : Holding → List ℕ
holding_words h = strength h.pin ∷ h.arrival ∷ h.touch ∷ []

-- the place of each of the 32 rows in its level's begin order, a word for each
abbrev pub places_bytes : List ℕ → List ℕ
places_bytes places = joined 32 (λ row. word_bytes (get_or places row 0 ∷ []))

-- the 65,536 bytes of a state, with a version
unfoldable pub encoded_as : ℕ → State → List ℕ
encoded_as v s =
    word_bytes (header_words v s) ++ (places_bytes s.places ++ (zero_words 23
    ++ (joined 32 (λ row. word_bytes (row_words (row_at s row)))
    ++ (joined 64 (λ slot. word_bytes (slot_words (slot_at s slot)))
    ++ (joined 2048 (λ k. word_bytes (holding_words (get_or s.holdings k empty_holding)))
    ++ zero_words 1216)))))

abbrev pub encoded : State → List ℕ
encoded s = encoded_as version s

-- a page or a border has the lower four bytes of its word
abbrev pub low : ℕ → ℕ
low w = w % 4294967296

unfoldable pub condition_of : ℕ → ℕ → ℕ → Condition
condition_of number what mode =
    cond (eqb number 0) Free
    (cond (eqb number 1) Idle
    (cond (eqb number 2) (Fetching what)
    (cond (eqb number 3) (Waiting (low what) (mode_of mode))
    (cond (eqb number 4) (Killed Late) (Killed Taken)))))

unfoldable pub pin_numbered : ℕ → Pin
pin_numbered number = cond (eqb number 0) Absent (cond (eqb number 1) Unpinned (cond (eqb number 2) Read Write))

unfoldable pub content_of : ℕ → ℕ → ℕ → ℕ → ℕ → Content
content_of filled page arrival dirty lowest = cond (eqb filled 0) Empty (Filled (low page) arrival (not (eqb dirty 0)) lowest)

-- the row, the slot and the holding whose words begin at a place
unfoldable pub row_from : List ℕ → ℕ → Row
row_from a at = record {
  condition = condition_of (word_at a at) (word_at a (at + 8)) (word_at a (at + 16));
  deadline = word_at a (at + 24);
}

unfoldable pub slot_from : List ℕ → ℕ → Slot
slot_from a at = record {
  content = content_of (word_at a at) (word_at a (at + 8)) (word_at a (at + 16)) (word_at a (at + 24)) (word_at a (at + 32));
  touch = word_at a (at + 40);
}

unfoldable pub holding_from : List ℕ → ℕ → Holding
holding_from a at = record { pin = pin_numbered (word_at a at); arrival = word_at a (at + 8); touch = word_at a (at + 16) }

unfoldable pub free_rows : List Row
free_rows = replicate 32 free_row

unfoldable pub empty_slots : List Slot
empty_slots = replicate 64 empty_slot

unfoldable pub borders_from : List ℕ → Borders
borders_from a = record { first = low (word_at a 40); second = low (word_at a 48); third = low (word_at a 56) }

unfoldable pub no_places : List ℕ
no_places = replicate 32 0

-- a place is the whole of its word
unfoldable pub places_from : List ℕ → List ℕ
places_from a = each (λ row _. word_at a (72 + row * 8)) no_places

-- the state that an area names
unfoldable pub decoded : List ℕ → State
decoded a = record {
  size = word_at a 16;
  delay = word_at a 24;
  clock = word_at a 32;
  rows = each (λ row _. row_from a (512 + row * 64)) free_rows;
  slots = each (λ slot _. slot_from a (2560 + slot * 64)) empty_slots;
  holdings = each (λ k _. holding_from a (6656 + k * 24)) empty_holdings;
  borders = borders_from a;
  begun = not (eqb (word_at a 64) 0);
  places = places_from a;
}

-- the version that an area names
abbrev pub version_in : List ℕ → ℕ
version_in a = word_at a 8

-- the first 65,536 bytes are exactly those of the state that they name, with a version
unfoldable pub exact_as : ℕ → List ℕ → Bool
exact_as v a = same (take 65536 a) (encoded_as v (decoded a))

abbrev pub exact : List ℕ → Bool
exact a = exact_as version a
