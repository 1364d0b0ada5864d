-- For the code; proved equal to sound_numbers, sound_pages and sound_pins, proofs/ElementLaws, PageLaws and PinLaws: the lengths of the arrays, the range of the numbers, and how the pages and the pins are told apart.
use Rattle.std.specs.Prelude.{Bool, false, cond, ◌&&◌, List, ℕ, zero, suc, ◌+◌, leb, ltb, eqb, length, get_or, replicate}
use Rattle.seq.specs.Below.{any_below}
use Rattle.model.specs.declared.Content.{Content}
use Rattle.model.specs.declared.Content.TheVariants.{Empty, Filled}
use Rattle.model.specs.declared.Pin.{Pin}
use Rattle.model.specs.declared.Pin.TheVariants.{Absent, Unpinned, Read, Write}
use Rattle.model.specs.declared.Holding.{Holding}
use Rattle.model.specs.declared.Row.{Row}
use Rattle.model.specs.declared.Slot.{Slot}
use Rattle.model.specs.Parties.{last_clock}
use Rattle.model.specs.State.{empty_slot}

unfoldable pub lengths_test : List Row → List Slot → List Holding → List ℕ → Bool
lengths_test rows slots holdings places = eqb (length rows) 32 && eqb (length slots) 64 && eqb (length holdings) 2048 && eqb (length places) 32

unfoldable pub in_range : ℕ → ℕ → ℕ → Bool
in_range size delay clock = leb 1 size && leb size 64 && leb 1 delay && leb delay 255 && leb clock last_clock

-- where the page of a slot is noted: at its number, and at 4096 where there is no page below 4096
abbrev pub place_in : Content → ℕ
place_in Empty = 4096
place_in (Filled page arrival dirty lowest) = cond (ltb page 4096) page 4096

-- a page below 4096 is in one of the first n slots
unfoldable pub seen_at : List Slot → ℕ → ℕ → Bool
seen_at slots n page = ltb page 4096 && any_below n (λ slot. eqb (place_in (get_or slots slot empty_slot).content) page)

unfoldable pub no_pages : List Bool
no_pages = replicate 4097 false

-- a slot before this one has its page, which is below 4096
unfoldable pub place_taken : List Slot → ℕ → Bool
place_taken slots slot = seen_at slots slot (place_in (get_or slots slot empty_slot).content)

-- the weight of a pin: the pins of 32 rows weigh at most 64 together just where no two of them conflict
abbrev pub pin_weight : Pin → ℕ
pin_weight Absent = 0
pin_weight Unpinned = 0
pin_weight Read = 1
pin_weight Write = 64

-- what the pins of the rows below n weigh together
unfoldable pub weight_below : ℕ → (ℕ → Pin) → ℕ
weight_below zero pin = 0
weight_below (suc n) pin = weight_below n pin + pin_weight (pin n)
