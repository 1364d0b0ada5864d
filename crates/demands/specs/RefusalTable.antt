-- Document 01, "Refusals": its table row by row, row 12 as T-01 of document 02 has it, rows 13 and 14 as T-02 has them and its rows 19 and 20, and the row 21 of T-04, rows 1 and 17 as T-07 has them, over lent areas. Refusal 18 is the player's.
-- What it says of a row's condition, a deadline, a pin and a class is said here anew, and not by the words of the definitions that it judges.
use Rattle.std.specs.Prelude.{Bool, true, false, cond, ◌&&◌, ◌||◌, not, List, [], ◌∷◌, ℕ, ◌+◌, leb, ltb, eqb, length}
use Rattle.seq.specs.Below.{any_below}
use Rattle.model.specs.declared.Call.{Call}
use Rattle.model.specs.declared.Condition.{Condition}
use Rattle.model.specs.declared.Condition.TheVariants.{Free, Idle, Fetching, Waiting, Killed}
use Rattle.model.specs.declared.Content.{Content}
use Rattle.model.specs.declared.Content.TheVariants.{Empty, Filled}
use Rattle.model.specs.declared.Pin.{Pin}
use Rattle.model.specs.declared.Borders.{Borders}
use Rattle.model.specs.declared.State.{State}
use Rattle.model.specs.State.{row_at, slot_at, holding_at}
use Rattle.rules.specs.Content.{fields, is_start, is_begin, is_request, is_unpin, is_end, is_tick, is_borders, row_named}
use Rattle.area.specs.Layout.{decoded}
use Rattle.sabre.specs.Lent.{fit_area}

-- a row's condition
abbrev pub free : Condition → Bool
free Free = true
free Idle = false
free (Fetching due) = false
free (Waiting page mode) = false
free (Killed cause) = false

abbrev pub killed : Condition → Bool
killed Free = false
killed Idle = false
killed (Fetching due) = false
killed (Waiting page mode) = false
killed (Killed cause) = true

abbrev pub fetching_or_waiting : Condition → Bool
fetching_or_waiting Free = false
fetching_or_waiting Idle = false
fetching_or_waiting (Fetching due) = true
fetching_or_waiting (Waiting page mode) = true
fetching_or_waiting (Killed cause) = false

-- the page is pinned by the row: some slot has the page, and the row's pin there is read or write
abbrev pub has : ℕ → Content → Bool
has page Empty = false
has page (Filled p arrival dirty lowest) = eqb p page

abbrev pub read_or_write : Pin → Bool
read_or_write Pin.Absent = false
read_or_write Pin.Unpinned = false
read_or_write Pin.Read = true
read_or_write Pin.Write = true

unfoldable pub pinned : State → ℕ → ℕ → Bool
pinned s row page = any_below 64 (λ slot. has page (slot_at s slot).content && read_or_write (holding_at s slot row).pin)

-- the class of a page: how many of the three borders it has reached
abbrev pub reached : ℕ → ℕ → ℕ
reached page border = cond (leb border page) 1 0

abbrev pub class : Borders → ℕ → ℕ
class b page = reached page b.first + reached page b.second + reached page b.third

-- The numbers of the refusals in the documents' order: of those that apply to a call the first is given.
-- Document 01: the smallest number first; document 02, T-02: 19 after 1, 20 after 19; T-04: 21 between 1 and 17, and no 16 any more.
unfoldable pub order : List ℕ
order = 1 ∷ 21 ∷ 2 ∷ 3 ∷ 4 ∷ 5 ∷ 6 ∷ 7 ∷ 8 ∷ 9 ∷ 10 ∷ 11 ∷ 12 ∷ 13 ∷ 14 ∷ 15 ∷ 17 ∷ 19 ∷ 20 ∷ []

-- the refusals in this order, each with whether it applies to the call on the area
unfoldable pub refusals : List ℕ → Call → List (ℕ × Bool)
refusals a c =
    let x = fields c in
    let s = decoded a in
    let pageClass = class s.borders x.page in
    let condition = (row_at s (row_named c)).condition in
    (1, ltb (length a) 65536 || (not (is_start c) && not (fit_area a)))
    ∷ (21, is_tick c && ltb x.room 256)
    ∷ (2, is_start c && not (leb 1 x.slots && leb x.slots 64))
    ∷ (3, is_start c && not (leb 1 x.delay && leb x.delay 255))
    ∷ (4, ltb 3 x.level)
    ∷ (5, ltb 7 x.number)
    ∷ (6, ltb 4095 x.page)
    ∷ (7, ltb 1 x.mode)
    ∷ (8, is_begin c && not (free condition))
    ∷ (9, (is_request c || is_unpin c || is_end c) && free condition)
    ∷ (10, (is_request c || is_unpin c) && killed condition)
    ∷ (11, (is_request c || is_unpin c) && fetching_or_waiting condition)
    ∷ (12, is_begin c && ltb x.deadline s.clock)
    ∷ (13, is_request c && eqb x.mode 0 && ltb x.level pageClass)
    ∷ (14, is_request c && eqb x.mode 1 && ltb pageClass x.level)
    ∷ (15, is_unpin c && not (pinned s (row_named c) x.page))
    ∷ (17, is_tick c && leb 9000000000000000000 s.clock)
    ∷ (19, is_borders c && (ltb x.second x.first || ltb x.third x.second || ltb 4096 x.first || ltb 4096 x.second || ltb 4096 x.third))
    ∷ (20, is_borders c && s.begun)
    ∷ []

-- the refusal of that number applies
abbrev pub applies : ℕ → List (ℕ × Bool) → Bool
applies n [] = false
applies n (r ∷ rs) = (eqb n r.0 && r.1) || applies n rs

-- the place of n in a list: how many numbers stand before it
abbrev pub place : List ℕ → ℕ → ℕ
place [] n = 0
place (m ∷ ms) n = cond (eqb m n) 0 (1 + place ms n)
