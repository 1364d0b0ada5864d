-- Document 01, "The player", and document 02, T-02, T-04 and T-07: the call that a record of 12 or 16 bytes names.
use Rattle.std.specs.Prelude.{Bool, cond, ◌&&◌, ◌||◌, List, [], ◌∷◌, ℕ, ◌+◌, ◌*◌, ◌-◌, ◌/◌, ◌%◌, eqb, length, get_or, Option, None, Some}
use Rattle.words.specs.Bytes.{part}
use Rattle.model.specs.declared.Call.{Call}
use Rattle.model.specs.declared.Call.TheVariants.{Start, Begin, Request, Unpin, End, Tick, Look, View, Count, Borders}

-- the number that some bytes name after x, the most significant byte first
unfoldable pub big_endian : ℕ → List ℕ → ℕ
big_endian x [] = x
big_endian x (b ∷ bs) = big_endian (x * 256 + b) bs

-- the number in n bytes from a place on
unfoldable pub field : List ℕ → ℕ → ℕ → ℕ
field r at n = big_endian 0 (part r at n)

-- how many bytes the list has that the player lends with a tick
abbrev pub list_length : ℕ
list_length = 256

-- the calls that the kinds name, from kind 0 on, and the fields that each uses
unfoldable pub kinds : (level number mode page value : ℕ) → List (Option Call)
kinds level number mode page value =
    Some (Start page value) ∷  -- 0
    Some (Begin level number value) ∷  -- 1
    Some (Request level number page mode) ∷  -- 2
    Some (Unpin level number page) ∷  -- 3
    Some (End level number) ∷  -- 4
    None ∷  -- 5
    Some (Tick list_length) ∷  -- 6
    Some (Look level number) ∷  -- 7
    Some (View level page) ∷  -- 8
    Some (Count level) ∷  -- 9
    Some (Borders page (value / 65536 % 65536) (value % 65536)) ∷  -- 10: the borders in page and the two halves of the lower four bytes of value, high half first
    []

-- a record of another kind is bad
unfoldable pub of_kind : (kind level number mode page value : ℕ) → Option Call
of_kind kind level number mode page value = get_or (kinds level number mode page value) kind None

-- the mark C3 5A begins a record of 12 bytes, with a value of four, and the mark C3 5B one of 16 bytes, with a value of eight
abbrev pub short_mark : ℕ
short_mark = 50010

abbrev pub long_mark : ℕ
long_mark = 50011

abbrev pub short_width : ℕ
short_width = 12

abbrev pub long_width : ℕ
long_width = 16

-- how many bytes the record has that some bytes begin
unfoldable pub record_width : List ℕ → ℕ
record_width bytes = cond (eqb (field bytes 0 2) long_mark) long_width short_width

unfoldable pub has_mark : List ℕ → Bool
has_mark r = eqb (field r 0 2) short_mark || eqb (field r 0 2) long_mark

-- a whole record has all its bytes, and one of the two marks stands first
unfoldable pub is_whole : List ℕ → Bool
is_whole r = eqb (length r) (record_width r) && has_mark r

-- kind, level, row number and mode have a byte each, page two bytes and value the others
unfoldable pub record_of : List ℕ → Option Call
record_of r = cond (is_whole r) (of_kind (field r 2 1) (field r 3 1) (field r 4 1) (field r 5 1) (field r 6 2) (field r 8 (record_width r - 8))) None
