-- The player's records before document 02, T-07: 12 bytes, the mark C3 5A and a value of four bytes. ShortRecords of proofs compares them with those of Record.
use Rattle.std.specs.Prelude.{◌≡◌, Bool, cond, ◌&&◌, List, [], ◌∷◌, ℕ, zero, suc, ◌/◌, ◌%◌, eqb, length, get_or, take, drop, Option, None, Some}
use Rattle.model.specs.declared.Call.{Call}
use Rattle.model.specs.declared.Call.TheVariants.{Start, Begin, Request, Unpin, End, Tick, Look, View, Count, Borders}
use Rattle.record.specs.Record.{field, list_length, short_mark, long_mark, short_width}

unfoldable pub short_kinds : (level number mode page value : ℕ) → List (Option Call)
short_kinds level number mode page value =
    Some (Start page value) ∷  -- 0
    Some (Begin level number value) ∷  -- 1
    Some (Request level number page mode) ∷  -- 2
    Some (Unpin level number page) ∷  -- 3
    Some (End level number) ∷  -- 4
    None ∷  -- 5
    Some (Tick list_length) ∷  -- 6
    Some (Look level number) ∷  -- 7
    Some (View level page) ∷  -- 8
    Some (Count level) ∷  -- 9
    Some (Borders page (value / 65536) (value % 65536)) ∷  -- 10
    []

unfoldable pub short_is_whole : List ℕ → Bool
short_is_whole r = eqb (length r) short_width && eqb (field r 0 2) short_mark

unfoldable pub short_record_of : List ℕ → Option Call
short_record_of r = cond (short_is_whole r) (get_or (short_kinds (field r 3 1) (field r 4 1) (field r 5 1) (field r 6 2) (field r 8 4)) (field r 2 1) None) None

-- the first n parts of 12 bytes of some bytes, or all if there are fewer; the last may be shorter
unfoldable pub short_first : ℕ → List ℕ → List (List ℕ)
short_first zero bytes = []
short_first (suc n) [] = []
short_first (suc n) (b ∷ bs) = take short_width (b ∷ bs) ∷ short_first n (drop short_width (b ∷ bs))

unfoldable pub short_records_of : List ℕ → List (List ℕ)
short_records_of bytes = short_first (length bytes) bytes

-- none of some parts begins with the mark C3 5B
abbrev pub NoneLong : List (List ℕ) → Type 0
NoneLong [] = Unit {0}
NoneLong (r ∷ rs) = (field r 0 2 ≡ long_mark → ⊥) × NoneLong rs
