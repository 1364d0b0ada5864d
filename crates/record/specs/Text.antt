-- Document 01, "The player", and document 02, T-02 and T-04: the line of an answer and the lines of a tick's list, as bytes.
use Rattle.std.specs.Prelude.{cond, List, [], ◌∷◌, ◌++◌, ℕ, zero, suc, ◌+◌, ◌*◌, ◌-◌, ◌/◌, ◌%◌, eqb, ltb, get_or}
use Rattle.words.specs.Bytes.{joined}
use Rattle.record.specs.Record.{field}

-- a number in decimal without leading zeros, if it has at most k digits
unfoldable pub digits : ℕ → ℕ → List ℕ
digits zero n = []
digits (suc k) n = cond (ltb n 10) ((48 + n) ∷ []) (digits k (n / 10) ++ ((48 + n % 10) ∷ []))

-- the number that a text of digits names after x
unfoldable pub named : ℕ → List ℕ → ℕ
named x [] = x
named x (d ∷ ds) = named (x * 10 + (d - 48)) ds

-- a 64-bit number has at most 20 digits
abbrev pub decimal : ℕ → List ℕ
decimal n = digits 20 n

-- the words in the order of their numbers
unfoldable pub words : List (List ℕ)
words =
    (114 ∷ 101 ∷ 102 ∷ 117 ∷ 115 ∷ 101 ∷ 100 ∷ []) ∷  -- refused
    (115 ∷ 116 ∷ 97 ∷ 114 ∷ 116 ∷ 101 ∷ 100 ∷ []) ∷  -- started
    (98 ∷ 101 ∷ 103 ∷ 117 ∷ 110 ∷ []) ∷  -- begun
    (114 ∷ 101 ∷ 97 ∷ 100 ∷ 121 ∷ []) ∷  -- ready
    (102 ∷ 101 ∷ 116 ∷ 99 ∷ 104 ∷ []) ∷  -- fetch
    (119 ∷ 97 ∷ 105 ∷ 116 ∷ []) ∷  -- wait
    (117 ∷ 110 ∷ 112 ∷ 105 ∷ 110 ∷ 110 ∷ 101 ∷ 100 ∷ []) ∷  -- unpinned
    (101 ∷ 110 ∷ 100 ∷ 101 ∷ 100 ∷ []) ∷  -- ended
    (99 ∷ 108 ∷ 111 ∷ 99 ∷ 107 ∷ []) ∷  -- clock
    (110 ∷ 111 ∷ 110 ∷ 101 ∷ []) ∷  -- none
    (105 ∷ 100 ∷ 108 ∷ 101 ∷ []) ∷  -- idle
    (108 ∷ 97 ∷ 116 ∷ 101 ∷ []) ∷  -- late
    (116 ∷ 97 ∷ 107 ∷ 101 ∷ 110 ∷ []) ∷  -- taken
    (117 ∷ 110 ∷ 115 ∷ 101 ∷ 101 ∷ 110 ∷ []) ∷  -- unseen
    (97 ∷ 99 ∷ 116 ∷ 105 ∷ 118 ∷ 101 ∷ []) ∷  -- active
    (114 ∷ 101 ∷ 97 ∷ 100 ∷ []) ∷  -- read
    (119 ∷ 114 ∷ 105 ∷ 116 ∷ 101 ∷ []) ∷  -- write
    (100 ∷ 111 ∷ 114 ∷ 109 ∷ 97 ∷ 110 ∷ 116 ∷ []) ∷  -- dormant
    (111 ∷ 112 ∷ 101 ∷ 110 ∷ []) ∷  -- open
    (98 ∷ 111 ∷ 114 ∷ 100 ∷ 101 ∷ 114 ∷ 115 ∷ []) ∷  -- borders
    (102 ∷ 105 ∷ 108 ∷ 108 ∷ []) ∷  -- fill
    []

abbrev pub word_text : ℕ → List ℕ
word_text n = get_or words n []

-- a number told as that number plus one, `-` for 0
abbrev pub or_dash : ℕ → List ℕ
or_dash zero = 45 ∷ []
or_dash (suc n) = decimal n

-- `number word value`, and ` | slot back` with a line feed
unfoldable pub head_text : (number word value : ℕ) → List ℕ
head_text number word value = decimal number ++ (32 ∷ []) ++ word_text word ++ (32 ∷ []) ++ decimal value

unfoldable pub tail_text : (slot back : ℕ) → List ℕ
tail_text slot back = (32 ∷ 124 ∷ 32 ∷ []) ++ or_dash slot ++ (32 ∷ []) ++ or_dash back ++ (10 ∷ [])

-- the line of the record of that number for an answer's four numbers: word, value, slot + 1 or 0, page to write back + 1 or 0
unfoldable pub line_of : ℕ → List ℕ → List ℕ
line_of number answer = head_text number (get_or answer 0 0) (get_or answer 1 0) ++ tail_text (get_or answer 2 0) (get_or answer 3 0)

-- the four numbers of the entry that stands at a place of a tick's list: `fill`, level × 8 + row, slot + 1, and page written back + 1 where the flag is 2, else 0
unfoldable pub fill_numbers : List ℕ → ℕ → List ℕ
fill_numbers list at =
    20 ∷ (field list at 1 * 8 + field list (at + 1) 1)
    ∷ (field list (at + 2) 1 + 1)
    ∷ cond (eqb (field list (at + 3) 1) 2) (field list (at + 6) 2 + 1) 0
    ∷ []

-- the line of entry i, under the tick's number; where its flag is 0 there is no entry, and no line
unfoldable pub fill_line : ℕ → List ℕ → ℕ → List ℕ
fill_line number list i = cond (eqb (field list (i * 8 + 3) 1) 0) [] (line_of number (fill_numbers list (i * 8)))

-- the lines of the list's 32 entries of 8 bytes, in turn
unfoldable pub fill_lines : ℕ → List ℕ → List ℕ
fill_lines number list = joined 32 (fill_line number list)

-- the most bytes of a record's text: a line of at most 95 bytes, and as many for each of 32 fills
abbrev pub most_text : ℕ
most_text = 3135

unfoldable pub header : List ℕ
header =
    99 ∷ 97 ∷ 108 ∷ 108 ∷ 32 ∷  -- call
    119 ∷ 111 ∷ 114 ∷ 100 ∷ 32 ∷  -- word
    118 ∷ 97 ∷ 108 ∷ 117 ∷ 101 ∷ 32 ∷  -- value
    124 ∷ 32 ∷  -- |
    115 ∷ 108 ∷ 111 ∷ 116 ∷ 32 ∷  -- slot
    98 ∷ 97 ∷ 99 ∷ 107 ∷ 10 ∷  -- back, and a line feed
    []
