-- Document 01, "The player", and document 02, T-04 and T-07: records played one after another on an area, and the text that comes out.
use Rattle.std.specs.Prelude.{◌≡◌, Bool, true, false, cond, not, ◌||◌, List, [], ◌∷◌, ◌++◌, ℕ, zero, suc, ◌+◌, eqb, length, take, drop, replicate, Option, None, Some}
use Rattle.model.specs.declared.Answer.{Answer}
use Rattle.model.specs.declared.Answer.TheVariants.{Refused}
use Rattle.model.specs.declared.Call.{Call}
use Rattle.rules.specs.Answers.{word}
use Rattle.rules.specs.Content.{is_start, is_tick}
use Rattle.sabre.specs.Lent.{answer_on, area_after, list_after, answer_numbers}
use Rattle.record.specs.declared.Progress.{Progress}
use Rattle.record.specs.Record.{record_width, list_length, record_of}
use Rattle.record.specs.Text.{line_of, fill_lines, header}

-- a record is the call that it names, None where it is bad
abbrev pub is_bad : Option Call → Bool
is_bad None = true
is_bad (Some c) = false

-- before an accepted start every record of another kind is bad
unfoldable pub admitted : Bool → Option Call → Option Call
admitted true r = r
admitted false None = None
admitted false (Some c) = cond (is_start c) (Some c) None

-- refusal 18 comes before any call; else the call is made
unfoldable pub answer_to : List ℕ → Option Call → Answer
answer_to a None = Refused 18
answer_to a (Some c) = answer_on a c

unfoldable pub area_with : List ℕ → Option Call → List ℕ
area_with a None = a
area_with a (Some c) = area_after a c

-- the list as the player lends it
unfoldable pub zero_list : List ℕ
zero_list = replicate list_length 0

-- the list after a record: only a tick is lent it
unfoldable pub list_with : List ℕ → List ℕ → Option Call → List ℕ
list_with a list None = list
list_with a list (Some c) = cond (is_tick c) (list_after a c list) list

-- where a run stands, what it has made of the area, and what it has printed
pub record Played : Type 0 where
  pub progress : Progress
  pub area : List ℕ
  pub text : List ℕ

-- the progress after a record answered with a word: whether a start was accepted, whether the run is over, the next record's number
unfoldable pub next_progress : Progress → Option Call → ℕ → Progress
next_progress t r word = record { started = t.started || not (eqb word 0); over = is_bad r; number = t.number + 1 }

-- a record that was admitted: its line and those of what it filled, and the run ends after a bad one
unfoldable pub played_record : Progress → List ℕ → Option Call → Played
played_record t a r = record {
  progress = next_progress t r (word (answer_to a r));
  area = area_with a r;
  text = line_of t.number (answer_numbers (answer_to a r)) ++ fill_lines t.number (list_with a zero_list r);
}

-- nothing played
abbrev pub unplayed : Progress → List ℕ → Played
unplayed t a = record { progress = t; area = a; text = [] }

-- the next record's bytes; nothing is played once the run is over
unfoldable pub played_one : Progress → List ℕ → List ℕ → Played
played_one t a bytes = cond t.over (unplayed t a) (played_record t a (admitted t.started (record_of bytes)))

-- a run, and what goes on where it stands
abbrev pub and_then : Played → Played → Played
and_then p q = record { progress = q.progress; area = q.area; text = p.text ++ q.text }

-- records played one after another
unfoldable pub played : Progress → List ℕ → List (List ℕ) → Played
played t a [] = unplayed t a
played t a (r ∷ rs) = let p = played_one t a r in and_then p (played p.progress p.area rs)

-- the first n records of some bytes, or all if there are fewer; the last may be cut
unfoldable pub first_records : ℕ → List ℕ → List (List ℕ)
first_records zero bytes = []
first_records (suc n) [] = []
first_records (suc n) (b ∷ bs) = let w = record_width (b ∷ bs) in take w (b ∷ bs) ∷ first_records n (drop w (b ∷ bs))

-- all records of some bytes, of which there are no more than bytes
unfoldable pub records_of : List ℕ → List (List ℕ)
records_of bytes = first_records (length bytes) bytes

-- records of full width alone
abbrev pub AllFull : List (List ℕ) → Type 0
AllFull [] = Unit {0}
AllFull (r ∷ rs) = (length r ≡ record_width r) × AllFull rs

-- the bytes of some records, and what follows them
unfoldable pub input_of : List (List ℕ) → List ℕ → List ℕ
input_of [] rest = rest
input_of (r ∷ rs) rest = r ++ input_of rs rest

unfoldable pub first_progress : Progress
first_progress = record { started = false; over = false; number = 1 }

-- what the player prints for its whole input, on any area
unfoldable pub printed : List ℕ → List ℕ → List ℕ
printed a input = header ++ (played first_progress a (records_of input)).text
