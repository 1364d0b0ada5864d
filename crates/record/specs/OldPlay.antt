-- The player before document 02, T-07: areas of the last 32-bit layout, an earlier last tick of the clock, and records of 12 bytes; and the inputs that it played as they are played now. What T-07 left as it was, the other calls and the text of a line, is taken from where it stands.
use Rattle.std.specs.Prelude.{◌≡◌, Bool, false, cond, not, List, [], ◌∷◌, ◌++◌, ℕ, ltb, length, drop, Option, None, Some}
use Rattle.model.specs.declared.Answer.{Answer}
use Rattle.model.specs.declared.Answer.TheVariants.{Refused}
use Rattle.model.specs.declared.Call.{Call}
use Rattle.model.specs.declared.Outcome.{Outcome}
use Rattle.model.specs.declared.State.{State}
use Rattle.rules.specs.Answers.{word, is_clock}
use Rattle.rules.specs.Calls.{three_steps}
use Rattle.rules.specs.Content.{is_start, is_tick}
use Rattle.rules.specs.EarlierClock.{outcome_until, MadeBefore}
use Rattle.rules.specs.Tries.{all_tried, list_bytes}
use Rattle.area.specs.Layout.{decoded}
use Rattle.layout32.specs.Layout as Old
use Rattle.layout32.specs.Sound32.{last_clock32, sound_area32}
use Rattle.sabre.specs.Lent.{is_refused, answer_numbers}
use Rattle.record.specs.declared.Progress.{Progress}
use Rattle.record.specs.Record.{field, long_mark, record_of}
use Rattle.record.specs.ShortRecord.{short_record_of, short_records_of}
use Rattle.record.specs.Text.{line_of, fill_lines, header}
use Rattle.record.specs.Play.{admitted, zero_list, Played, next_progress, unplayed, played_one, and_then, records_of, first_progress}

-- ---- a call on an area

-- a tick was refused from 4,000,000,000 on; every other call did what it does
abbrev pub old_outcome : State → Call → Outcome
old_outcome s c = outcome_until last_clock32 s c

-- refusal 1: the area is under 65,536 bytes, or (not for start) unsound
unfoldable pub old_unfit : List ℕ → Call → Bool
old_unfit a c = cond (is_start c) (ltb (length a) 65536) (not (sound_area32 a))

unfoldable pub old_answer_on : List ℕ → Call → Answer
old_answer_on a c = cond (old_unfit a c) (Refused 1) (old_outcome (Old.decoded a) c).answer

-- after a refusal every byte as before; else the bytes of the next state, and those past 65,536 as before
unfoldable pub old_area_after : List ℕ → Call → List ℕ
old_area_after a c = cond (is_refused (old_answer_on a c)) a (Old.encoded (old_outcome (Old.decoded a) c).state ++ drop 65536 a)

-- an accepted tick writes the first 256 bytes; any other call, and a refused tick, leaves every byte
unfoldable pub old_list_after : List ℕ → Call → List ℕ → List ℕ
old_list_after a c list = cond (is_clock (old_answer_on a c)) (list_bytes (all_tried (three_steps (Old.decoded a))).fills ++ drop 256 list) list

-- ---- a record, and records one after another

unfoldable pub old_answer_to : List ℕ → Option Call → Answer
old_answer_to a None = Refused 18
old_answer_to a (Some c) = old_answer_on a c

unfoldable pub old_area_with : List ℕ → Option Call → List ℕ
old_area_with a None = a
old_area_with a (Some c) = old_area_after a c

unfoldable pub old_list_with : List ℕ → List ℕ → Option Call → List ℕ
old_list_with a list None = list
old_list_with a list (Some c) = cond (is_tick c) (old_list_after a c list) list

unfoldable pub old_played_record : Progress → List ℕ → Option Call → Played
old_played_record t a r = record {
  progress = next_progress t r (word (old_answer_to a r));
  area = old_area_with a r;
  text = line_of t.number (answer_numbers (old_answer_to a r)) ++ fill_lines t.number (old_list_with a zero_list r);
}

unfoldable pub old_played_one : Progress → List ℕ → List ℕ → Played
old_played_one t a bytes = cond t.over (unplayed t a) (old_played_record t a (admitted t.started (short_record_of bytes)))

unfoldable pub old_played : Progress → List ℕ → List (List ℕ) → Played
old_played t a [] = unplayed t a
old_played t a (r ∷ rs) = let p = old_played_one t a r in and_then p (old_played p.progress p.area rs)

-- what it printed for its whole input, on any area
unfoldable pub old_printed : List ℕ → List ℕ → List ℕ
old_printed a input = header ++ (old_played first_progress a (short_records_of input)).text

-- ---- the inputs that play now as they did

-- a record that is good does not begin with the mark C3 5B, and if it is a tick, the clock before it is below 4,000,000,000; one that is bad may be any
abbrev pub IsOld : (area bytes : List ℕ) → Option Call → Type 0
IsOld a bytes None = Unit {0}
IsOld a bytes (Some c) = (field bytes 0 2 ≡ long_mark → ⊥) × MadeBefore last_clock32 (decoded a) c

-- each record is so, as the records are played now, until the run is over
abbrev pub AllOld : Progress → List ℕ → List (List ℕ) → Type 0
AllOld t a [] = Unit {0}
AllOld t a (r ∷ rs) = (t.over ≡ false → IsOld a r (admitted t.started (record_of r))) × AllOld (played_one t a r).progress (played_one t a r).area rs

-- an input without a record of 16 bytes before its first bad one, in which every tick is made below that clock
abbrev pub OldInput : List ℕ → List ℕ → Type 0
OldInput a input = AllOld first_progress a (records_of input)
