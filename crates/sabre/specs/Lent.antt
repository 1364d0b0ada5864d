-- Demands 1 and 2 over the bytes of a lent area: what each exported call answers, the area that it leaves, and the list that a tick leaves.
use Rattle.std.specs.Prelude.{◌≡◌, Bool, true, cond, not, ◌&&◌, ◌||◌, List, [], ◌∷◌, ◌++◌, ℕ, ◌≤◌, eqb, leb, ltb, length, drop}
use Rattle.model.specs.declared.Answer.{Answer}
use Rattle.model.specs.declared.Answer.TheVariants.{Refused}
use Rattle.rules.specs.Sound.{sound}
use Rattle.rules.specs.Content.{is_start, is_reading}
use Rattle.rules.specs.Answers.{word, value, slot_told, back_told, is_clock}
use Rattle.model.specs.declared.Call.{Call}
use Rattle.rules.specs.Run.{outcome, fills_of}
use Rattle.rules.specs.Tries.{list_bytes}
use Rattle.area.specs.Layout.{encoded, decoded, version_in, exact_as, exact}
use Rattle.layout32.specs.Sound32.{sound_area32}
use Rattle.layout32.specs.Known.{known}

-- an area is sound if it is long enough, its first 65,536 bytes are exactly those of the state that they name, and that state is sound
unfoldable pub sound_area : List ℕ → Bool
sound_area a = leb 65536 (length a) && (exact a && sound (decoded a))

-- a call other than start takes a sound area, and a sound area of the last 32-bit layout
unfoldable pub fit_area : List ℕ → Bool
fit_area a = sound_area a || sound_area32 a

-- what is so of such an area: it is exact with the version that it has, which with its clock and rows is known, and its state is sound
pub record FitArea (a : List ℕ) : Type 0 where
  pub long : 65536 ≤ length a
  pub exactly : exact_as (version_in a) a ≡ true
  pub is_known : known (version_in a) (decoded a).clock (decoded a).rows ≡ true
  pub sound_state : sound (decoded a) ≡ true

-- refusal 1: the area is under 65,536 bytes, or (not for start) sound in neither of the two layouts
unfoldable pub unfit : List ℕ → Call → Bool
unfit a c = cond (is_start c) (ltb (length a) 65536) (not (fit_area a))

-- the answer of a call on an area
unfoldable pub answer_on : List ℕ → Call → Answer
answer_on a c = cond (unfit a c) (Refused 1) (outcome (decoded a) c).answer

abbrev pub is_refused : Answer → Bool
is_refused x = eqb (word x) 0

-- the area that a call leaves: after a refusal, and after a look, a view or a count, every byte as before; else the bytes of the next state, and those past 65,536
-- as before
unfoldable pub area_after : List ℕ → Call → List ℕ
area_after a c = cond (is_refused (answer_on a c) || is_reading c) a (encoded (outcome (decoded a) c).state ++ drop 65536 a)

-- the list that a call leaves: an accepted tick writes its first 256 bytes; any other call, and a refused tick, leaves every byte
unfoldable pub list_after : List ℕ → Call → List ℕ → List ℕ
list_after a c list = cond (is_clock (answer_on a c)) (list_bytes (fills_of (decoded a) c) ++ drop 256 list) list

-- what a call returns: 0 where it is accepted, else the refusal's number
unfoldable pub status : Answer → ℕ
status x = cond (is_refused x) (value x) 0

-- the four numbers of an answer: word, value, and for the server alone slot + 1 or 0 and page to write back + 1 or 0
unfoldable pub answer_numbers : Answer → List ℕ
answer_numbers x = word x ∷ value x ∷ slot_told x ∷ back_told x ∷ []
