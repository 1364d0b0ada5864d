-- For the code: the number of a refusal, what a check answers, and what the result of a call comes to.
use Rattle.std.specs.Prelude.{Bool, cond, List, [], ◌∷◌, ℕ, Result, Ok, Err}
use Rattle.model.specs.declared.Answer.{Answer}
use Rattle.model.specs.declared.Answer.TheVariants.{Refused}
use Rattle.model.specs.declared.Outcome.{Outcome}
use Rattle.model.specs.declared.Reply.{Reply}
use Rattle.model.specs.declared.State.{State}
use Rattle.model.specs.Inner.Changed.{outcome_of}
use Rattle.calls.specs.declared.Refusal.{Refusal}
use Rattle.calls.specs.declared.Refusal.TheVariants.{
  Area,
  Slots,
  Delay,
  Level,
  Row,
  Page,
  Mode,
  NotFree,
  Free,
  Killed,
  Busy,
  Past,
  ReadAbove,
  WriteBelow,
  NotPinned,
  LastClock,
  Record,
  Borders,
  HasBegun,
}

abbrev pub refusal_number : Refusal → ℕ
refusal_number Area = 1
refusal_number Slots = 2
refusal_number Delay = 3
refusal_number Level = 4
refusal_number Row = 5
refusal_number Page = 6
refusal_number Mode = 7
refusal_number NotFree = 8
refusal_number Free = 9
refusal_number Killed = 10
refusal_number Busy = 11
refusal_number Past = 12
refusal_number ReadAbove = 13
refusal_number WriteBelow = 14
refusal_number NotPinned = 15
refusal_number LastClock = 17
refusal_number Record = 18
refusal_number Borders = 19
refusal_number HasBegun = 20
refusal_number Refusal.List = 21

-- what a check of some refusals answers: the first that applies, and else a value
abbrev pub checked : {A : Type 0} → List (Refusal × Bool) → A → Result A Refusal
checked [] v = Ok v
checked (r ∷ rs) v = cond r.1 (Err r.0) (checked rs v)

-- the number of the refusal, and 0 where there is none
abbrev pub number_in : {A : Type 0} → Result A Refusal → ℕ
number_in (Ok v) = 0
number_in (Err e) = refusal_number e

-- a refused call changes nothing
abbrev pub result_of : State → Result Reply Refusal → Outcome
result_of s (Ok r) = outcome_of s r
result_of s (Err e) = record { state = s; answer = Refused (refusal_number e) }

-- what a question is answered
abbrev pub answer_in : Result Answer Refusal → Answer
answer_in (Ok a) = a
answer_in (Err e) = Refused (refusal_number e)
