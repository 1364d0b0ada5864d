-- Document 02, T-06: the begin order of a level, as a list of the numbers of its rows that are not free, who began earlier first, what a call's answer makes of it, and the places of its rows.
use Rattle.std.specs.Prelude.{◌≡◌, cond, ◌&&◌, not, List, [], ◌∷◌, ◌++◌, ℕ, ◌+◌, ◌≤◌, eqb}
use Rattle.seq.specs.Machine.{only}
use Rattle.model.specs.declared.Answer.{Answer}
use Rattle.model.specs.declared.Call.{Call}
use Rattle.model.specs.declared.State.{State}
use Rattle.model.specs.Parties.{row_of}
use Rattle.model.specs.State.{place_at}
use Rattle.rules.specs.Answers.{is_begun, is_ended}
use Rattle.rules.specs.Content.{fields, is_begin, is_end}

-- the place of a number in a list, from 1; 0 where it is not there
unfoldable pub place_in : ℕ → List ℕ → ℕ
place_in n [] = 0
place_in n (m ∷ ms) = cond (eqb n m) 1 (cond (eqb (place_in n ms) 0) 0 (place_in n ms + 1))

-- an accepted begin of a row of the level puts its number at the end, an accepted end takes it out, every other call leaves the order
unfoldable pub order_next : ℕ → List ℕ → Call → Answer → List ℕ
order_next level numbers c answer =
    cond (is_begin c && is_begun answer && eqb (fields c).level level) (numbers ++ ((fields c).number ∷ []))
    (cond (is_end c && is_ended answer && eqb (fields c).level level) (only (λ n. not (eqb n (fields c).number)) numbers)
    numbers)

-- numbers of rows, each once
abbrev pub Ordered : List ℕ → Type 0
Ordered [] = Unit
Ordered (m ∷ ms) = (m ≤ 7) × (place_in m ms ≡ 0) × Ordered ms

-- the rows of the level have their places in the list
pub record InOrder (s : State) (level : ℕ) (l : List ℕ) : Type 0 where
  pub ordered : Ordered l
  pub placed : (n : ℕ) → n ≤ 7 → place_at s (row_of level n) ≡ place_in n l
