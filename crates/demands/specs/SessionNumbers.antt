-- Document 01's session S as the numbers that the calls give: word, value, and for the server alone slot + 1 and page to write back + 1, or 0 for none.
use Rattle.std.specs.Prelude.{List, [], ◌∷◌, ℕ}
use Rattle.model.specs.declared.Call.{Call}
use Rattle.sabre.specs.Lent.{answer_on, area_after, answer_numbers}

-- the numbers that each of a list of calls gives
unfoldable pub numbers_on : List ℕ → List Call → List (List ℕ)
numbers_on a [] = []
numbers_on a (c ∷ cs) = answer_numbers (answer_on a c) ∷ numbers_on (area_after a c) cs

-- lines 1 to 11; line 7 is `fetch 2 | 0 1024`
abbrev pub session_numbers : List (List ℕ)
session_numbers =
    (1 ∷ 0 ∷ 0 ∷ 0 ∷ [])
    ∷ (2 ∷ 0 ∷ 0 ∷ 0 ∷ [])
    ∷ (4 ∷ 1 ∷ 1 ∷ 0 ∷ [])
    ∷ (8 ∷ 1 ∷ 0 ∷ 0 ∷ [])
    ∷ (2 ∷ 0 ∷ 0 ∷ 0 ∷ [])
    ∷ (18 ∷ 1 ∷ 0 ∷ 0 ∷ [])
    ∷ (4 ∷ 2 ∷ 1 ∷ 1025 ∷ [])
    ∷ (12 ∷ 0 ∷ 0 ∷ 0 ∷ [])
    ∷ (15 ∷ 2 ∷ 0 ∷ 0 ∷ [])
    ∷ (18 ∷ 0 ∷ 0 ∷ 0 ∷ [])
    ∷ (0 ∷ 10 ∷ 0 ∷ 0 ∷ [])
    ∷ []
