-- Document 02, T-06, over lent areas: the begin order of a level that the answers of a list of calls tell, and what a sound order names.
use Rattle.std.specs.Prelude.{◌≡◌, List, [], ◌∷◌, ℕ, ◌≤◌}
use Rattle.model.specs.declared.Answer.TheVariants.{RowFree}
use Rattle.model.specs.declared.Call.{Call}
use Rattle.model.specs.declared.Call.TheVariants.{Look}
use Rattle.model.specs.Parties.{row_of}
use Rattle.model.specs.Changes.{rows_not_free}
use Rattle.rules.specs.BeginOrder.{order_next}
use Rattle.area.specs.Layout.{decoded}
use Rattle.sabre.specs.Lent.{answer_on, area_after}
use Rattle.demands.specs.SlotWords.{place_word}

-- the numbers of the level's rows in the order in which they began, after a list of calls on an area before which it was the list given
unfoldable pub order_told : ℕ → List ℕ → List ℕ → List Call → List ℕ
order_told level numbers a [] = numbers
order_told level numbers a (c ∷ cs) = order_told level (order_next level numbers c (answer_on a c)) (area_after a c) cs

-- the place words of a level: a look tells a row as free exactly where its word is 0; those of the rows that are not free are at least 1
-- and at most the number of these rows, and no two are the same
pub record OrderNames (a : List ℕ) (level : ℕ) : Type 0 where
  pub free : (number : ℕ) → number ≤ 7 → answer_on a (Look level number) ≡ RowFree → place_word a (row_of level number) ≡ 0
  pub none : (number : ℕ) → number ≤ 7 → place_word a (row_of level number) ≡ 0 → answer_on a (Look level number) ≡ RowFree
  pub least : (number : ℕ) → number ≤ 7 → (answer_on a (Look level number) ≡ RowFree → ⊥) → 1 ≤ place_word a (row_of level number)
  pub most : (number : ℕ) → number ≤ 7 → (answer_on a (Look level number) ≡ RowFree → ⊥) → place_word a (row_of level number) ≤ rows_not_free (decoded a).rows level
  pub once : (x y : ℕ) → x ≤ 7 → y ≤ 7 → (answer_on a (Look level x) ≡ RowFree → ⊥) → place_word a (row_of level x) ≡ place_word a (row_of level y) → x ≡ y
