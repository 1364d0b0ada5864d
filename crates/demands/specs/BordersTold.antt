-- Document 02, T-02, over lent areas: what the answers of a list of calls say of the borders, and of whether a row has begun.
use Rattle.std.specs.Prelude.{Bool, false, cond, ◌||◌, List, [], ◌∷◌, ℕ}
use Rattle.model.specs.declared.Borders.{Borders}
use Rattle.model.specs.declared.Call.{Call}
use Rattle.rules.specs.Answers.{is_begun, is_bordered}
use Rattle.rules.specs.Content.{borders_named}
use Rattle.sabre.specs.Lent.{answer_on, area_after}

-- a begin is accepted
unfoldable pub has_begun : List ℕ → List Call → Bool
has_begun a [] = false
has_begun a (c ∷ cs) = is_begun (answer_on a c) || has_begun (area_after a c) cs

-- the borders that the last accepted call for borders names, and b where there is none
unfoldable pub borders_set : Borders → List ℕ → List Call → Borders
borders_set b a [] = b
borders_set b a (c ∷ cs) = borders_set (cond (is_bordered (answer_on a c)) (borders_named c) b) (area_after a c) cs
