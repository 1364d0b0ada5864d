-- A list in which every element was replaced by a function of its place and itself.
use Rattle.std.specs.Prelude.{cond, List, [], ◌∷◌, ℕ, suc, ltb}

module _ {A : Type 0} where
  -- the places counted from k
  unfoldable pub each_from : ℕ → (ℕ → A → A) → List A → List A
  each_from k f [] = []
  each_from k f (x ∷ xs) = f k x ∷ each_from (suc k) f xs

  unfoldable pub each : (ℕ → A → A) → List A → List A
  each f xs = each_from 0 f xs

  -- the same for the places below n alone: a loop over the list after n iterations
  unfoldable pub each_below : ℕ → (ℕ → A → A) → List A → List A
  each_below n f xs = each (λ k x. cond (ltb k n) (f k x) x) xs
