-- Tests, counts and searches over the numbers below n, in rising order.
use Rattle.std.specs.Prelude.{◌≡◌, Bool, true, false, cond, ◌&&◌, ◌||◌, List, [], ◌∷◌, ℕ, zero, suc, ◌+◌, ◌<◌}
use Rattle.seq.specs.declared.Found.{Found}
use Rattle.seq.specs.declared.Found.TheVariants.{At, Nowhere}

-- some number below n passes p
unfoldable pub any_below : ℕ → (ℕ → Bool) → Bool
any_below zero p = false
any_below (suc n) p = any_below n p || p n

-- each number below n passes p
unfoldable pub all_below : ℕ → (ℕ → Bool) → Bool
all_below zero p = true
all_below (suc n) p = all_below n p && p n

-- how many numbers below n pass p
unfoldable pub count_below : ℕ → (ℕ → Bool) → ℕ
count_below zero p = 0
count_below (suc n) p = count_below n p + cond (p n) 1 0

-- a number n that passes, beside the best one found so far: n is taken where it comes before
abbrev pub against : Found → ℕ → (ℕ → ℕ → Bool) → Found
against Nowhere n before = At n
against (At j) n before = cond (before n j) (At n) (At j)

abbrev pub considered : Bool → Found → ℕ → (ℕ → ℕ → Bool) → Found
considered false f n before = f
considered true f n before = against f n before

-- of the numbers below n that pass p the one that comes before the others, and of equals the smallest
unfoldable pub pick_below : ℕ → (ℕ → Bool) → (ℕ → ℕ → Bool) → Found
pick_below zero p before = Nowhere
pick_below (suc n) p before = considered (p n) (pick_below n p before) n before

-- f of what a search found, and d where it found nothing
abbrev pub at_found : {A : Type 0} → Found → (ℕ → A) → A → A
at_found Nowhere f d = d
at_found (At i) f d = f i

-- the smallest number below n that passes p
abbrev pub first_below : ℕ → (ℕ → Bool) → Found
first_below n p = pick_below n p (λ i j. false)

-- a number put into a list ahead of the first that it comes before, and at the end where there is none
unfoldable pub inserted : (ℕ → ℕ → Bool) → ℕ → List ℕ → List ℕ
inserted before n [] = n ∷ []
inserted before n (m ∷ ms) = cond (before n m) (n ∷ (m ∷ ms)) (m ∷ inserted before n ms)

-- the numbers below n that pass p, each once, those that come before others first, and of equals the smallest
unfoldable pub sorted_below : ℕ → (ℕ → Bool) → (ℕ → ℕ → Bool) → List ℕ
sorted_below zero p before = []
sorted_below (suc n) p before = cond (p n) (inserted before n (sorted_below n p before)) (sorted_below n p before)

-- exactly one number below n passes
pub record One (p : ℕ → Bool) (n : ℕ) : Type 0 where
  pub at : ℕ
  pub below : at < n
  pub passes : p at ≡ true
  pub only : (i : ℕ) → i < n → p i ≡ true → i ≡ at
