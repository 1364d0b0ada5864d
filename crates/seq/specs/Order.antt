-- Orders by one number and then by another, and lists in an order.
use Rattle.std.specs.Prelude.{◌≡◌, Bool, true, cond, List, [], ◌∷◌, ℕ, eqb, ltb}

-- a is below b, or they are equal and next decides
abbrev pub lex_less : ℕ → ℕ → Bool → Bool
lex_less a b next = cond (eqb a b) next (ltb a b)

-- a property of every number of a list
abbrev pub Each : (ℕ → Type 0) → List ℕ → Type 0
Each P [] = Unit {0}
Each P (x ∷ xs) = P x × Each P xs

-- each number of the list comes before every later one
abbrev pub Ranked : (ℕ → ℕ → Bool) → List ℕ → Type 0
Ranked before [] = Unit {0}
Ranked before (x ∷ xs) = Each (λ y. before x y ≡ true) xs × Ranked before xs
