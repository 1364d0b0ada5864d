-- A machine that takes calls one after another: next has the state that a call leaves.
use Rattle.std.specs.Prelude.{Bool, true, cond, ◌&&◌, List, [], ◌∷◌}

module _ {S C : Type 0} (next : S → C → S) where
  -- the state that a list of calls leaves
  unfoldable pub last_of : S → List C → S
  last_of s [] = s
  last_of s (c ∷ cs) = last_of (next s c) cs

  -- each call of the list passes the test on the state that it is made on
  unfoldable pub throughout : (S → C → Bool) → S → List C → Bool
  throughout p s [] = true
  throughout p s (c ∷ cs) = p s c && throughout p (next s c) cs

  -- what is noted of a list of calls: an entry for each call that is marked, in the order of the calls
  unfoldable pub noted : {E : Type 0} → (S → C → Bool) → (S → C → E) → S → List C → List E
  noted mark entry s [] = []
  noted mark entry s (c ∷ cs) = let rest = noted mark entry (next s c) cs in cond (mark s c) (entry s c ∷ rest) rest

-- the elements of a list that pass the test, in their order
unfoldable pub only : {C : Type 0} → (C → Bool) → List C → List C
only p [] = []
only p (c ∷ cs) = cond (p c) (c ∷ only p cs) (only p cs)
