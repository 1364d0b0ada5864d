-- A run of a machine beside the run of its kept calls alone, from two states that stand in a relation: where a kept call made on both, and any other call
-- made on the first, leaves such states, the relation holds at the end, and what is noted of both runs is the same.
use mathlib.Core.Path.{◌≡◌, refl}
use mathlib.Core.Bool.{Bool, true, false, cond}
use mathlib.Core.List.{List, [], ◌∷◌}
use Rattle.seq.specs.Machine.{last_of, noted, only}

-- Good is what is known of a run, Fine what is then known of each of its calls, R the relation
module _ {S C : Type 0} (next : S → C → S) (kept : C → Bool) (Good : S → List C → Type 0) (Fine : S → C → Type 0) (R : S → S → Type 0)
    (good-first : (s : S) (c : C) (cs : List C) → Good s (c ∷ cs) → Fine s c)
    (good-rest : (s : S) (c : C) (cs : List C) → Good s (c ∷ cs) → Good (next s c) cs)
    (Kept-step : (s t : S) → R s t → (c : C) → Fine s c → kept c ≡ true → R (next s c) (next t c))
    (other_step : (s t : S) → R s t → (c : C) → Fine s c → kept c ≡ false → R (next s c) t) where
  -- the states that the two runs leave
  pub beside_last : (cs : List C) (s t : S) → R s t → Good s cs → R (last_of next s cs) (last_of next t (only kept cs))
  unfolding last_of only
  beside_last [] s t x g = x
  beside_last (c ∷ cs) s t x g = go (kept c) refl (good-first s c cs g) (λ u y. beside_last cs (next s c) u y (good-rest s c cs g))
    where
      go : (k : Bool) → kept c ≡ k → Fine s c → ((u : S) → R (next s c) u → R (last_of next (next s c) cs) (last_of next u (only kept cs)))
          → R (last_of next (next s c) cs) (last_of next t (cond k (c ∷ only kept cs) (only kept cs)))
      go true k f h = h (next t c) (Kept-step s t x c f k)
      go false k f h = h t (other_step s t x c f k)

  -- an entry that a kept call has on both states or on neither, and no other call has
  module _ {E : Type 0} (mark : S → C → Bool) (entry : S → C → E)
      (same-mark : (s t : S) → R s t → (c : C) → Fine s c → kept c ≡ true → mark s c ≡ mark t c)
      (same-entry : (s t : S) → R s t → (c : C) → Fine s c → kept c ≡ true → entry s c ≡ entry t c)
      (no-mark : (s : S) (c : C) → kept c ≡ false → mark s c ≡ false) where
    pub beside_noted : (cs : List C) (s t : S) → R s t → Good s cs → noted next mark entry s cs ≡ noted next mark entry t (only kept cs)
    unfolding noted only
    beside_noted [] s t x g = refl
    beside_noted (c ∷ cs) s t x g = go (kept c) refl (good-first s c cs g) (λ u y. beside_noted cs (next s c) u y (good-rest s c cs g))
      where
        rest : S → List C → List E
        rest u = noted next mark entry u

        go : (k : Bool) → kept c ≡ k → Fine s c → ((u : S) → R (next s c) u → rest (next s c) cs ≡ rest u (only kept cs))
            → cond (mark s c) (entry s c ∷ rest (next s c) cs) (rest (next s c) cs) ≡ rest t (cond k (c ∷ only kept cs) (only kept cs))
        go true k f h =
            let m = same-mark s t x c f k in
            let e = same-entry s t x c f k in
            let r = h (next t c) (Kept-step s t x c f k) in
            λ i. cond (m i) (e i ∷ r i) (r i)
        go false k f h = rw (no-mark s c k) (h t (other_step s t x c f k))
