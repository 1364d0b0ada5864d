-- The value at what a search found, as a loop carries it: one turn, from the value so far and whether something was found.
use mathlib.Core.Path.{◌≡◌, refl}
use mathlib.Core.Bool.{Bool, true, false, cond}
use Prim.Native.Nat.{ℕ, ◌+◌}
use Rattle.seq.specs.Below.{any_below, pick_below, considered, at_found}
use Rattle.seq.specs.declared.Found.{Found}
use Rattle.seq.specs.declared.Found.TheVariants.{At, Nowhere}
use Rattle.seq.proofs.BelowLaws.{none_any, hit_any}
use Rattle.seq.proofs.PickLaws.{pick_more, pick_is, pick_none}

-- the order is one of the values
module _ {A : Type 0} (p : ℕ → Bool) (f : ℕ → A) (less : A → A → Bool) (d : A) where
  abbrev before : ℕ → ℕ → Bool
  before i j = less (f i) (f j)

  -- a number with value x that passes where t, beside the value v of the best one found so far
  abbrev pub best_of : Bool → A → Bool → A → A
  best_of t x found v = cond t (cond found (cond (less x v) x v) x) v

  value_more : (n : ℕ) → at_found (pick_below (n + 1) p before) f d ≡ best_of (p n) (f n) (any_below n p) (at_found (pick_below n p before) f d)
  value_more n = rw (pick_more p before n) (go (p n) (pick_below n p before) refl)
    where
      cut : (b : Bool) (i : ℕ) → at_found (cond b (At n) (At i)) f d ≡ cond b (f n) (f i)
      cut true i = refl
      cut false i = refl

      go : (b : Bool) (x : Found) → pick_below n p before ≡ x → at_found (considered b x n before) f d ≡ best_of b (f n) (any_below n p) (at_found x f d)
      go false x e = refl
      go true Nowhere e = rw (none_any p n (λ i h. pick_none p before n i e h))
      go true (At i) e = let y = pick_is p before n i e in rw (hit_any p n i y.0 y.1) (cut (before n i) i)

  pub value_turn : (n : ℕ) (t : Bool) (x : A) (found : Bool) (v w : A) → t ≡ p n → x ≡ f n → found ≡ any_below n p → v ≡ at_found (pick_below n p before) f d
      → w ≡ best_of t x found v → w ≡ at_found (pick_below (n + 1) p before) f d
  value_turn n t x found v w e1 e2 e3 e4 q = rw (value_more n, ← e1, ← e2, ← e3, ← e4) q
