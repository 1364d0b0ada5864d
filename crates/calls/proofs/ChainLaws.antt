-- What chains of iterators and arrays made by calls have: the best value of the elements of a list that pass, with their places, is that of the one that a search finds; a count over a range; an element.
use mathlib.Core.Path.{◌≡◌, refl, ◌∙◌, ap}
use mathlib.Core.Bool.{Bool, true, false, cond}
use mathlib.Core.List.{List, [], ◌∷◌, ◌++◌, map, append-nil}
use Prim.Native.Nat.{ℕ, zero, suc, ◌+◌, ◌<◌, ◌≤◌}
use native.Mathlib.Omega.{arith}
use lib.ListN.{length, get_or, take}
use lib.Seq.{take-suc, length-take-le}
use Rattle.std.specs.Prelude.{Option, Some, None, filter, count_by}
use Rattle.std.specs.List.{enumerate_from, range_with_len, reduce}
use native.Mathlib.Numerals.{add-one}
use denote.Param.Members.{Mut}
use Rattle.std.specs.Fn.{Called}
use Rattle.std.specs.Array.{IsFromFnResultFrom}
use Rattle.std.proofs.lemmas.List.{map-append, map-id}
use Rattle.std.proofs.lemmas.List.FromFn.{sum_by-map-range_with_len_more}
use Rattle.std.proofs.lemmas.List.Sums.{fold-append}
use Rattle.std.proofs.lemmas.List.Elements.{filter-append}
use Rattle.seq.specs.Below.{count_below, pick_below, considered, at_found}
use Rattle.seq.specs.declared.Found.{Found}
use Rattle.seq.specs.declared.Found.TheVariants.{At, Nowhere}
use Rattle.choice.proofs.SummaryLaws.{made_from}

-- one element more at the end
placed_more : {A : Type 0} (k : ℕ) (xs : List A) (x : A) → enumerate_from k (xs ++ (x ∷ [])) ≡ enumerate_from k xs ++ ((k + length xs, x) ∷ [])
placed_more k [] x = let e : k + 0 ≡ k = omega arith in rw e refl
placed_more {A} k (y ∷ xs) x =
    let e : k + 1 + length xs ≡ k + suc (length xs) = omega arith in
    ap {B = List (ℕ × A)} (λ r. (k, y) ∷ r) (rw (← e) (placed_more (k + 1) xs x))

module _ {A V : Type 0} (xs : List A) (d : A) (test : ℕ → A → Bool) (value : A → V) (best : V → V → V) where
  abbrev at : ℕ → A
  at i = get_or xs i d

  abbrev values : List (ℕ × A) → List V
  values ps = map (λ p. value p.1) (filter (λ p. test p.0 p.1) ps)

  abbrev with_more : Option V → V → V
  with_more None y = y
  with_more (Some m) y = best m y

  reduce_more : (l : List V) (y : V) → reduce best (l ++ (y ∷ [])) ≡ Some (with_more (reduce best l) y)
  reduce_more [] y = refl
  reduce_more (x ∷ l) y = ap Some (fold-append best x l (y ∷ []))

  abbrev found : Found → Option V
  found f = at_found f (λ i. Some (value (at i))) None

  module _ (before : ℕ → ℕ → Bool) (better : (i j : ℕ) → best (value (at j)) (value (at i)) ≡ cond (before i j) (value (at i)) (value (at j))) where
    best_more : (n : ℕ) (b : Bool) (f : Found) (l : List V) → reduce best l ≡ found f → reduce best (l ++ map (λ (p : ℕ × A). value p.1) (cond b ((n, at n) ∷ []) [])) ≡ found (considered b f n before)
    best_more n false f l e = rw append-nil e
    best_more n true Nowhere l e = reduce_more l (value (at n)) ∙ rw e refl
    best_more n true (At j) l e = reduce_more l (value (at n)) ∙ rw (e, better n j) (go (before n j))
      where
        go : (b : Bool) → Some (cond b (value (at n)) (value (at j))) ≡ found (cond b (At n) (At j))
        go true = refl
        go false = refl

    pub best_of : (n : ℕ) → n ≤ length xs → reduce best (values (enumerate_from 0 (take n xs))) ≡ found (pick_below n (λ i. test i (at i)) before)
    unfolding pick_below
    best_of zero h = refl
    best_of (suc n) h =
        let l : length (take n xs) ≡ n = length-take-le n xs (omega arith) in
        let z : 0 + length (take n xs) ≡ n = omega arith in
        rw (take-suc xs n d (omega arith), placed_more 0 (take n xs) (at n), z, filter-append, map-append)
        (best_more n (test n (at n)) (pick_below n (λ i. test i (at i)) before) (values (enumerate_from 0 (take n xs))) (best_of n (omega arith)))

-- a count over a range is one over the numbers below its end
pub count_range : (p : ℕ → Bool) (n : ℕ) → count_by p (range_with_len 0 n) ≡ count_below n p
unfolding count_below
count_range p zero = refl
count_range p (suc n) =
    let e : 0 + n ≡ n = omega arith in
    let k = sum_by-map-range_with_len_more (λ m. cond (p m) 1 0) (λ m. m) 0 n n e in
    let a : count_by p (range_with_len 0 (n + 1)) ≡ count_by p (range_with_len 0 n) + cond (p n) 1 0 = rw (map-id (range_with_len 0 (n + 1)), map-id (range_with_len 0 n)) at k in
    rw (add-one n) at (a ∙ ap (λ (m : ℕ). m + cond (p n) 1 0) (count_range p n))

-- what an array made by calls has at a place, where each call answers a value of the place
pub made_at : {F B : Type 0} {g : Mut F (ℕ × Unit {0}) B} (f : F) (ys : List B) (value : ℕ → B) → ((i : ℕ) (y : B) (q : F) → Called g f (i, tt) y q → (q ≡ f) × (y ≡ value i))
    → (n i k : ℕ) (d : B) → IsFromFnResultFrom g f ys i n → i ≤ k → k < i + n → get_or ys k d ≡ value k
made_at f ys value call n i k d m h l = made_from f value call ys d i n k f refl m h l
