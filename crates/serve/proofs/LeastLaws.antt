-- The least value of the elements of a list that pass, as a chain of iterators has it, is the value of the one that a search finds.
use mathlib.Core.Path.{◌≡◌, refl, ◌∙◌, ap}
use mathlib.Core.Bool.{Bool, true, false, cond}
use mathlib.Core.List.{List, [], ◌∷◌, ◌++◌, map, append-nil}
use Prim.Native.Nat.{ℕ, zero, suc, ◌+◌, ◌≤◌, min}
use native.Mathlib.Omega.{arith}
use borrow.Author.Tests.{lt-ltb, le-ltb}
use native.Mathlib.Decide.{dec_lt}
use lib.Dec.{ltb}
use lib.ListN.{length, get_or, take}
use lib.Seq.{take-suc, length-take-le}
use Rattle.std.specs.Prelude.{Option, Some, None, filter}
use Rattle.std.specs.List.{enumerate_from, reduce}
use Rattle.std.specs.Option.{unwrap_or}
use Rattle.std.proofs.lemmas.List.{map-append, take_all}
use Rattle.std.proofs.lemmas.List.Sums.{fold-append}
use Rattle.std.proofs.lemmas.List.Elements.{filter-append}
use Rattle.seq.specs.Below.{pick_below, considered, at_found}
use Rattle.seq.specs.declared.Found.{Found}
use Rattle.seq.specs.declared.Found.TheVariants.{At, Nowhere}
use Rattle.model.specs.declared.Holding.{Holding}
use Rattle.model.specs.State.{empty_holding}
use Rattle.serve.specs.Inner.SlotHoldings.{seen_test, held_by, least_in}

-- one element more at the end
placed_more : {A : Type 0} (k : ℕ) (xs : List A) (x : A) → enumerate_from k (xs ++ (x ∷ [])) ≡ enumerate_from k xs ++ ((k + length xs, x) ∷ [])
placed_more k [] x = let e : k + 0 ≡ k = omega arith in rw e refl
placed_more {A} k (y ∷ xs) x =
    let e : k + 1 + length xs ≡ k + suc (length xs) = omega arith in
    ap {B = List (ℕ × A)} (λ r. (k, y) ∷ r) (rw (← e) (placed_more (k + 1) xs x))

abbrev lesser : Option ℕ → ℕ → ℕ
lesser None y = y
lesser (Some m) y = min m y

reduce_more : (l : List ℕ) (y : ℕ) → reduce min (l ++ (y ∷ [])) ≡ Some (lesser (reduce min l) y)
reduce_more [] y = refl
reduce_more (x ∷ l) y = ap Some (fold-append min x l (y ∷ []))

min_is : (m y : ℕ) → min m y ≡ cond (ltb y m) y m
min_is m y = elim (dec_lt y m) [
  | yes h ↦ rw (lt-ltb y m h) (omega arith)
  | no h ↦ rw (le-ltb y m (omega arith)) (omega arith)
]

module _ {A : Type 0} (xs : List A) (d : A) (test : ℕ → A → Bool) (value : A → ℕ) where
  abbrev at : ℕ → A
  at i = get_or xs i d

  abbrev values : List (ℕ × A) → List ℕ
  values ps = map (λ p. value p.1) (filter (λ p. test p.0 p.1) ps)

  abbrev before : ℕ → ℕ → Bool
  before i j = ltb (value (at i)) (value (at j))

  abbrev found : Found → Option ℕ
  found f = at_found f (λ i. Some (value (at i))) None

  least_more : (n : ℕ) (b : Bool) (f : Found) (l : List ℕ) → reduce min l ≡ found f → reduce min (l ++ map (λ (p : ℕ × A). value p.1) (cond b ((n, at n) ∷ []) [])) ≡ found (considered b f n before)
  least_more n false f l e = rw append-nil e
  least_more n true Nowhere l e = reduce_more l (value (at n)) ∙ rw e refl
  least_more n true (At j) l e = reduce_more l (value (at n)) ∙ rw (e, min_is (value (at j)) (value (at n))) (go (before n j))
    where
      go : (b : Bool) → Some (cond b (value (at n)) (value (at j))) ≡ found (cond b (At n) (At j))
      go true = refl
      go false = refl

  least_of : (n : ℕ) → n ≤ length xs → reduce min (values (enumerate_from 0 (take n xs))) ≡ found (pick_below n (λ i. test i (at i)) before)
  unfolding pick_below
  least_of zero h = refl
  least_of (suc n) h =
      let l : length (take n xs) ≡ n = length-take-le n xs (omega arith) in
      let z : 0 + length (take n xs) ≡ n = omega arith in
      rw (take-suc xs n d (omega arith), placed_more 0 (take n xs) (at n), z, filter-append, map-append)
      (least_more n (test n (at n)) (pick_below n (λ i. test i (at i)) before) (values (enumerate_from 0 (take n xs))) (least_of n (omega arith)))

-- the least arrival among the holdings that a level sees
pub least_chain : (held : List Holding) (level : ℕ) → length held ≡ 32 → (o : Option ℕ)
    → o ≡ reduce min (map (λ (p : ℕ × Holding). p.1.arrival) (filter (λ p. seen_test level p.0 p.1) (enumerate_from 0 held))) → unwrap_or o 0 ≡ least_in held level
unfolding least_in
least_chain held level l o e =
    let k = least_of held empty_holding (seen_test level) (λ h. h.arrival) 32 (rw l (omega arith)) in
    rw (e ∙ rw (take_all 32 held (omega arith)) at k) (go (pick_below 32 (λ row. seen_test level row (held_by held row)) (λ row other. ltb (held_by held row).arrival (held_by held other).arrival)))
  where
    go : (f : Found) → unwrap_or (at_found f (λ i. Some (held_by held i).arrival) None) 0 ≡ at_found f (λ row. (held_by held row).arrival) 0
    go Nowhere = refl
    go (At i) = refl
