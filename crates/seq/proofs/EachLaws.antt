-- The elements of a list in which one element or every element was replaced, and of a list of equal elements.
use mathlib.Core.Path.{◌≡◌, refl, ◌∙◌, sym, ap}
use mathlib.Core.Bool.{cond}
use mathlib.Core.List.{List, [], ◌∷◌}
use Prim.Native.Nat.{ℕ, zero, suc, ◌+◌, ◌<◌, ◌≤◌}
use native.Mathlib.Nat.{add-zero, add-suc, suc-add, zero-add, le_of_suc-le-suc, not-suc-le-zero}
use native.Mathlib.Omega.{arith}
use native.Mathlib.Decide.{ℕ_discrete, dec_lt}
use borrow.Author.Tests.{lt-ltb, le-ltb, eq-eqb, ne_eqb}
use lib.Dec.{ltb, eqb}
use lib.ListN.{length, get_or, set, replicate, length-set, length-replicate, get_or-replicate, get_or-eq_default}
use lib.Seq.{ext_get_or, get_or-set_same, get_or-set_other}
use Rattle.seq.specs.Each.{each_from, each, each_below}

module _ {A : Type 0} where
  -- an element of a list with one element replaced
  pub set_at : (l : List A) (k j : ℕ) (x d : A) → k < length l → get_or (set l k x) j d ≡ cond (eqb j k) x (get_or l j d)
  set_at l k j x d h = elim (ℕ_discrete j k) [
    | yes e ↦ rw (e, eq-eqb k k refl) (get_or-set_same l k x d h)
    | no e ↦ rw (ne_eqb j k e) (get_or-set_other l k j x d e)
  ]

  -- a list of equal elements, and any place past its end
  pub replicate_at : (n i : ℕ) (x : A) → get_or (replicate n x) i x ≡ x
  replicate_at n i x = elim (dec_lt i n) [
    | yes h ↦ get_or-replicate n i x x h
    | no h ↦ get_or-eq_default (replicate n x) x {n = i} (rw (length-replicate n x) (omega arith))
  ]

  from_length : (k : ℕ) (f : ℕ → A → A) (xs : List A) → length (each_from k f xs) ≡ length xs
  unfolding each_from
  from_length k f [] = refl
  from_length k f (x ∷ xs) = ap suc (from_length (suc k) f xs)

  from_at : (k : ℕ) (f : ℕ → A → A) (xs : List A) (i : ℕ) (d : A) → i < length xs → get_or (each_from k f xs) i d ≡ f (k + i) (get_or xs i d)
  unfolding each_from
  from_at k f [] i d h = absurd (not-suc-le-zero h)
  from_at k f (x ∷ xs) zero d h = ap (λ (m : ℕ). f m x) (sym (add-zero k))
  from_at k f (x ∷ xs) (suc i) d h = from_at (suc k) f xs i d (le_of_suc-le-suc h) ∙ ap (λ (m : ℕ). f m (get_or xs i d)) (suc-add k i ∙ sym (add-suc k i))

  pub each_length : (f : ℕ → A → A) (xs : List A) → length (each f xs) ≡ length xs
  unfolding each
  each_length f xs = from_length 0 f xs

  pub each_at : (f : ℕ → A → A) (xs : List A) (i : ℕ) (d : A) → i < length xs → get_or (each f xs) i d ≡ f i (get_or xs i d)
  unfolding each
  each_at f xs i d h = from_at 0 f xs i d h ∙ ap (λ (m : ℕ). f m (get_or xs i d)) (zero-add i)

  -- functions that agree at each place of the list
  pub each_same : (f g : ℕ → A → A) (xs : List A) (d : A) → ((i : ℕ) → i < length xs → f i (get_or xs i d) ≡ g i (get_or xs i d)) → each f xs ≡ each g xs
  each_same f g xs d h = ext_get_or d (each f xs) (each g xs) (each_length f xs ∙ sym (each_length g xs))
      (λ i b. let b2 : i < length xs = rw each_length at b in each_at f xs i d b2 ∙ h i b2 ∙ sym (each_at g xs i d b2))

  -- a function that leaves each element
  pub each_still : (f : ℕ → A → A) (xs : List A) (d : A) → ((i : ℕ) → i < length xs → f i (get_or xs i d) ≡ get_or xs i d) → each f xs ≡ xs
  each_still f xs d h = ext_get_or d (each f xs) xs (each_length f xs)
      (λ i b. let b2 : i < length xs = rw each_length at b in each_at f xs i d b2 ∙ h i b2)

  -- a function that leaves the default: the element at any place, in the list or past its end
  pub each_any : (f : ℕ → A → A) (l : List A) (i : ℕ) (d : A) → (length l ≤ i → f i d ≡ d) → get_or (each f l) i d ≡ f i (get_or l i d)
  each_any f l i d still = elim (dec_lt i (length l)) [
    | yes h ↦ each_at f l i d h
    | no h ↦
        let b : length l ≤ i = omega arith in
        get_or-eq_default (each f l) d {n = i} (rw (each_length f l) b) ∙ sym (still b) ∙ ap (f i) (sym (get_or-eq_default l d {n = i} b))
  ]

  module _ (f : ℕ → A → A) (xs : List A) where
    pub each_below_length : (n : ℕ) → length (each_below n f xs) ≡ length xs
    unfolding each_below
    each_below_length n = each_length (λ k x. cond (ltb k n) (f k x) x) xs

    pub each_below_none : xs ≡ each_below 0 f xs
    unfolding each_below each each_from
    each_below_none = go 0 xs
      where
        go : (k : ℕ) (l : List A) → l ≡ each_from k (λ j x. cond (ltb j 0) (f j x) x) l
        go k [] = refl
        go k (x ∷ l) = rw (le-ltb k 0 (omega arith)) (ap {B = List A} (λ r. x ∷ r) (go (suc k) l))

    -- a place that the loop has not reached
    pub each_below_later : (n i : ℕ) (d : A) → n ≤ i → i < length xs → get_or (each_below n f xs) i d ≡ get_or xs i d
    unfolding each_below
    each_below_later n i d b h = each_at (λ k x. cond (ltb k n) (f k x) x) xs i d h ∙ rw (le-ltb i n b)

    pub each_below_reached : (n i : ℕ) (d : A) → i < n → i < length xs → get_or (each_below n f xs) i d ≡ f i (get_or xs i d)
    unfolding each_below
    each_below_reached n i d b h = each_at (λ k x. cond (ltb k n) (f k x) x) xs i d h ∙ rw (lt-ltb i n b)

    -- one turn of the loop
    pub each_below_more : (n : ℕ) (d : A) → n < length xs → set (each_below n f xs) n (f n (get_or xs n d)) ≡ each_below (n + 1) f xs
    each_below_more n d h =
        ext_get_or d (set (each_below n f xs) n (f n (get_or xs n d))) (each_below (n + 1) f xs)
        (length-set (each_below n f xs) n (f n (get_or xs n d)) ∙ each_below_length n ∙ sym (each_below_length (n + 1)))
        (λ i b.
        let b2 : i < length xs = rw (length-set, each_below_length) at b in
        elim (ℕ_discrete i n) [
          | yes s ↦ rw s (get_or-set_same (each_below n f xs) n (f n (get_or xs n d)) d (rw each_below_length h) ∙ sym (each_below_reached (n + 1) n d (omega arith) h))
          | no s ↦ get_or-set_other (each_below n f xs) n i (f n (get_or xs n d)) d s ∙ go i s b2
        ])
      where
        go : (i : ℕ) → (i ≡ n → ⊥) → i < length xs → get_or (each_below n f xs) i d ≡ get_or (each_below (n + 1) f xs) i d
        go i s b = elim (dec_lt i n) [
          | yes q ↦ each_below_reached n i d q b ∙ sym (each_below_reached (n + 1) i d (omega arith) b)
          | no q ↦ each_below_later n i d (omega arith) b ∙ sym (each_below_later (n + 1) i d (omega arith) b)
        ]

    -- the same, as a loop has it: the list so far, and its element replaced
    pub each_below_turn : (n : ℕ) (d : A) (l : List A) (y : A) → n < length xs → l ≡ each_below n f xs → y ≡ f n (get_or l n d) → set l n y ≡ each_below (n + 1) f xs
    each_below_turn n d l y h e q =
        let s : get_or l n d ≡ get_or xs n d = ap (λ (m : List A). get_or m n d) e ∙ each_below_later n n d (omega arith) h in
        rw (e, q, s) (each_below_more n d h)

    -- the loop's end
    pub each_below_all : (n : ℕ) (d : A) → length xs ≤ n → each_below n f xs ≡ each f xs
    unfolding each_below
    each_below_all n d h = each_same (λ k x. cond (ltb k n) (f k x) x) f xs d (λ i b. rw (lt-ltb i n (omega arith)))
