-- Two searches whose numbers correspond: they find numbers that correspond. The largest value of what passes.
use mathlib.Core.Path.{◌≡◌, refl, ◌∙◌, sym, ap}
use mathlib.Core.Bool.{Bool, true, false}
use Prim.Native.Nat.{ℕ, ◌<◌, ◌≤◌}
use native.Mathlib.Omega.{arith}
use borrow.Author.Tests.{ltb-false}
use lib.Dec.{ltb}
use Rattle.seq.specs.Below.{pick_below, at_found}
use Rattle.seq.specs.declared.Found.{Found}
use Rattle.seq.specs.declared.Found.TheVariants.{At, Nowhere}
use Rattle.seq.proofs.Tests.{true_false}
use Rattle.seq.proofs.OrderLaws.{ltb_strict, ltb_trans}
use Rattle.seq.proofs.PickLaws.{pick_is, pick_none, pick_some, none_pick, pick_first, first_pick}

-- both found nothing, or what they found is related
abbrev pub Paired : (ℕ → ℕ → Type 0) → Found → Found → Type 0
Paired R Nowhere Nowhere = Unit
Paired R Nowhere (At j) = ⊥
Paired R (At i) Nowhere = ⊥
Paired R (At i) (At j) = R i j

-- an order for a search: strict and transitive on what passes, and total on what passes below n
pub record Ordered (n : ℕ) (p : ℕ → Bool) (before : ℕ → ℕ → Bool) : Type 0 where
  pub strict : (i : ℕ) → p i ≡ true → before i i ≡ false
  pub trans : (i j k : ℕ) → p i ≡ true → p j ≡ true → p k ≡ true → before i j ≡ true → before j k ≡ true → before i k ≡ true
  pub total : (i j : ℕ) → i < n → j < n → p i ≡ true → p j ≡ true → (j ≡ i → ⊥) → before j i ≡ false → before i j ≡ true

-- the numbers below n and those below m correspond, both ways
pub record Both (n m : ℕ) (R : ℕ → ℕ → Type 0) : Type 0 where
  pub there : (i : ℕ) → i < n → (j : ℕ) × (j < m) × R i j
  pub back : (j : ℕ) → j < m → (i : ℕ) × (i < n) × R i j

pub pick_paired : (n m : ℕ) (R : ℕ → ℕ → Type 0) → Both n m R → (p q : ℕ → Bool) (before after : ℕ → ℕ → Bool)
    → ((i j : ℕ) → R i j → p i ≡ q j)
    → ((i j k l : ℕ) → R i j → R k l → p i ≡ true → p k ≡ true → before i k ≡ after j l)
    → Ordered n p before → Ordered m q after
    → Paired R (pick_below n p before) (pick_below m q after)
pick_paired n m R b p q before after tests orders o w = go (pick_below n p before) refl
  where
    go : (f : Found) → pick_below n p before ≡ f → Paired R (pick_below n p before) (pick_below m q after)
    go Nowhere e =
        let g : pick_below m q after ≡ Nowhere = none_pick q after m (λ j h.
        let x = b.back j h in
        sym (tests x.0 j x.2) ∙ pick_none p before n x.0 e x.1) in
        rw (e, g) tt
    go (At i) e =
        let y = pick_is p before n i e in
        let x = b.there i y.0 in
        let g : pick_below m q after ≡ At x.0 =
        first_pick q after w.strict w.trans m x.0 x.1 (sym (tests i x.0 x.2) ∙ y.1)
        (λ l h c ne.
        let z = b.back l h in
        let v : p z.0 ≡ true = tests z.0 l z.2 ∙ c in
        w.total x.0 l x.1 h (sym (tests i x.0 x.2) ∙ y.1) c ne
        (sym (orders z.0 l i x.0 z.2 x.2 v y.1) ∙ pick_first p before o.strict o.trans n i z.0 e z.1 v)) in
        rw (e, g) x.2

-- the largest value of f on what passes
abbrev pub most_below : ℕ → (ℕ → Bool) → (ℕ → ℕ) → ℕ
most_below n p f = at_found (pick_below n p (λ i j. ltb (f j) (f i))) f 0

pub most_least : (n : ℕ) (p : ℕ → Bool) (f : ℕ → ℕ) (b : ℕ) → ((i : ℕ) → i < n → p i ≡ true → f i ≤ b) → most_below n p f ≤ b
most_least n p f b h = go (pick_below n p (λ i j. ltb (f j) (f i))) refl
  where
    go : (x : Found) → pick_below n p (λ i j. ltb (f j) (f i)) ≡ x → at_found x f 0 ≤ b
    go Nowhere e = omega arith
    go (At i) e = let y = pick_is p (λ i j. ltb (f j) (f i)) n i e in h i y.0 y.1

pub most_bound : (n : ℕ) (p : ℕ → Bool) (f : ℕ → ℕ) (i : ℕ) → i < n → p i ≡ true → f i ≤ most_below n p f
most_bound n p f i h e = go (pick_below n p (λ i j. ltb (f j) (f i))) refl
  where
    go : (x : Found) → pick_below n p (λ i j. ltb (f j) (f i)) ≡ x → f i ≤ at_found x f 0
    go Nowhere w = true_false (sym e ∙ pick_none p (λ i j. ltb (f j) (f i)) n i w h)
    go (At k) w =
        ltb-false (f k) (f i)
        (pick_first p (λ i j. ltb (f j) (f i)) (λ a _. ltb_strict (f a)) (λ a b c _ _ _ u v. ltb_trans (f c) (f b) (f a) v u) n k i w h e)

-- one of the numbers that pass has the largest value
pub most_at : (n : ℕ) (p : ℕ → Bool) (f : ℕ → ℕ) (i : ℕ) → i < n → p i ≡ true → (k : ℕ) × (k < n) × (p k ≡ true) × (f k ≡ most_below n p f)
most_at n p f i h e =
    let x = pick_some p (λ i j. ltb (f j) (f i)) n i h e in
    let y = pick_is p (λ i j. ltb (f j) (f i)) n x.0 x.1 in
    (x.0, y.0, y.1, sym (ap (λ (g : Found). at_found g f 0) x.1))

-- where each number that passes p has one that passes q with its value, q's largest is no smaller
pub most_into : (n m : ℕ) (p q : ℕ → Bool) (f g : ℕ → ℕ) → ((i : ℕ) → i < n → p i ≡ true → (j : ℕ) × (j < m) × (q j ≡ true) × (f i ≡ g j)) → most_below n p f ≤ most_below m q g
most_into n m p q f g h = most_least n p f (most_below m q g) (λ i b e.
    let x = h i b e in
    let y = most_bound m q g x.0 x.1 x.2 in
    let z = x.3 in
    omega arith)

-- tests and values that agree
pub most_same : (n : ℕ) (p q : ℕ → Bool) (f g : ℕ → ℕ) → ((i : ℕ) → i < n → p i ≡ q i) → ((i : ℕ) → i < n → p i ≡ true → f i ≡ g i) → most_below n p f ≡ most_below n q g
most_same n p q f g h k =
    let a = most_into n n p q f g (λ i b e. (i, b, sym (h i b) ∙ e, k i b e)) in
    let b = most_into n n q p g f (λ i b e. (i, b, h i b ∙ e, sym (k i b (h i b ∙ e)))) in
    omega arith

-- tests and values that agree where the numbers correspond
pub most_paired : (n m : ℕ) (R : ℕ → ℕ → Type 0) → Both n m R → (p q : ℕ → Bool) (f g : ℕ → ℕ) → ((i j : ℕ) → R i j → p i ≡ q j) → ((i j : ℕ) → R i j → f i ≡ g j) → most_below n p f ≡ most_below m q g
most_paired n m R b p q f g h k =
    let x = most_into n m p q f g (λ i c e. let w = b.there i c in (w.0, w.1, sym (h i w.0 w.2) ∙ e, k i w.0 w.2)) in
    let y = most_into m n q p g f (λ j c e. let w = b.back j c in (w.0, w.1, h w.0 j w.2 ∙ e, sym (k w.0 j w.2))) in
    omega arith
