-- Counts that are compared: by the complement, and by a relation that sends different numbers to different ones.
use mathlib.Core.Path.{◌≡◌, refl, ◌∙◌, sym, ap}
use mathlib.Core.Bool.{Bool, true, false, cond, ◌&&◌, not}
use Prim.Native.Nat.{ℕ, zero, suc, ◌+◌, ◌<◌, ◌≤◌}
use native.Mathlib.Omega.{arith}
use native.Mathlib.Decide.{ℕ_discrete}
use borrow.Author.Tests.{eq-eqb, ne_eqb}
use lib.Dec.{eqb}
use Rattle.seq.specs.Below.{any_below, count_below}
use Rattle.seq.proofs.Tests.{true_false}
use Rattle.seq.proofs.BelowLaws.{below_suc, any_hit, any_none, count_same, count_none, none_count}

-- each number passes, or fails
pub count_not : (p : ℕ → Bool) (n : ℕ) → count_below n p + count_below n (λ i. not (p i)) ≡ n
unfolding count_below
count_not p zero = refl
count_not p (suc n) = go (p n) (count_not p n)
  where
    go : (b : Bool) → count_below n p + count_below n (λ i. not (p i)) ≡ n → (count_below n p + cond b 1 0) + (count_below n (λ i. not (p i)) + cond (not b) 1 0) ≡ suc n
    go true h = omega arith
    go false h = omega arith

-- a test but for one number
abbrev pub without : (ℕ → Bool) → ℕ → ℕ → Bool
without q j k = q k && not (eqb k j)

without_other : (q : ℕ → Bool) (j k : ℕ) → (k ≡ j → ⊥) → without q j k ≡ q k
without_other q j k m = rw (ne_eqb k j m) (go (q k))
  where
    go : (b : Bool) → b && true ≡ b
    go true = refl
    go false = refl

-- one number that passes, taken out
pub count_without : (q : ℕ → Bool) (m j : ℕ) → j < m → q j ≡ true → count_below m q ≡ count_below m (without q j) + 1
unfolding count_below
count_without q zero j h e = absurd (omega arith)
count_without q (suc m) j h e = elim (ℕ_discrete j m) [
  | yes s ↦
      let a : q m ≡ true = sym (ap q s) ∙ e in
      let b : count_below m q ≡ count_below m (without q j) = count_same q (without q j) m (λ k l. sym (without_other q j k (λ w. omega arith))) in
      rw (a, eq-eqb m j (sym s)) (omega arith)
  | no s ↦
      let b = count_without q m j (below_suc m j h s) e in
      rw (without_other q j m (λ w. s (sym w))) (omega arith)
]

-- one number more passes q than p
pub count_one_more : (p q : ℕ → Bool) (m j : ℕ) → j < m → p j ≡ false → q j ≡ true → ((k : ℕ) → k < m → (k ≡ j → ⊥) → p k ≡ q k) → count_below m q ≡ count_below m p + 1
count_one_more p q m j h e f g =
    count_without q m j h f
    ∙ ap (λ (n : ℕ). n + 1) (count_same (without q j) p m (λ k l. elim (ℕ_discrete k j) [
      | yes s ↦ rw (s, eq-eqb j j refl, e) (and_false (q j))
      | no s ↦ without_other q j k s ∙ sym (g k l s)
    ]))
  where
    and_false : (b : Bool) → b && false ≡ false
    and_false true = refl
    and_false false = refl

-- different numbers that pass p are related to different numbers that pass q: p has no more of them
pub count_into : (p : ℕ → Bool) (m : ℕ) (R : ℕ → ℕ → Type 0) (n : ℕ) (q : ℕ → Bool)
    → ((i : ℕ) → i < n → p i ≡ true → (j : ℕ) × (j < m) × (q j ≡ true) × R i j)
    → ((i k j : ℕ) → i < n → k < n → p i ≡ true → p k ≡ true → R i j → R k j → i ≡ k)
    → count_below n p ≤ count_below m q
unfolding count_below
count_into p m R zero q f g = omega arith
count_into p m R (suc n) q f g = go (p n) refl (count_into p m R n)
  where
    go : (b : Bool) → p n ≡ b
        → ((r : ℕ → Bool) → ((i : ℕ) → i < n → p i ≡ true → (j : ℕ) × (j < m) × (r j ≡ true) × R i j)
        → ((i k j : ℕ) → i < n → k < n → p i ≡ true → p k ≡ true → R i j → R k j → i ≡ k) → count_below n p ≤ count_below m r)
        → count_below n p + cond (p n) 1 0 ≤ count_below m q
    go false e hyp =
        let a = hyp q (λ i h. f i (omega arith)) (λ i k j h l. g i k j (omega arith) (omega arith)) in
        rw e (omega arith)
    go true e hyp =
        let x = f n (omega arith) e in
        let a = hyp (without q x.0)
        (λ i h w.
        let y = f i (omega arith) w in
        (y.0, y.1, without_other q x.0 y.0 (λ s. other i h w x y s) ∙ y.2, y.3))
        (λ i k j h l. g i k j (omega arith) (omega arith)) in
        let b = count_without q m x.0 x.1 x.2 in
        rw e (omega arith)
      where
        other : (i : ℕ) → i < n → p i ≡ true → (x : (j : ℕ) × (j < m) × (q j ≡ true) × R n j) (y : (j : ℕ) × (j < m) × (q j ≡ true) × R i j) → y.0 ≡ x.0 → ⊥
        other i h w x y s =
            let z : i ≡ n = g i n x.0 (omega arith) (omega arith) w e (rw s at y.3) x.3 in
            omega arith

-- where equally many pass, one passes if one does
pub any_count : (p q : ℕ → Bool) (n m : ℕ) → count_below n p ≡ count_below m q → any_below n p ≡ true → any_below m q ≡ true
any_count p q n m e a = go (any_below m q) refl
  where
    go : (b : Bool) → any_below m q ≡ b → any_below m q ≡ true
    go true w = w
    go false w =
        let z : count_below n p ≡ 0 = e ∙ count_none q m (λ i h. any_none q m i w h) in
        let x = any_hit p n a in
        true_false (sym x.2 ∙ none_count p n z x.0 x.1)
