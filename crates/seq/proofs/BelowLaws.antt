-- What a test or a count over the numbers below n says of each of them; one turn of a loop that tests or counts.
use mathlib.Core.Path.{◌≡◌, refl, ◌∙◌, sym, ap}
use mathlib.Core.Bool.{Bool, true, false, cond, ◌&&◌, ◌||◌}
use Prim.Native.Nat.{ℕ, zero, suc, ◌+◌, ◌<◌, ◌≤◌}
use native.Mathlib.Numerals.{add-one}
use native.Mathlib.Omega.{arith}
use native.Mathlib.Decide.{ℕ_discrete, dec_lt}
use Rattle.seq.specs.Below.{any_below, all_below, count_below, One}
use Rattle.seq.proofs.Tests.{true_false, and_true, or_false, or_true_right, and_false_right, both_true}

-- a number below n + 1 is below n, or n
pub below_suc : (n i : ℕ) → i < suc n → (i ≡ n → ⊥) → i < n
below_suc n i h m = omega arith

module _ (p : ℕ → Bool) where
  pub any_more : (n : ℕ) → any_below (n + 1) p ≡ any_below n p || p n
  unfolding any_below
  any_more n = rw add-one

  -- one turn of a loop. a: the answer so far; t: the test of n; b: the answer with n
  pub any_test_turn : (n : ℕ) (a t b : Bool) → a ≡ any_below n p → t ≡ p n → b ≡ a || t → b ≡ any_below (n + 1) p
  any_test_turn n a t b e f q = rw (any_more n, ← e, ← f) q

  pub any_none : (n i : ℕ) → any_below n p ≡ false → i < n → p i ≡ false
  unfolding any_below
  any_none zero i e h = absurd (omega arith)
  any_none (suc n) i e h =
      let q = or_false (any_below n p) (p n) e in
      elim (ℕ_discrete i n) [
        | yes s ↦ rw s q.1
        | no s ↦ any_none n i q.0 (below_suc n i h s)
      ]

  pub none_any : (n : ℕ) → ((i : ℕ) → i < n → p i ≡ false) → any_below n p ≡ false
  unfolding any_below
  none_any zero f = refl
  none_any (suc n) f = rw (none_any n (λ i h. f i (omega arith)), f n (omega arith))

  pub hit_any : (n i : ℕ) → i < n → p i ≡ true → any_below n p ≡ true
  unfolding any_below
  hit_any zero i h e = absurd (omega arith)
  hit_any (suc n) i h e = elim (ℕ_discrete i n) [
    | yes s ↦ or_true_right (any_below n p) (p n) (rw s at e)
    | no s ↦ rw (hit_any n i (below_suc n i h s) e)
  ]

  pub any_hit : (n : ℕ) → any_below n p ≡ true → (i : ℕ) × (i < n) × (p i ≡ true)
  unfolding any_below
  any_hit zero e = true_false (sym e)
  any_hit (suc n) e = go (any_below n p) refl (any_hit n)
    where
      go : (b : Bool) → any_below n p ≡ b → (any_below n p ≡ true → (i : ℕ) × (i < n) × (p i ≡ true)) → (i : ℕ) × (i < suc n) × (p i ≡ true)
      go true q r = let x = r q in (x.0, omega (arith, x.1), x.2)
      go false q r = (n, omega arith, rw q at e)

  pub all_more : (n : ℕ) → all_below (n + 1) p ≡ all_below n p && p n
  unfolding all_below
  all_more n = rw add-one

  pub all_turn : (n : ℕ) (a t b : Bool) → a ≡ all_below n p → t ≡ p n → b ≡ a && t → b ≡ all_below (n + 1) p
  all_turn n a t b e f q = rw (all_more n, ← e, ← f) q

  pub all_each : (n i : ℕ) → all_below n p ≡ true → i < n → p i ≡ true
  unfolding all_below
  all_each zero i e h = absurd (omega arith)
  all_each (suc n) i e h =
      let q = and_true (all_below n p) (p n) e in
      elim (ℕ_discrete i n) [
        | yes s ↦ rw s q.1
        | no s ↦ all_each n i q.0 (below_suc n i h s)
      ]

  pub each_all : (n : ℕ) → ((i : ℕ) → i < n → p i ≡ true) → all_below n p ≡ true
  unfolding all_below
  each_all zero f = refl
  each_all (suc n) f = both_true (each_all n (λ i h. f i (omega arith))) (f n (omega arith))

  pub fail_all : (n i : ℕ) → i < n → p i ≡ false → all_below n p ≡ false
  unfolding all_below
  fail_all zero i h e = absurd (omega arith)
  fail_all (suc n) i h e = elim (ℕ_discrete i n) [
    | yes s ↦ and_false_right (all_below n p) (p n) (rw s at e)
    | no s ↦ rw (fail_all n i (below_suc n i h s) e)
  ]

  pub all_fails : (n : ℕ) → all_below n p ≡ false → (i : ℕ) × (i < n) × (p i ≡ false)
  unfolding all_below
  all_fails zero e = true_false e
  all_fails (suc n) e = go (all_below n p) refl (all_fails n)
    where
      go : (b : Bool) → all_below n p ≡ b → (all_below n p ≡ false → (i : ℕ) × (i < n) × (p i ≡ false)) → (i : ℕ) × (i < suc n) × (p i ≡ false)
      go true q r = (n, omega arith, rw q at e)
      go false q r = let x = r q in (x.0, omega (arith, x.1), x.2)

  pub count_more : (n : ℕ) → count_below (n + 1) p ≡ count_below n p + cond (p n) 1 0
  unfolding count_below
  count_more n = rw add-one

  pub count_at_most : (n : ℕ) → count_below n p ≤ n
  unfolding count_below
  count_at_most zero = omega arith
  count_at_most (suc n) = go (p n) (count_at_most n)
    where
      go : (b : Bool) → count_below n p ≤ n → count_below n p + cond b 1 0 ≤ suc n
      go true h = omega arith
      go false h = omega arith

-- a test of each pair of different numbers below n, the larger first
module _ (q : ℕ → ℕ → Bool) where
  pub pairs_each : (n i j : ℕ) → all_below n (λ k. all_below k (q k)) ≡ true → i < n → j < i → q i j ≡ true
  pairs_each n i j e a b = all_each (q i) i j (all_each (λ k. all_below k (q k)) n i e a) b

  pub each_pairs : (n : ℕ) → ((i j : ℕ) → i < n → j < i → q i j ≡ true) → all_below n (λ k. all_below k (q k)) ≡ true
  each_pairs n f = each_all (λ k. all_below k (q k)) n (λ i a. each_all (q i) i (λ j b. f i j a b))

-- what holds of each pair of different numbers by the larger first, holds of each pair
pub by_larger : (P : ℕ → ℕ → Type 0) → ((i j : ℕ) → P i j → P j i) → (n : ℕ) → ((i j : ℕ) → i < n → j < i → P i j) → (i j : ℕ) → i < n → j < n → (i ≡ j → ⊥) → P i j
by_larger P sy n f i j a b m = elim (dec_lt j i) [
  | yes h ↦ f i j a h
  | no h ↦ sy j i (f j i b (let k = m in elim (ℕ_discrete i j) [ yes e ↦ absurd (k e) | no e ↦ omega arith ]))
]

module _ (p q : ℕ → Bool) where
  -- two loops of one length at their end
  pub both_at : (n m : ℕ) (a b : Bool) → n ≡ m → a ≡ all_below n p → b ≡ all_below n q → a && b ≡ all_below m p && all_below m q
  both_at n m a b e f g = rw (f, g, e)

  -- tests that agree on the numbers below n
  pub any_same : (n : ℕ) → ((i : ℕ) → i < n → p i ≡ q i) → any_below n p ≡ any_below n q
  unfolding any_below
  any_same zero f = refl
  any_same (suc n) f = rw (any_same n (λ i h. f i (omega arith)), f n (omega arith))

  pub all_same : (n : ℕ) → ((i : ℕ) → i < n → p i ≡ q i) → all_below n p ≡ all_below n q
  unfolding all_below
  all_same zero f = refl
  all_same (suc n) f = rw (all_same n (λ i h. f i (omega arith)), f n (omega arith))

  pub count_same : (n : ℕ) → ((i : ℕ) → i < n → p i ≡ q i) → count_below n p ≡ count_below n q
  unfolding count_below
  count_same zero f = refl
  count_same (suc n) f = rw (count_same n (λ i h. f i (omega arith)), f n (omega arith))

module _ (p : ℕ → Bool) where
  pub count_none : (n : ℕ) → ((i : ℕ) → i < n → p i ≡ false) → count_below n p ≡ 0
  unfolding count_below
  count_none zero f = refl
  count_none (suc n) f = rw (count_none n (λ i h. f i (omega arith)), f n (omega arith))

  pub none_count : (n : ℕ) → count_below n p ≡ 0 → (i : ℕ) → i < n → p i ≡ false
  unfolding count_below
  none_count zero e i h = absurd (omega arith)
  none_count (suc n) e i h = go (p n) refl (λ z. none_count n z i)
    where
      go : (b : Bool) → p n ≡ b → (count_below n p ≡ 0 → i < n → p i ≡ false) → p i ≡ false
      go true q r = absurd (let z = rw q at e in omega arith)
      go false q r =
          let z = rw q at e in
          elim (ℕ_discrete i n) [
            | yes s ↦ rw s q
            | no s ↦ r (omega arith) (below_suc n i h s)
          ]

  pub count_one : (n : ℕ) → count_below n p ≡ 1 → One p n
  unfolding count_below
  count_one zero e = absurd (omega arith)
  count_one (suc n) e = go (p n) refl (count_one n)
    where
      go : (b : Bool) → p n ≡ b → (count_below n p ≡ 1 → One p n) → One p (suc n)
      go true q r =
          let z : count_below n p ≡ 0 = (let y = rw q at e in omega arith) in
          record {
            at = n;
            below = omega arith;
            passes = q;
            only = λ i h w. elim (ℕ_discrete i n) [
              | yes s ↦ s
              | no s ↦ true_false (sym w ∙ none_count n z i (below_suc n i h s))
            ];
          }
      go false q r =
          let o = r (let y = rw q at e in omega arith) in
          record {
            at = o.at;
            below = omega (arith, o.below);
            passes = o.passes;
            only = λ i h w. elim (ℕ_discrete i n) [
              | yes s ↦ true_false (sym w ∙ ap p s ∙ q)
              | no s ↦ o.only i (below_suc n i h s) w
            ];
          }

  pub one_count : (n : ℕ) → One p n → count_below n p ≡ 1
  unfolding count_below
  one_count zero o = absurd (omega (arith, o.below))
  one_count (suc n) o = go (p n) refl (one_count n)
    where
      go : (b : Bool) → p n ≡ b → (One p n → count_below n p ≡ 1) → count_below n p + cond (p n) 1 0 ≡ 1
      go true q r =
          let a : n ≡ o.at = o.only n (omega arith) q in
          let z : count_below n p ≡ 0 = count_none n (λ i h. go2 i h a (p i) refl) in
          rw (q, z)
        where
          go2 : (i : ℕ) → i < n → n ≡ o.at → (b : Bool) → p i ≡ b → p i ≡ false
          go2 i h a true w = absurd (let y = o.only i (omega arith) w in omega arith)
          go2 i h a false w = w
      go false q r = elim (ℕ_discrete o.at n) [
        | yes s ↦ true_false (sym o.passes ∙ ap p s ∙ q)
        | no s ↦
            let b = below_suc n o.at o.below s in
            rw q (let y = r (record { at = o.at; below = b; passes = o.passes; only = λ i h w. o.only i (omega arith) w }) in omega arith)
      ]

-- exactly one number passes each of two tests that agree
pub one_same : (p q : ℕ → Bool) (n : ℕ) → ((i : ℕ) → i < n → p i ≡ q i) → One p n → One q n
one_same p q n f o = count_one q n (sym (count_same p q n f) ∙ one_count p n o)
