-- What a search over the numbers below n finds.
use mathlib.Core.Path.{◌≡◌, refl, ◌∙◌, sym, ap}
use mathlib.Core.Bool.{Bool, true, false}
use Prim.Native.Nat.{ℕ, zero, suc, ◌+◌, ◌<◌}
use native.Mathlib.Numerals.{add-one}
use native.Mathlib.Omega.{arith}
use native.Mathlib.Decide.{ℕ_discrete}
use Rattle.seq.specs.Below.{pick_below, considered, at_found}
use Rattle.seq.specs.declared.Found.{Found}
use Rattle.seq.specs.declared.Found.TheVariants.{At, Nowhere}
use Rattle.seq.proofs.Tests.{true_false, not_true_false}
use Rattle.seq.proofs.BelowLaws.{below_suc}

-- what is found is nothing, or a place
pub at_nowhere : {A : Type 0} {i : ℕ} → At i ≡ Nowhere → A
at_nowhere e = absurd (let z : ◌≡◌ {A = ℕ} 0 1 = cc in omega arith)

pub at_same : {i j : ℕ} → At i ≡ At j → i ≡ j
at_same e = cc

module _ (p : ℕ → Bool) (before : ℕ → ℕ → Bool) where
  pub pick_more : (n : ℕ) → pick_below (n + 1) p before ≡ considered (p n) (pick_below n p before) n before
  unfolding pick_below
  pick_more n = rw add-one

  -- one turn of a loop
  pub pick_turn : (n : ℕ) (f g : Found) → f ≡ pick_below n p before → g ≡ considered (p n) f n before → g ≡ pick_below (n + 1) p before
  pick_turn n f g e q = rw pick_more (q ∙ ap (λ (x : Found). considered (p n) x n before) e)

  -- what is found is below n and passes
  pub pick_is : (n i : ℕ) → pick_below n p before ≡ At i → (i < n) × (p i ≡ true)
  unfolding pick_below
  pick_is zero i e = at_nowhere (sym e)
  pick_is (suc n) i e = go (p n) (pick_below n p before) refl refl (pick_is n)
    where
      new : p n ≡ true → At n ≡ At i → (i < suc n) × (p i ≡ true)
      new q z = let s = at_same z in (omega arith, rw s at q)

      old : (j : ℕ) → pick_below n p before ≡ At j → At j ≡ At i → ((k : ℕ) → pick_below n p before ≡ At k → (k < n) × (p k ≡ true)) → (i < suc n) × (p i ≡ true)
      old j r z f = let x = f i (r ∙ z) in (omega (arith, x.0), x.1)

      go : (b : Bool) (f : Found) → p n ≡ b → pick_below n p before ≡ f → ((k : ℕ) → pick_below n p before ≡ At k → (k < n) × (p k ≡ true)) → (i < suc n) × (p i ≡ true)
      go false f q r h = let x = h i (rw q at e) in (omega (arith, x.0), x.1)
      go true Nowhere q r h = new q (rw (q, r) at e)
      go true (At j) q r h = last (before n j) refl
        where
          last : (b : Bool) → before n j ≡ b → (i < suc n) × (p i ≡ true)
          last true w = new q (rw (q, r, w) at e)
          last false w = old j r (rw (q, r, w) at e) h

  -- where nothing is found, nothing passes
  pub pick_none : (n i : ℕ) → pick_below n p before ≡ Nowhere → i < n → p i ≡ false
  unfolding pick_below
  pick_none zero i e h = absurd (omega arith)
  pick_none (suc n) i e h = go (p n) (pick_below n p before) refl refl (pick_none n i)
    where
      go : (b : Bool) (f : Found) → p n ≡ b → pick_below n p before ≡ f → (pick_below n p before ≡ Nowhere → i < n → p i ≡ false) → p i ≡ false
      go false f q r hyp = elim (ℕ_discrete i n) [
        | yes s ↦ rw s q
        | no s ↦ hyp (rw q at e) (below_suc n i h s)
      ]
      go true Nowhere q r hyp = at_nowhere (rw (q, r) at e)
      go true (At j) q r hyp = last (before n j) refl
        where
          last : (b : Bool) → before n j ≡ b → p i ≡ false
          last true w = at_nowhere (rw (q, r, w) at e)
          last false w = at_nowhere (rw (q, r, w) at e)

  -- where something passes, something is found
  pub pick_some : (n i : ℕ) → i < n → p i ≡ true → (j : ℕ) × (pick_below n p before ≡ At j)
  pick_some n i h e = go (pick_below n p before) refl
    where
      go : (f : Found) → pick_below n p before ≡ f → (j : ℕ) × (pick_below n p before ≡ At j)
      go Nowhere r = true_false (sym e ∙ pick_none n i r h)
      go (At j) r = (j, r)

  pub none_pick : (n : ℕ) → ((i : ℕ) → i < n → p i ≡ false) → pick_below n p before ≡ Nowhere
  unfolding pick_below
  none_pick zero f = refl
  none_pick (suc n) f = rw (f n (omega arith)) (none_pick n (λ i h. f i (omega arith)))

  -- under an order that is strict and transitive on what passes, nothing that passes comes before what is found
  module _ (strict : (i : ℕ) → p i ≡ true → before i i ≡ false)
      (trans : (i j k : ℕ) → p i ≡ true → p j ≡ true → p k ≡ true → before i j ≡ true → before j k ≡ true → before i k ≡ true) where
    pub pick_first : (n i j : ℕ) → pick_below n p before ≡ At i → j < n → p j ≡ true → before j i ≡ false
    unfolding pick_below
    pick_first zero i j e h q = absurd (omega arith)
    pick_first (suc n) i j e h q = go (p n) (pick_below n p before) refl refl (λ k. pick_first n k j)
      where
        go : (b : Bool) (f : Found) → p n ≡ b → pick_below n p before ≡ f → ((k : ℕ) → pick_below n p before ≡ At k → j < n → p j ≡ true → before j k ≡ false) → before j i ≡ false
        go false f w r hyp = elim (ℕ_discrete j n) [
          | yes s ↦ true_false (sym q ∙ ap p s ∙ w)
          | no s ↦ hyp i (rw w at e) (below_suc n j h s) q
        ]
        go true Nowhere w r hyp =
            let s : n ≡ i = at_same (rw (w, r) at e) in
            elim (ℕ_discrete j n) [
              | yes t ↦ rw (t, ← s) (strict n w)
              | no t ↦ true_false (sym q ∙ pick_none n j r (below_suc n j h t))
            ]
        go true (At k) w r hyp = last (before n k) refl
          where
            last : (b : Bool) → before n k ≡ b → before j i ≡ false
            last true v =
                let s : n ≡ i = at_same (rw (w, r, v) at e) in
                elim (ℕ_discrete j n) [
                  | yes t ↦ rw (t, ← s) (strict n w)
                  | no t ↦ rw (← s) (not_true_false (before j n) (λ u.
                      true_false (sym (trans j n k q w (pick_is n k r).1 u v) ∙ hyp k r (below_suc n j h t) q)))
                ]
            last false v =
                let s : k ≡ i = at_same (rw (w, r, v) at e) in
                elim (ℕ_discrete j n) [
                  | yes t ↦ rw (t, ← s) v
                  | no t ↦ rw (← s) (hyp k r (below_suc n j h t) q)
                ]

    -- the one that comes before every other is found
    pub first_pick : (n i : ℕ) → i < n → p i ≡ true → ((j : ℕ) → j < n → p j ≡ true → (j ≡ i → ⊥) → before i j ≡ true) → pick_below n p before ≡ At i
    first_pick n i h e f =
        let x = pick_some n i h e in
        elim (ℕ_discrete x.0 i) [
          | yes s ↦ x.1 ∙ ap At s
          | no s ↦
              let y = pick_is n x.0 x.1 in
              true_false (sym (f x.0 y.0 y.1 s) ∙ pick_first n x.0 i x.1 h e)
        ]

-- searches that agree on the numbers below n
pub pick_same : (p q : ℕ → Bool) (before after : ℕ → ℕ → Bool) (n : ℕ) → ((i : ℕ) → i < n → p i ≡ q i)
    → ((i j : ℕ) → i < n → j < n → p i ≡ true → p j ≡ true → before i j ≡ after i j) → pick_below n p before ≡ pick_below n q after
unfolding pick_below
pick_same p q before after zero f g = refl
pick_same p q before after (suc n) f g = go (p n) (pick_below n p before) refl refl (pick_same p q before after n (λ i h. f i (omega arith)) (λ i j h k. g i j (omega arith) (omega arith)))
  where
    go : (b : Bool) (x : Found) → p n ≡ b → pick_below n p before ≡ x → pick_below n p before ≡ pick_below n q after → considered (p n) (pick_below n p before) n before ≡ considered (q n) (pick_below n q after) n after
    go false x w r e = rw (← f n (omega arith), w) e
    go true Nowhere w r e = rw (← f n (omega arith), w, ← e, r)
    go true (At j) w r e =
        let y = pick_is p before n j r in
        rw (← f n (omega arith), w, ← e, r, g n j (omega arith) (omega (arith, y.0)) w y.1)

-- the values of f and g at what two searches found
pub picked_same : {A : Type 0} (p q : ℕ → Bool) (before after : ℕ → ℕ → Bool) (f g : ℕ → A) (d : A) (n : ℕ) → ((i : ℕ) → i < n → p i ≡ q i)
    → ((i j : ℕ) → i < n → j < n → p i ≡ true → p j ≡ true → before i j ≡ after i j) → ((i : ℕ) → i < n → p i ≡ true → f i ≡ g i)
    → at_found (pick_below n p before) f d ≡ at_found (pick_below n q after) g d
picked_same p q before after f g d n h k l =
    go (pick_below n p before) refl ∙ ap (λ (x : Found). at_found x g d) (pick_same p q before after n h k)
  where
    go : (x : Found) → pick_below n p before ≡ x → at_found (pick_below n p before) f d ≡ at_found (pick_below n p before) g d
    go Nowhere e = rw e
    go (At i) e = let y = pick_is p before n i e in rw e (l i y.0 y.1)
