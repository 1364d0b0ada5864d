-- The order of steps c to f is strict and total on held slots: priority of the best holder, then touch, then page.
use mathlib.Core.Path.{◌≡◌, refl, sym, ◌∙◌, ap}
use mathlib.Core.Bool.{Bool, true, false}
use Prim.Native.Nat.{ℕ, ◌<◌}
use native.Mathlib.Omega.{arith}
use native.Mathlib.Decide.{ℕ_discrete}
use borrow.Author.Tests.{eq-eqb, ne_eqb}
use lib.Dec.{ltb}
use Rattle.seq.specs.Below.{any_below}
use Rattle.seq.specs.Order.{lex_less}
use Rattle.seq.specs.declared.Found.TheVariants.{At}
use Rattle.seq.proofs.Tests.{true_false, not_false_true}
use Rattle.seq.proofs.BelowLaws.{any_hit}
use Rattle.seq.proofs.OrderLaws.{lex_strict, lex_trans, lex_total, ltb_strict, ltb_trans, ltb_total}
use Rattle.seq.proofs.PairLaws.{Ordered}
use Rattle.model.specs.declared.State.{State}
use Rattle.model.specs.Words.{holds, outranks, best_holder}
use Rattle.model.proofs.PriorityLaws.{outranks_strict, outranks_trans}
use Rattle.rules.specs.Choice.{worse, touch_of, tie_of, before_held}
use Rattle.rules.specs.SoundFacts.{Sound}
use Rattle.rules.proofs.Facts.SoundFacts.{held_taken, ranks_apart}
use Rattle.rules.proofs.Choosing.ChoiceRank.{best_held, best_some}

module _ (s : State) where
  worse_next : (a b : ℕ) (x : Bool) → a ≡ b → worse s (At a) (At b) x ≡ x
  worse_next a b x e = rw (eq-eqb a b e)

  worse_rank : (a b : ℕ) (x : Bool) → (a ≡ b → ⊥) → worse s (At a) (At b) x ≡ outranks s b a
  worse_rank a b x e = rw (ne_eqb a b e)

  worse_trans : (a b c : ℕ) (x y z : Bool) → (x ≡ true → y ≡ true → z ≡ true) → worse s (At a) (At b) x ≡ true → worse s (At b) (At c) y ≡ true → worse s (At a) (At c) z ≡ true
  worse_trans a b c x y z f p q = elim (ℕ_discrete a b) [
    | yes m ↦ elim (ℕ_discrete b c) [
      | yes n ↦ worse_next a c z (m ∙ n) ∙ f (sym (worse_next a b x m) ∙ p) (sym (worse_next b c y n) ∙ q)
      | no n ↦ worse_rank a c z (λ e. n (sym m ∙ e)) ∙ ap (λ (k : ℕ). outranks s c k) m ∙ sym (worse_rank b c y n) ∙ q
    ]
    | no m ↦ elim (ℕ_discrete b c) [
      | yes n ↦ worse_rank a c z (λ e. m (e ∙ sym n)) ∙ ap (λ (k : ℕ). outranks s k a) (sym n) ∙ sym (worse_rank a b x m) ∙ p
      | no n ↦
          let u : outranks s b a ≡ true = sym (worse_rank a b x m) ∙ p in
          let v : outranks s c b ≡ true = sym (worse_rank b c y n) ∙ q in
          let w = outranks_trans s c b a v u in
          worse_rank a c z (λ e. true_false (sym w ∙ ap (λ (k : ℕ). outranks s c k) e ∙ outranks_strict s c)) ∙ w
    ]
  ]

  worse_total : (a b : ℕ) (x y : Bool) → (outranks s a b ≡ false → outranks s b a ≡ false → a ≡ b) → worse s (At a) (At b) x ≡ false → worse s (At b) (At a) y ≡ false → (x ≡ false) × (y ≡ false)
  worse_total a b x y apart p q = elim (ℕ_discrete a b) [
    | yes m ↦ (sym (worse_next a b x m) ∙ p, sym (worse_next b a y (sym m)) ∙ q)
    | no m ↦ absurd (m (apart (sym (worse_rank b a y (λ e. m (sym e))) ∙ q) (sym (worse_rank a b x m) ∙ p)))
  ]

  -- touch, then page
  abbrev pub next_before : ℕ → ℕ → Bool
  next_before i k = lex_less (touch_of s i) (touch_of s k) (ltb (tie_of s i) (tie_of s k))

  next_trans : (i k l : ℕ) → next_before i k ≡ true → next_before k l ≡ true → next_before i l ≡ true
  next_trans i k l = lex_trans (touch_of s i) (touch_of s k) (touch_of s l) (ltb (tie_of s i) (tie_of s k)) (ltb (tie_of s k) (tie_of s l)) (ltb (tie_of s i) (tie_of s l)) (ltb_trans (tie_of s i) (tie_of s k) (tie_of s l))

  next_total : (i k : ℕ) → next_before i k ≡ false → next_before k i ≡ false → tie_of s i ≡ tie_of s k
  next_total i k p q =
      let x = lex_total (touch_of s i) (touch_of s k) (ltb (tie_of s i) (tie_of s k)) (ltb (tie_of s k) (tie_of s i)) p q in
      ltb_total (tie_of s i) (tie_of s k) x.1 x.2

  -- the order of two slots by their best holders
  pub before_held_lem : (i k a b : ℕ) → best_holder s i ≡ At a → best_holder s k ≡ At b → before_held s i k ≡ worse s (At a) (At b) (next_before i k)
  unfolding before_held
  before_held_lem i k a b e f = rw (e, f)

  best_of_lem : (i : ℕ) → any_below 32 (holds s i) ≡ true → (b : ℕ) × (best_holder s i ≡ At b)
  best_of_lem i h = let x = any_hit (holds s i) 32 h in best_some s i x.0 x.1 x.2

  held_strict : (i : ℕ) → any_below 32 (holds s i) ≡ true → before_held s i i ≡ false
  held_strict i h =
      let a = best_of_lem i h in
      before_held_lem i i a.0 a.0 a.1 a.1 ∙ worse_next a.0 a.0 (next_before i i) refl
      ∙ lex_strict (touch_of s i) (ltb (tie_of s i) (tie_of s i)) (ltb_strict (tie_of s i))

  held_trans : (i k l : ℕ) → any_below 32 (holds s i) ≡ true → any_below 32 (holds s k) ≡ true → any_below 32 (holds s l) ≡ true
      → before_held s i k ≡ true → before_held s k l ≡ true → before_held s i l ≡ true
  held_trans i k l h g f p q =
      let a = best_of_lem i h in
      let b = best_of_lem k g in
      let c = best_of_lem l f in
      before_held_lem i l a.0 c.0 a.1 c.1
      ∙ worse_trans a.0 b.0 c.0 (next_before i k) (next_before k l) (next_before i l) (next_trans i k l)
      (sym (before_held_lem i k a.0 b.0 a.1 b.1) ∙ p) (sym (before_held_lem k l b.0 c.0 b.1 c.1) ∙ q)

  held_total : Sound s → (i k : ℕ) → i < 64 → k < 64 → any_below 32 (holds s i) ≡ true → any_below 32 (holds s k) ≡ true → before_held s i k ≡ false → before_held s k i ≡ false → tie_of s i ≡ tie_of s k
  held_total z i k n m h g p q =
      let a = best_of_lem i h in
      let b = best_of_lem k g in
      let x = worse_total a.0 b.0 (next_before i k) (next_before k i)
      (let u = best_held s i a.0 a.1 in let v = best_held s k b.0 b.1 in ranks_apart s z a.0 b.0 u.0 v.0 (held_taken s z i a.0 n u.0 u.1))
      (sym (before_held_lem i k a.0 b.0 a.1 b.1) ∙ p) (sym (before_held_lem k i b.0 a.0 b.1 a.1) ∙ q) in
      next_total i k x.0 x.1

-- for a test that only held slots pass
pub held_order : (s : State) (z : Sound s) (p : ℕ → Bool) → ((i : ℕ) → p i ≡ true → any_below 32 (holds s i) ≡ true) → Ordered s.size p (before_held s)
held_order s z p f = record {
  strict = λ i e. held_strict s i (f i e);
  trans = λ i k l e g h. held_trans s i k l (f i e) (f k g) (f l h);
  total = λ i k b c e g ne q. not_false_true (before_held s i k) (λ w.
      let x = any_hit (holds s i) 32 (f i e) in
      let y = any_hit (holds s k) 32 (f k g) in
      let n : i < 64 = omega (arith, z.size_most) in
      let m : k < 64 = omega (arith, z.size_most) in
      let tie = held_total s z i k n m (f i e) (f k g) w q in
      ne (sym (z.one_slot i k n m (z.held i x.0 n x.1 x.2).filled (z.held k y.0 m y.1 y.2).filled (cc tie))));
}
