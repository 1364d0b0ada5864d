-- A test's value from the fact that a branch gives: one set for `simp`. What a Bool operation's value says of its parts. Equal tests and equal Bools.
use mathlib.Core.Path.{◌≡◌, refl, sym, ◌∙◌}
use mathlib.Core.Bool.{Bool, true, false, ◌&&◌, ◌||◌, cond, not, beq}
use Prim.Native.Nat.{ℕ}
use native.Mathlib.Omega.{arith}
use native.Mathlib.Decide.{ℕ_discrete}
use borrow.Author.Tests.{lt-ltb, le-ltb, le-leb, lt-leb, eq-eqb, ne_eqb}
use lib.Dec.{eqb}

pub ruleset tests = (lt-ltb, le-ltb, le-leb, lt-leb, eq-eqb, ne_eqb)

pub true_false : {A : Type 0} → true ≡ false → A
true_false e = absurd (let z : ◌≡◌ {A = ℕ} 0 1 = cc in omega arith)

pub false_not : (a : Bool) → a ≡ false → not a ≡ true
false_not a e = rw e

pub and_true : (a b : Bool) → a && b ≡ true → (a ≡ true) × (b ≡ true)
and_true true b e = (refl, e)
and_true false b e = true_false (cc)

pub and_left : (a b : Bool) → a && b ≡ true → a ≡ true
and_left a b e = (and_true a b e).0

pub and_right : (a b : Bool) → a && b ≡ true → b ≡ true
and_right a b e = (and_true a b e).1

-- each part of a conjunction that is true: `search parts`
pub ruleset parts = (and_left, and_right)

pub both_true : {a b : Bool} → a ≡ true → b ≡ true → a && b ≡ true
both_true p q = rw (p, q)

pub and_false_right : (a b : Bool) → b ≡ false → a && b ≡ false
and_false_right true b e = e
and_false_right false b e = refl

pub or_false : (a b : Bool) → a || b ≡ false → (a ≡ false) × (b ≡ false)
or_false true b e = true_false (cc)
or_false false b e = (refl, e)

pub or_none : (a : Bool) → a || false ≡ a
or_none true = refl
or_none false = refl

pub or_true_right : (a b : Bool) → b ≡ true → a || b ≡ true
or_true_right true b e = refl
or_true_right false b e = e

-- a Bool that is not true is false, and one that is not false is true
pub not_true_false : (a : Bool) → (a ≡ true → ⊥) → a ≡ false
not_true_false true f = absurd (f refl)
not_true_false false f = refl

pub not_false_true : (a : Bool) → (a ≡ false → ⊥) → a ≡ true
not_false_true true f = refl
not_false_true false f = absurd (f refl)

-- two Bools that are true in the same cases are equal
pub same_truth : (a b : Bool) → (a ≡ true → b ≡ true) → (b ≡ true → a ≡ true) → a ≡ b
same_truth true true f g = refl
same_truth true false f g = sym (f refl)
same_truth false true f g = g refl
same_truth false false f g = refl

pub beq_true : (a b : Bool) → beq a b ≡ true → a ≡ b
beq_true true true e = refl
beq_true true false e = sym e
beq_true false true e = e
beq_true false false e = refl

pub either_both : {a b x y : Bool} → a ≡ x → b ≡ y → a || b ≡ x || y
either_both e f = rw (e, f)

-- the second test counts only where the first passes
pub and_when : (a x y : Bool) → (a ≡ true → x ≡ y) → a && x ≡ a && y
and_when true x y f = f refl
and_when false x y f = refl

-- a choice between equals
pub cond_same : {A : Type 0} (b : Bool) (x : A) → cond b x x ≡ x
cond_same true x = refl
cond_same false x = refl

pub eqb_sym : (a b : ℕ) → eqb a b ≡ eqb b a
eqb_sym a b = elim (ℕ_discrete a b) [
  | yes e ↦ eq-eqb a b e ∙ sym (eq-eqb b a (sym e))
  | no e ↦ ne_eqb a b e ∙ sym (ne_eqb b a (λ q. e (sym q)))
]
