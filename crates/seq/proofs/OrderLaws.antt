-- Laws of an order by one number and then by another, part by part.
use mathlib.Core.Path.{◌≡◌, refl, ◌∙◌, sym}
use mathlib.Core.Bool.{Bool, true, false}
use Prim.Native.Nat.{ℕ, ◌<◌, ◌≤◌}
use native.Mathlib.Omega.{arith}
use native.Mathlib.Decide.{ℕ_discrete}
use borrow.Author.Tests.{ltb-true, ltb-false, lt-ltb, le-ltb, eq-eqb, ne_eqb}
use lib.Dec.{ltb}
use Rattle.seq.specs.Order.{lex_less}
use Rattle.seq.proofs.Tests.{true_false}

-- what a true test says
pub lex_true : (a b : ℕ) (x : Bool) → lex_less a b x ≡ true → a ≤ b
lex_true a b x e = elim (ℕ_discrete a b) [
  | yes s ↦ omega arith
  | no s ↦ let h = ltb-true a b (rw (ne_eqb a b s) at e) in omega arith
]

pub lex_next : (a b : ℕ) (x : Bool) → a ≡ b → lex_less a b x ≡ x
lex_next a b x s = rw (eq-eqb a b s)

pub less_lex : (a b : ℕ) (x : Bool) → a < b → lex_less a b x ≡ true
less_lex a b x h = rw (ne_eqb a b (λ s. omega arith)) (lt-ltb a b h)

-- strict, transitive and total, where the later parts are
pub lex_strict : (a : ℕ) (x : Bool) → x ≡ false → lex_less a a x ≡ false
lex_strict a x e = lex_next a a x refl ∙ e

pub lex_trans : (a b c : ℕ) (x y z : Bool) → (x ≡ true → y ≡ true → z ≡ true) → lex_less a b x ≡ true → lex_less b c y ≡ true → lex_less a c z ≡ true
lex_trans a b c x y z f p q = elim (ℕ_discrete a b) [
  | yes s ↦ elim (ℕ_discrete b c) [
    | yes t ↦ lex_next a c z (s ∙ t) ∙ f (sym (lex_next a b x s) ∙ p) (sym (lex_next b c y t) ∙ q)
    | no t ↦ let h = lex_true b c y q in less_lex a c z (omega arith)
  ]
  | no s ↦ let h = lex_true a b x p in let k = lex_true b c y q in less_lex a c z (omega arith)
]

-- what does not come after another comes before all that the other does, where it is so of the later parts
pub lex_weak : (a b c : ℕ) (x y z : Bool) → (x ≡ false → y ≡ true → z ≡ true) → lex_less a b x ≡ false → lex_less a c y ≡ true → lex_less b c z ≡ true
lex_weak a b c x y z f p q = elim (ℕ_discrete a b) [
  | yes s ↦ elim (ℕ_discrete a c) [
    | yes t ↦ lex_next b c z (sym s ∙ t) ∙ f (sym (lex_next a b x s) ∙ p) (sym (lex_next a c y t) ∙ q)
    | no t ↦ let h = lex_true a c y q in less_lex b c z (omega arith)
  ]
  | no s ↦ elim (native.Mathlib.Decide.dec_lt a b) [
    | yes h ↦ true_false (sym (less_lex a b x h) ∙ p)
    | no h ↦ let k = lex_true a c y q in less_lex b c z (omega arith)
  ]
]

-- neither comes before the other: equal, and the later parts alike
pub lex_total : (a b : ℕ) (x y : Bool) → lex_less a b x ≡ false → lex_less b a y ≡ false → (a ≡ b) × (x ≡ false) × (y ≡ false)
lex_total a b x y p q = elim (ℕ_discrete a b) [
  | yes s ↦ (s, sym (lex_next a b x s) ∙ p, sym (lex_next b a y (sym s)) ∙ q)
  | no s ↦ elim (native.Mathlib.Decide.dec_lt a b) [
    | yes h ↦ true_false (sym (less_lex a b x h) ∙ p)
    | no h ↦ true_false (sym (less_lex b a y (omega arith)) ∙ q)
  ]
]

pub ltb_strict : (a : ℕ) → ltb a a ≡ false
ltb_strict a = le-ltb a a (omega arith)

pub ltb_trans : (a b c : ℕ) → ltb a b ≡ true → ltb b c ≡ true → ltb a c ≡ true
ltb_trans a b c p q = let h = ltb-true a b p in let k = ltb-true b c q in lt-ltb a c (omega arith)

pub ltb_weak : (a b c : ℕ) → ltb a b ≡ false → ltb a c ≡ true → ltb b c ≡ true
ltb_weak a b c p q = let h = ltb-false a b p in let k = ltb-true a c q in lt-ltb b c (omega arith)

pub ltb_total : (a b : ℕ) → ltb a b ≡ false → ltb b a ≡ false → a ≡ b
ltb_total a b p q = let h = ltb-false a b p in let k = ltb-false b a q in omega arith
