-- The digits of a number name it, and the first is a zero for 0 alone.
use mathlib.Core.Path.{◌≡◌, refl, ◌∙◌, sym}
use mathlib.Core.Bool.{Bool, true, false, cond}
use mathlib.Core.List.{List, [], ◌∷◌, ◌++◌}
use Prim.Native.Nat.{ℕ, zero, suc, ◌+◌, ◌*◌, ◌-◌, ◌/◌, ◌%◌, ◌^◌, ◌<◌, ◌≤◌}
use native.Mathlib.Nat.{pow-suc}
use native.Mathlib.Omega.{arith}
use borrow.Author.Tests.{ltb-false}
use lib.Dec.{ltb}
use lib.ListN.{length, get_or, length-append, get_or-append}
use Rattle.record.specs.Text.{digits, named}

named_last : (x : ℕ) (ds : List ℕ) (d : ℕ) → named x (ds ++ (d ∷ [])) ≡ named x ds * 10 + (d - 48)
unfolding named
named_last x [] d = refl
named_last x (e ∷ ds) d = named_last (x * 10 + (e - 48)) ds d

pub digits_name : (k n : ℕ) → n < 10 ^ k → named 0 (digits k n) ≡ n
unfolding digits named
digits_name zero n h = omega arith
digits_name (suc k) n h = go (ltb n 10) refl (digits_name k (n / 10))
  where
    go : (b : Bool) → ltb n 10 ≡ b → (n / 10 < 10 ^ k → named 0 (digits k (n / 10)) ≡ n / 10)
        → named 0 (cond b ((48 + n) ∷ []) (digits k (n / 10) ++ ((48 + n % 10) ∷ []))) ≡ n
    go true e f = omega arith
    go false e f =
        let s : n < 10 ^ k * 10 = rw pow-suc at h in
        named_last 0 (digits k (n / 10)) (48 + n % 10) ∙ rw (f (omega arith)) (omega arith)

some_digit : (k n : ℕ) → 0 < k → 0 < length (digits k n)
unfolding digits
some_digit zero n h = absurd (omega arith)
some_digit (suc k) n h = go (ltb n 10)
  where
    go : (b : Bool) → 0 < length (cond b ((48 + n) ∷ []) (digits k (n / 10) ++ ((48 + n % 10) ∷ [])))
    go true = omega arith
    go false = rw length-append (omega arith)

positive : (k n : ℕ) → 0 < n → n < 10 ^ k → 0 < k
positive zero n p h = absurd (omega arith)
positive (suc k) n p h = omega arith

pub first_digit : (k n : ℕ) → n < 10 ^ k → get_or (digits k n) 0 0 ≡ 48 → n ≡ 0
unfolding digits
first_digit zero n h e = absurd (omega arith)
first_digit (suc k) n h e = go (ltb n 10) refl (first_digit k (n / 10)) e
  where
    go : (b : Bool) → ltb n 10 ≡ b → (n / 10 < 10 ^ k → get_or (digits k (n / 10)) 0 0 ≡ 48 → n / 10 ≡ 0)
        → get_or (cond b ((48 + n) ∷ []) (digits k (n / 10) ++ ((48 + n % 10) ∷ []))) 0 0 ≡ 48 → n ≡ 0
    go true e f q = omega arith
    go false e f q =
        let l : 10 ≤ n = ltb-false n 10 e in
        let s : n < 10 ^ k * 10 = rw pow-suc at h in
        let r : n / 10 < 10 ^ k = omega arith in
        let d : 0 < length (digits k (n / 10)) = some_digit k (n / 10) (positive k (n / 10) (omega arith) r) in
        absurd (omega (arith, f r (sym (get_or-append (digits k (n / 10)) ((48 + n % 10) ∷ []) 0 0 d) ∙ q)))
