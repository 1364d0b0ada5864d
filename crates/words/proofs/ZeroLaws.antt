-- Words that are zero, by the largest of their bytes.
use mathlib.Core.Path.{◌≡◌, refl, ◌∙◌, sym}
use mathlib.Core.Bool.{Bool, true, false, ◌&&◌}
use mathlib.Core.List.{List, [], ◌∷◌}
use Prim.Native.Nat.{ℕ, ◌+◌, ◌*◌, ◌≤◌, max}
use native.Mathlib.Omega.{arith}
use borrow.Author.Tests.{eq-eqb, eqb-true}
use lib.Dec.{eqb}
use lib.ListN.{length, replicate}
use Rattle.std.specs.List.{fold}
use Rattle.seq.proofs.Tests.{same_truth, and_true, both_true}
use Rattle.words.specs.Bytes.{part, same, has_words, AllUnder}
use Rattle.words.proofs.ByteLaws.{zeros_filled}
use Rattle.words.proofs.JoinLaws.{length_part}
use Rattle.words.proofs.SameLaws.{has_zeros, and_assoc}

and_true_right : (b : Bool) → b && true ≡ b
and_true_right true = refl
and_true_right false = refl

larger_zero : (m x : ℕ) → eqb (max m x) 0 ≡ eqb m 0 && eqb x 0
larger_zero m x = same_truth (eqb (max m x) 0) (eqb m 0 && eqb x 0)
    (λ t. let e = eqb-true (max m x) 0 t in both_true (eq-eqb m 0 (omega arith)) (eq-eqb x 0 (omega arith)))
    (λ t.
    let e = and_true (eqb m 0) (eqb x 0) t in
    let em = eqb-true m 0 e.0 in
    let ex = eqb-true x 0 e.1 in
    eq-eqb (max m x) 0 (omega arith))

-- the largest of some numbers is zero where all are
largest_zero : (m : ℕ) (xs : List ℕ) → eqb (fold max m xs) 0 ≡ eqb m 0 && same xs (replicate (length xs) 0)
unfolding same
largest_zero m [] = sym (and_true_right (eqb m 0))
largest_zero m (x ∷ xs) = largest_zero (max m x) xs ∙ rw (larger_zero m x) (sym (and_assoc (eqb m 0) (eqb x 0) (same xs (replicate (length xs) 0))))

pub zero_words_read : (a : List ℕ) (at n k r : ℕ) → AllUnder 256 a → at + n * 8 ≤ length a → k ≡ n * 8 → r ≡ fold max 0 (part a at k) → eqb r 0 ≡ has_words a at (replicate n 0)
zero_words_read a at n k r u h e f =
    rw (f, e) (largest_zero 0 (part a at (n * 8)) ∙ rw (length_part a at (n * 8) h, zeros_filled n) (sym (has_zeros a at n u h)))
