-- Lists of numbers compared: as a whole, part by part, word by word and piece by piece.
use mathlib.Core.Path.{◌≡◌, refl, sym, ap, ◌∙◌}
use mathlib.Core.Bool.{Bool, true, false, ◌&&◌}
use mathlib.Core.List.{List, [], ◌∷◌, ◌++◌}
use Prim.Native.Nat.{ℕ, zero, suc, ◌+◌, ◌*◌, ◌^◌, ◌<◌, ◌≤◌, suc-le-suc}
use native.Mathlib.Nat.{add-zero, zero-mul, suc_inj, mul-le-mul_right}
use native.Mathlib.Omega.{arith}
use borrow.Author.Tests.{eqb-true, eq-eqb}
use lib.Dec.{eqb}
use lib.ListN.{length, get_or, take, drop, replicate, length-replicate}
use lib.Seq.{length-take-le}
use Rattle.seq.specs.Below.{all_below}
use Rattle.seq.proofs.Tests.{true_false, and_true, both_true, same_truth}
use Rattle.seq.proofs.BelowLaws.{all_each, each_all, all_same}
use Rattle.words.specs.Bytes.{bytes_of, value_of, part, joined, word_at, word_bytes, zero_words, has_words, same, AllUnder}
use Rattle.words.proofs.ByteLaws.{under_part, under_zeros, bytes_value, length_words, word_in}
use Rattle.words.proofs.JoinLaws.{length_part, part_add, around_part, length_joined}

pub same_true : (x y : List ℕ) → same x y ≡ true → x ≡ y
unfolding same
same_true [] [] e = refl
same_true [] (b ∷ y) e = true_false (sym e)
same_true (a ∷ x) [] e = true_false (sym e)
same_true (a ∷ x) (b ∷ y) e =
    let s = and_true (eqb a b) (same x y) e in
    rw (eqb-true a b s.0, same_true x y s.1)

pub same_self : (x : List ℕ) → same x x ≡ true
unfolding same
same_self [] = refl
same_self (a ∷ x) = both_true (eq-eqb a a refl) (same_self x)

pub true_same : (x y : List ℕ) → x ≡ y → same x y ≡ true
true_same x y e = rw e (same_self y)

pub and_assoc : (a b c : Bool) → a && (b && c) ≡ (a && b) && c
and_assoc true b c = refl
and_assoc false b c = refl

pub same_append : (a b c d : List ℕ) → length a ≡ length c → same (a ++ b) (c ++ d) ≡ same a c && same b d
unfolding same
same_append [] b [] d e = refl
same_append [] b (y ∷ c) d e = absurd (omega arith)
same_append (x ∷ a) b [] d e = absurd (omega arith)
same_append (x ∷ a) b (y ∷ c) d e = rw (same_append a b c d (suc_inj e)) (and_assoc (eqb x y) (same a c) (same b d))

-- a part and the part behind it
pub same_cut : (a x y : List ℕ) (at m n : ℕ) → at + m ≤ length a → length x ≡ m
    → same (part a at (m + n)) (x ++ y) ≡ same (part a at m) x && same (part a (at + m) n) y
same_cut a x y at m n h e = rw (part_add a at m n) (same_append (part a at m) (part a (at + m) n) x y (length_part a at m h ∙ sym e))

-- the words of a part of some bytes are the words given: the part is those words' bytes
pub part_words : (a ws : List ℕ) (at : ℕ) → AllUnder 256 a → at + length ws * 8 ≤ length a
    → ((j : ℕ) → j < length ws → word_at a (at + j * 8) ≡ get_or ws j 0) → part a at (length ws * 8) ≡ word_bytes ws
unfolding word_bytes word_at
part_words a [] at u h f = refl
part_words a (w ∷ ws) at u h f =
    let n : suc (length ws) * 8 ≡ 8 + length ws * 8 = omega arith in
    let first : value_of (part a at 8) ≡ w = rw add-zero at (f 0 (omega arith)) in
    let eight : length (part a at 8) ≡ 8 = length_part a at 8 (omega arith) in
    let bytes : part a at 8 ≡ bytes_of 8 w = sym (bytes_value (part a at 8) (under_part 256 a at 8 u)) ∙ rw (eight, first) in
    let next : (j : ℕ) → at + 8 + j * 8 ≡ at + suc j * 8 = λ j. omega arith in
    let rest : part a (at + 8) (length ws * 8) ≡ word_bytes ws = part_words a ws (at + 8) u (omega arith) (λ j b. rw (next j) (f (suc j) (suc-le-suc b))) in
    rw (n, part_add a at 8 (length ws * 8), bytes, rest)

pub words_part : (a ws : List ℕ) (at : ℕ) → AllUnder (2 ^ 64) ws → at ≤ length a → part a at (length ws * 8) ≡ word_bytes ws
    → (j : ℕ) → j < length ws → word_at a (at + j * 8) ≡ get_or ws j 0
words_part a ws at u h e j b =
    ap (λ (l : List ℕ). word_at l (at + j * 8)) (sym (around_part a at (length ws * 8)))
    ∙ rw e (word_in (take at a) ws (drop (at + length ws * 8) a) at j (length-take-le at a h) b u)

pub has_words_lem : (a ws : List ℕ) (at : ℕ) → AllUnder 256 a → AllUnder (2 ^ 64) ws → at + length ws * 8 ≤ length a
    → has_words a at ws ≡ same (part a at (length ws * 8)) (word_bytes ws)
unfolding has_words
has_words_lem a ws at u v h =
    let p : ℕ → Bool = λ j. eqb (word_at a (at + j * 8)) (get_or ws j 0) in
    same_truth (all_below (length ws) p) (same (part a at (length ws * 8)) (word_bytes ws))
    (λ t. true_same _ _ (part_words a ws at u h (λ j b. eqb-true _ _ (all_each p (length ws) j t b))))
    (λ t. each_all p (length ws) (λ j b. eq-eqb _ _ (words_part a ws at v (omega arith) (same_true _ _ t) j b)))

-- the same for words that are zero
pub has_zeros : (a : List ℕ) (at n : ℕ) → AllUnder 256 a → at + n * 8 ≤ length a → has_words a at (replicate n 0) ≡ same (part a at (n * 8)) (zero_words n)
has_zeros a at n u h =
    let e = has_words_lem a (replicate n 0) at u (under_zeros (2 ^ 64) (omega arith) n) (rw length-replicate (omega arith)) in
    rw length-replicate at e

module _ (a : List ℕ) (k : ℕ) (f : ℕ → List ℕ) (wide : (i : ℕ) → length (f i) ≡ k) where
  pub same_joined : (base n : ℕ) → base + n * k ≤ length a
      → same (part a base (n * k)) (joined n f) ≡ all_below n (λ i. same (part a (base + i * k) k) (f i))
  unfolding joined all_below same
  same_joined base zero h = rw (zero-mul k)
  same_joined base (suc n) h =
      let m : suc n * k ≡ n * k + k = omega arith in
      rw (m, same_cut a (joined n f) (f n) base (n * k) k (omega arith) (length_joined k f wide n), same_joined base n (omega arith))

-- joined pieces of words, compared with the words that stand at their places
module _ (a : List ℕ) (bytes : AllUnder 256 a) (k : ℕ) (g : ℕ → List ℕ) (wide : (i : ℕ) → length (g i) * 8 ≡ k) where
  pub has_pieces : (base n : ℕ) → ((i : ℕ) → i < n → AllUnder (2 ^ 64) (g i)) → base + n * k ≤ length a
      → same (part a base (n * k)) (joined n (λ i. word_bytes (g i))) ≡ all_below n (λ i. has_words a (base + i * k) (g i))
  has_pieces base n small h =
      same_joined a k (λ i. word_bytes (g i)) (λ i. length_words (g i) ∙ wide i) base n h
      ∙ all_same (λ i. same (part a (base + i * k) k) (word_bytes (g i))) (λ i. has_words a (base + i * k) (g i)) n
      (λ i b.
      let e = has_words_lem a (g i) (base + i * k) bytes (small i b) (omega (arith, wide i, mul-le-mul_right k b)) in
      sym (rw (wide i) at e))
