-- Parts of a list, and lists joined of pieces of one width: their lengths, where they split, and what is read inside a piece.
use mathlib.Core.Path.{◌≡◌, refl, ◌∙◌}
use mathlib.Core.List.{List, [], ◌++◌, append_assoc, append-nil}
use Prim.Native.Nat.{ℕ, zero, suc, ◌+◌, ◌*◌, ◌^◌, ◌<◌, ◌≤◌}
use native.Mathlib.Nat.{add-zero, add-suc}
use native.Mathlib.Omega.{arith}
use native.Mathlib.Decide.{ℕ_discrete}
use lib.ListN.{length, get_or, take, drop, length-append, length-drop, take-append-drop}
use lib.Seq.{take-add, drop-drop, length-take-le, take-append-le, drop-append-le, take_at, drop_at}
use Rattle.words.specs.Bytes.{part, joined, word_at, word_bytes, AllUnder}
use Rattle.words.proofs.ByteLaws.{under_append, length_words, word_in}

-- ---- parts

module _ {A : Type 0} where
  pub length_part : (a : List A) (at n : ℕ) → at + n ≤ length a → length (part a at n) ≡ n
  length_part a at n h = length-take-le n (drop at a) (rw length-drop (omega arith))

  pub part_add : (a : List A) (at m n : ℕ) → part a at (m + n) ≡ part a at m ++ part a (at + m) n
  part_add a at m n = take-add m n (drop at a) ∙ rw drop-drop

  pub take_part : (a : List A) (m n : ℕ) → take (m + n) a ≡ take m a ++ part a m n
  take_part a m n = take-add m n a

  -- a list around a part of it
  pub around_part : (a : List A) (at n : ℕ) → take at a ++ (part a at n ++ drop (at + n) a) ≡ a
  around_part a at n = rw (← drop-drop n at a, take-append-drop n (drop at a)) (take-append-drop at a)

  -- a part of the first of two lists
  pub part_front : (a r : List A) (at n : ℕ) → at + n ≤ length a → part (a ++ r) at n ≡ part a at n
  part_front a r at n h = rw (drop-append-le at a r (omega arith)) (take-append-le n (drop at a) r (rw length-drop (omega arith)))

  -- the part that a list in the middle is
  pub part_middle : (p x r : List A) (at n : ℕ) → length p ≡ at → length x ≡ n → part (p ++ (x ++ r)) at n ≡ x
  part_middle p x r at n e l = rw (drop_at p (x ++ r) at e) (take_at x r n l)

  -- ---- joined pieces

  pub joined_same : (n : ℕ) (f g : ℕ → List A) → ((i : ℕ) → i < n → f i ≡ g i) → joined n f ≡ joined n g
  unfolding joined
  joined_same zero f g h = refl
  joined_same (suc n) f g h = rw (joined_same n f g (λ i b. h i (omega arith)), h n (omega arith))

  pub joined_add : (m n : ℕ) (f : ℕ → List A) → joined (m + n) f ≡ joined m f ++ joined n (λ j. f (m + j))
  unfolding joined
  joined_add m zero f = rw (add-zero m, append-nil)
  joined_add m (suc n) f = rw (add-suc m n, joined_add m n f) (append_assoc (joined m f) (joined n (λ j. f (m + j))) (f (m + n)))

  -- the piece at i, between what stands before it and what stands after it
  pub joined_split : (n : ℕ) (f : ℕ → List A) (i : ℕ) → i < n → (r : List A) × (joined n f ≡ joined i f ++ (f i ++ r))
  unfolding joined
  joined_split zero f i b = absurd (omega arith)
  joined_split (suc n) f i b = elim (ℕ_discrete i n) [
    | yes e ↦ ([], rw (e, append-nil))
    | no e ↦
        let s = joined_split n f i (omega arith) in
        (s.0 ++ f n, simp (s.1, append_assoc))
  ]

  module _ (k : ℕ) (f : ℕ → List A) (wide : (i : ℕ) → length (f i) ≡ k) where
    pub length_joined : (n : ℕ) → length (joined n f) ≡ n * k
    unfolding joined
    length_joined zero = omega arith
    length_joined (suc n) = simp length-append (omega (arith, wide n, length_joined n))

    -- the same with a list before and a list after the pieces
    pub joined_around : (p r : List A) (base n i : ℕ) → length p ≡ base → i < n
        → (q : List A) × (t : List A) × (length q ≡ base + i * k) × (p ++ (joined n f ++ r) ≡ q ++ (f i ++ t))
    joined_around p r base n i e b =
        let s = joined_split n f i b in (
          p ++ joined i f,
          s.0 ++ r,
          simp length-append (omega (arith, length_joined i)),
          simp (s.1, append_assoc),
        )

-- each element of joined pieces
pub under_joined : (m : ℕ) → 0 < m → (n : ℕ) (f : ℕ → List ℕ) → ((i : ℕ) → AllUnder m (f i)) → AllUnder m (joined n f)
unfolding joined
under_joined m h zero f u i = h
under_joined m h (suc n) f u i = under_append m (joined n f) (f n) (under_joined m h n f u) (u n) i

-- what reads a piece where it stands, reads each of the joined pieces
module _ (k : ℕ) (f : ℕ → List ℕ) (wide : (i : ℕ) → length (f i) ≡ k) {A : Type 0} (from : List ℕ → ℕ → A) (x : ℕ → A)
    (back : (i : ℕ) (p r : List ℕ) (at : ℕ) → length p ≡ at → from (p ++ (f i ++ r)) at ≡ x i) where
  pub piece_back : (p r : List ℕ) (base n i : ℕ) → length p ≡ base → i < n → from (p ++ (joined n f ++ r)) (base + i * k) ≡ x i
  piece_back p r base n i e b =
      let s = joined_around k f wide p r base n i e b in
      rw s.3 (back i s.0 s.1 (base + i * k) s.2)

-- a word inside one of the joined pieces
module _ (k : ℕ) (g : ℕ → List ℕ) (wide : (i : ℕ) → length (g i) * 8 ≡ k) (small : (i : ℕ) → AllUnder (2 ^ 64) (g i)) where
  pub piece_word : (p r : List ℕ) (base n i j : ℕ) → length p ≡ base → i < n → j < length (g i)
      → word_at (p ++ (joined n (λ i. word_bytes (g i)) ++ r)) (base + i * k + j * 8) ≡ get_or (g i) j 0
  piece_word p r base n i j e b c =
      let s = joined_around k (λ i. word_bytes (g i)) (λ i. length_words (g i) ∙ wide i) p r base n i e b in
      rw s.3 (word_in s.0 (g i) s.1 (base + i * k) j s.2 c (small i))
