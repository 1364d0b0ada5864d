-- Lists written over a list one after another, and words written so.
use mathlib.Core.Path.{◌≡◌, refl, ◌∙◌, sym, ap}
use mathlib.Core.List.{List, [], ◌∷◌, ◌++◌, append_assoc, append-nil}
use Prim.Native.Nat.{ℕ, suc, ◌+◌, ◌-◌, ◌*◌, ◌/◌, ◌<◌, ◌≤◌}
use native.Mathlib.Nat.{add-zero}
use native.Mathlib.Numerals.{add-one}
use native.Mathlib.Omega.{arith}
use lib.ListN.{length, get_or, take, drop, replicate, length-append, length-drop, length-replicate, take-append-drop}
use lib.Seq.{take-suc, drop-cons, take_at, drop_at, drop-append-add, drop-drop, length-take-le}
use Rattle.std.proofs.lemmas.List.{drop_all}
use borrow.Rule.Slice.PartMut.{put_mid}
use Rattle.std.specs.Int.{w64, to_le_bytes, from_le_bytes}
use Rattle.words.proofs.ByteLaws.{length_words, zeros_filled}
use Rattle.words.specs.Bytes.{value_of, bytes_of, word_at, word_bytes, spliced, zero_words}

module _ {A : Type 0} where
  pub spliced_length : (a : List A) (at : ℕ) (bs : List A) → at + length bs ≤ length a → length (spliced a at bs) ≡ length a
  spliced_length a at bs h =
      let e : length (take at a) ≡ at = length-take-le at a (omega arith) in
      simp (length-append, e, length-drop) (omega arith)

  pub spliced_none : (a : List A) (at : ℕ) → a ≡ spliced a at []
  spliced_none a at = rw (append-nil, add-zero at) (sym (take-append-drop at a))

  -- a second list written where the first ends
  pub spliced_more : (a : List A) (at : ℕ) (xs ys : List A) (n : ℕ) → at + length xs ≡ n → n ≤ length a → spliced (spliced a at xs) n ys ≡ spliced a at (xs ++ ys)
  spliced_more a at xs ys n e h =
      let t : length (take at a ++ xs) ≡ n = simp (length-append, length-take-le at a (omega arith)) (omega arith) in
      let m : at + length xs + length ys ≡ at + length (xs ++ ys) = rw (length-append xs ys) (omega arith) in
      let d : drop (n + length ys) (take at a ++ xs ++ drop (at + length xs) a) ≡ drop (at + length (xs ++ ys)) a =
      ap (λ (m : ℕ). drop (m + length ys) (take at a ++ xs ++ drop (at + length xs) a)) (sym t)
      ∙ drop-append-add (take at a ++ xs) (drop (at + length xs) a) (length ys)
      ∙ drop-drop (length ys) (at + length xs) a
      ∙ ap (λ (m : ℕ). drop m a) m in
      rw (take_at (take at a ++ xs) (drop (at + length xs) a) n t, d) (simp append_assoc)

  -- a list written over one of its length that stands in the middle
  pub spliced_middle : (p x r y : List A) (at : ℕ) → length p ≡ at → length x ≡ length y → spliced (p ++ (x ++ r)) at y ≡ p ++ (y ++ r)
  spliced_middle p x r y at e f =
      let d : drop (at + length y) (p ++ (x ++ r)) ≡ r = rw (← e, drop-append-add) (drop_at x r (length y) f) in
      rw (take_at p (x ++ r) at e, d) (append_assoc p y r)

  -- what a write to `a[at..at + n]` leaves
  pub part_put : (a ys bs : List A) (at k : ℕ) → ys ≡ bs → k ≡ length bs → put_mid at k a ys ≡ spliced a at bs
  part_put a ys bs at k e f = rw (e, f, drop-drop, append_assoc)

pub words_append : (xs ys : List ℕ) → word_bytes (xs ++ ys) ≡ word_bytes xs ++ word_bytes ys
unfolding word_bytes
words_append [] ys = refl
words_append (x ∷ xs) ys = simp (words_append xs ys, append_assoc)

pub word_alone : (w : ℕ) → word_bytes (w ∷ []) ≡ bytes_of 8 w
unfolding word_bytes
word_alone w = append-nil (bytes_of 8 w)

-- one word more
pub words_more : (ws : List ℕ) (j : ℕ) → j < length ws → word_bytes (take (j + 1) ws) ≡ word_bytes (take j ws) ++ bytes_of 8 (get_or ws j 0)
words_more ws j h = rw (add-one j, take-suc ws j 0 h) (words_append (take j ws) (get_or ws j 0 ∷ []) ∙ ap (λ (r : List ℕ). word_bytes (take j ws) ++ r) (word_alone (get_or ws j 0)))

-- the eight bytes of a word, as the language's library writes and reads them
pub eight : (x : ℕ) → to_le_bytes w64 x ≡ bytes_of 8 x
unfolding bytes_of
eight x =
    let e2 : x / 256 / 256 ≡ x / 65536 = omega arith in
    let e3 : x / 65536 / 256 ≡ x / 16777216 = omega arith in
    let e4 : x / 16777216 / 256 ≡ x / 4294967296 = omega arith in
    let e5 : x / 4294967296 / 256 ≡ x / 1099511627776 = omega arith in
    let e6 : x / 1099511627776 / 256 ≡ x / 281474976710656 = omega arith in
    let e7 : x / 281474976710656 / 256 ≡ x / 72057594037927936 = omega arith in
    rw (e2, e3, e4, e5, e6, e7)

pub read_eight : (bs : List ℕ) → length bs ≡ 8 → from_le_bytes w64 bs ≡ value_of bs
unfolding value_of
read_eight bs h =
    let d : (k : ℕ) → k < 8 → drop k bs ≡ get_or bs k 0 ∷ drop (suc k) bs = λ k b. drop-cons bs k 0 (omega arith) in
    let e : drop 8 bs ≡ [] = drop_all 8 bs (omega arith) in
    let all : bs ≡ get_or bs 0 0 ∷ get_or bs 1 0 ∷ get_or bs 2 0 ∷ get_or bs 3 0 ∷ get_or bs 4 0 ∷ get_or bs 5 0 ∷ get_or bs 6 0 ∷ get_or bs 7 0 ∷ [] =
    d 0 (omega arith) ∙ rw (d 1 (omega arith), d 2 (omega arith), d 3 (omega arith), d 4 (omega arith), d 5 (omega arith), d 6 (omega arith), d 7 (omega arith), e) in
    sym (ap value_of all ∙ omega arith)

pub word_read : (a bs : List ℕ) (at n r : ℕ) → at + 8 ≤ length a → n ≡ at + 8 - at → bs ≡ take n (drop at a) → r ≡ from_le_bytes w64 bs → r ≡ word_at a at
unfolding word_at
word_read a bs at n r h e f g =
    let m : n ≡ 8 = omega arith in
    let l : length (take 8 (drop at a)) ≡ 8 = length-take-le 8 (drop at a) (simp length-drop (omega arith)) in
    rw (g, f, m) (read_eight (take 8 (drop at a)) l)

-- one turn of a loop that writes words
pub words_turn : (a₀ a b : List ℕ) (at : ℕ) (ws : List ℕ) (j : ℕ) → at + length ws * 8 ≤ length a₀ → j < length ws
    → a ≡ spliced a₀ at (word_bytes (take j ws)) → b ≡ spliced a (at + j * 8) (bytes_of 8 (get_or ws j 0)) → b ≡ spliced a₀ at (word_bytes (take (j + 1) ws))
words_turn a₀ a b at ws j h l e f =
    let n : at + length (word_bytes (take j ws)) ≡ at + j * 8 = rw (length_words (take j ws), length-take-le j ws (omega arith)) in
    rw (f, e, words_more ws j l) (spliced_more a₀ at (word_bytes (take j ws)) (bytes_of 8 (get_or ws j 0)) (at + j * 8) n (omega arith))

-- a part of n words filled with zeros
pub zeros_put : (a ys : List ℕ) (at n k : ℕ) → at + n * 8 ≤ length a → k ≡ n * 8 → ys ≡ replicate (length (take k (drop at a))) 0 → put_mid at k a ys ≡ spliced a at (zero_words n)
zeros_put a ys at n k h e f =
    let l : length (take k (drop at a)) ≡ n * 8 = length-take-le k (drop at a) (simp length-drop (omega arith)) ∙ e in
    part_put a ys (zero_words n) at k (f ∙ rw l (zeros_filled n)) (e ∙ rw (length_words (replicate n 0), length-replicate {A = ℕ} n 0))
