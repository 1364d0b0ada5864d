-- Numbers as bytes and back, words as bytes and back; lists whose elements are all below a bound.
use mathlib.Core.Path.{◌≡◌, refl, ap, ◌∙◌}
use mathlib.Core.List.{List, [], ◌∷◌, ◌++◌, append_assoc}
use Prim.Native.Nat.{ℕ, zero, suc, ◌+◌, ◌*◌, ◌/◌, ◌%◌, ◌^◌, ◌<◌, ◌≤◌}
use native.Mathlib.Nat.{add-zero, pow-suc, pow-zero, le_of_suc-le-suc, lt_of_lt_of_le, pow-le-pow_right}
use native.Mathlib.Omega.{arith}
use lib.Dec.{lit<}
use lib.ListN.{length, get_or, take, drop, replicate, replicate-append-replicate, length-append, length-take, length-drop}
use lib.Seq.{drop-append-add, drop-append-le, take-append-le, take_at, get_or-drop}
use Rattle.seq.proofs.EachLaws.{replicate_at}
use Rattle.words.specs.Bytes.{value_of, bytes_of, part, AllUnder, word_at, word_bytes, zero_words}

-- ---- bounds

-- the same element by element, for a list that is written out
abbrev pub EachUnder : ℕ → List ℕ → Type 0
EachUnder m [] = Unit {0}
EachUnder m (x ∷ l) = (x < m) × EachUnder m l

module _ (m : ℕ) where
  pub under_each : 0 < m → (l : List ℕ) → EachUnder m l → AllUnder m l
  under_each h [] k i = h
  under_each h (x ∷ l) k zero = k.0
  under_each h (x ∷ l) k (suc i) = under_each h l k.1 i

  pub under_tail : (x : ℕ) (l : List ℕ) → AllUnder m (x ∷ l) → AllUnder m l
  under_tail x l h i = h (suc i)

  pub under_append : (a b : List ℕ) → AllUnder m a → AllUnder m b → AllUnder m (a ++ b)
  under_append [] b h k i = k i
  under_append (x ∷ a) b h k zero = h 0
  under_append (x ∷ a) b h k (suc i) = under_append a b (under_tail x a h) k i

  pub under_take : (n : ℕ) (a : List ℕ) → AllUnder m a → AllUnder m (take n a)
  under_take zero a h i = omega (arith, h i)
  under_take (suc n) [] h i = h i
  under_take (suc n) (x ∷ a) h zero = h 0
  under_take (suc n) (x ∷ a) h (suc i) = under_take n a (under_tail x a h) i

  pub under_drop : (n : ℕ) (a : List ℕ) → AllUnder m a → AllUnder m (drop n a)
  under_drop n a h i = rw get_or-drop (h (n + i))

  pub under_part : (a : List ℕ) (at n : ℕ) → AllUnder m a → AllUnder m (part a at n)
  under_part a at n h = under_take n (drop at a) (under_drop at a h)

  pub under_zeros : 0 < m → (n : ℕ) → AllUnder m (replicate n 0)
  under_zeros h n i = rw (replicate_at {A = ℕ} n i 0) h

-- ---- numbers

-- a word has 64 bits, eight bytes
pub word_bits : 2 ^ 64 ≡ 256 ^ 8
word_bits = refl

pub length_bytes : (n x : ℕ) → length (bytes_of n x) ≡ n
unfolding bytes_of
length_bytes zero x = refl
length_bytes (suc n) x = ap suc (length_bytes n (x / 256))

pub bytes_under : (n x : ℕ) → AllUnder 256 (bytes_of n x)
unfolding bytes_of
bytes_under zero x i = lit< tt
bytes_under (suc n) x zero = omega arith
bytes_under (suc n) x (suc i) = bytes_under n (x / 256) i

pub value_bytes : (n x : ℕ) → x < 256 ^ n → value_of (bytes_of n x) ≡ x
unfolding value_of bytes_of
value_bytes zero x h = let h' = rw pow-zero at h in omega arith
value_bytes (suc n) x h =
    let h' = rw pow-suc at h in
    let e = value_bytes n (x / 256) (omega arith) in
    omega arith

pub value_under : (bs : List ℕ) → AllUnder 256 bs → value_of bs < 256 ^ length bs
unfolding value_of
value_under [] h = rw pow-zero (lit< tt)
value_under (b ∷ bs) h =
    let e = value_under bs (under_tail 256 b bs h) in
    rw pow-suc (omega (arith, h 0))

pub bytes_value : (bs : List ℕ) → AllUnder 256 bs → bytes_of (length bs) (value_of bs) ≡ bs
unfolding value_of bytes_of
bytes_value [] h = refl
bytes_value (b ∷ bs) h =
    let l : b < 256 = h 0 in
    let x : (b + 256 * value_of bs) % 256 ≡ b = omega arith in
    let y : (b + 256 * value_of bs) / 256 ≡ value_of bs = omega arith in
    rw (x, y, bytes_value bs (under_tail 256 b bs h))

-- ---- words

pub length_words : (ws : List ℕ) → length (word_bytes ws) ≡ length ws * 8
unfolding word_bytes
length_words [] = refl
length_words (w ∷ ws) = simp length-append (omega (arith, length_bytes 8 w, length_words ws))

-- zero words are zero bytes
pub zeros_filled : (n : ℕ) → replicate (n * 8) 0 ≡ zero_words n
unfolding word_bytes bytes_of
zeros_filled zero = refl
zeros_filled (suc n) =
    let m : suc n * 8 ≡ 8 + n * 8 = omega arith in
    rw (m, ← replicate-append-replicate {A = ℕ} 8 (n * 8) 0, zeros_filled n)

pub words_under : (ws : List ℕ) → AllUnder 256 (word_bytes ws)
unfolding word_bytes
words_under [] i = lit< tt
words_under (w ∷ ws) i = under_append 256 (bytes_of 8 w) (word_bytes ws) (bytes_under 8 w) (words_under ws) i

-- a word of a list of bytes
pub word_under : (a : List ℕ) (at : ℕ) → AllUnder 256 a → word_at a at < 2 ^ 64
unfolding word_at
word_under a at h =
    let l : length (part a at 8) ≤ 8 = simp length-take (omega arith) in
    lt_of_lt_of_le (value_under (part a at 8) (under_part 256 a at 8 h)) (pow-le-pow_right (lit< tt) l)

-- a word that ends within a list is that of the list, whatever follows
pub word_within : (p q : List ℕ) (at : ℕ) → at + 8 ≤ length p → word_at (p ++ q) at ≡ word_at p at
unfolding word_at
word_within p q at h =
    let l : 8 ≤ length (drop at p) = simp length-drop (omega arith) in
    rw (drop-append-le at p q (omega arith), take-append-le 8 (drop at p) q l)

pub word_after : (p q : List ℕ) (at j : ℕ) → length p ≡ at → word_at (p ++ q) (at + j) ≡ word_at q j
unfolding word_at
word_after p q at j e = rw (← e, drop-append-add)

pub word_here : (p q : List ℕ) (at : ℕ) → length p ≡ at → word_at (p ++ q) at ≡ word_at q 0
word_here p q at e = rw add-zero at (word_after p q at 0 e)

pub word_first : (w : ℕ) (r : List ℕ) → w < 2 ^ 64 → word_at (bytes_of 8 w ++ r) 0 ≡ w
unfolding word_at
word_first w r h = rw (take_at (bytes_of 8 w) r 8 (length_bytes 8 w)) (value_bytes 8 w h)

pub word_back : (ws r : List ℕ) (j : ℕ) → j < length ws → AllUnder (2 ^ 64) ws → word_at (word_bytes ws ++ r) (j * 8) ≡ get_or ws j 0
unfolding word_bytes
word_back [] r j b h = absurd (omega arith)
word_back (w ∷ ws) r zero b h = rw append_assoc (word_first w (word_bytes ws ++ r) (h 0))
word_back (w ∷ ws) r (suc j) b h =
    let e : suc j * 8 ≡ 8 + j * 8 = omega arith in
    rw (append_assoc, e) (word_after (bytes_of 8 w) (word_bytes ws ++ r) 8 (j * 8) (length_bytes 8 w) ∙ word_back ws r j (le_of_suc-le-suc b) (under_tail (2 ^ 64) w ws h))

-- the word at place j of some words that stand at a place
pub word_in : (p ws r : List ℕ) (at j : ℕ) → length p ≡ at → j < length ws → AllUnder (2 ^ 64) ws → word_at (p ++ (word_bytes ws ++ r)) (at + j * 8) ≡ get_or ws j 0
word_in p ws r at j e b h = word_after p (word_bytes ws ++ r) at (j * 8) e ∙ word_back ws r j b h
