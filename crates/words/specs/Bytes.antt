-- Numbers as bytes, the least byte first; words of eight bytes; parts of a list read and written over; lists of bytes.
use Rattle.std.specs.Prelude.{◌≡◌, Bool, true, false, ◌&&◌, List, [], ◌∷◌, ◌++◌, ℕ, zero, suc, ◌+◌, ◌*◌, ◌/◌, ◌%◌, ◌<◌, eqb, length, get_or, take, drop, replicate}
use Rattle.seq.specs.Below.{all_below}

-- the number that some bytes name
unfoldable pub value_of : List ℕ → ℕ
value_of [] = 0
value_of (b ∷ bs) = b + 256 * value_of bs

-- the n least bytes of a number
unfoldable pub bytes_of : ℕ → ℕ → List ℕ
bytes_of zero x = []
bytes_of (suc n) x = x % 256 ∷ bytes_of n (x / 256)

module _ {A : Type 0} where
  -- n elements from a place on
  abbrev pub part : List A → ℕ → ℕ → List A
  part a at n = take n (drop at a)

  -- a list with another written over it from a place on
  abbrev pub spliced : List A → ℕ → List A → List A
  spliced a at bs = take at a ++ bs ++ drop (at + length bs) a

  -- f 0, then f 1, and so on to f (n - 1)
  unfoldable pub joined : ℕ → (ℕ → List A) → List A
  joined zero f = []
  joined (suc n) f = joined n f ++ f n

-- a list was written over a at a place: b is what a became, and n the place past the list
pub record Wrote (a : List ℕ) (at : ℕ) (xs b : List ℕ) (n : ℕ) : Type 0 where
  pub ends : n ≡ at + length xs
  pub holds : b ≡ spliced a at xs

-- each element is below m; so is 0, which stands for every place past the end
abbrev pub AllUnder : ℕ → List ℕ → Type 0
AllUnder m l = (i : ℕ) → get_or l i 0 < m

-- the word at a place
unfoldable pub word_at : List ℕ → ℕ → ℕ
word_at a at = value_of (part a at 8)

-- words as bytes
unfoldable pub word_bytes : List ℕ → List ℕ
word_bytes [] = []
word_bytes (w ∷ ws) = bytes_of 8 w ++ word_bytes ws

-- n words that are zero, as bytes
abbrev pub zero_words : ℕ → List ℕ
zero_words n = word_bytes (replicate n 0)

-- the words from a place on are these
unfoldable pub has_words : List ℕ → ℕ → List ℕ → Bool
has_words a at ws = all_below (length ws) (λ j. eqb (word_at a (at + j * 8)) (get_or ws j 0))

-- two lists of numbers are equal
unfoldable pub same : List ℕ → List ℕ → Bool
same [] [] = true
same [] (y ∷ ys) = false
same (x ∷ xs) [] = false
same (x ∷ xs) (y ∷ ys) = eqb x y && same xs ys
