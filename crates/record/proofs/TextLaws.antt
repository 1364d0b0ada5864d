-- The digits of a number, how long the parts of a line are, and the lines of a tick's list.
use mathlib.Core.Path.{◌≡◌, refl, ◌∙◌, sym}
use mathlib.Core.Bool.{Bool, true, false, cond, ◌&&◌}
use mathlib.Core.List.{List, [], ◌∷◌, ◌++◌}
use Prim.Native.Nat.{ℕ, zero, suc, ◌+◌, ◌*◌, ◌-◌, ◌/◌, ◌%◌, ◌<◌, ◌≤◌}
use native.Mathlib.Numerals.{sub-one}
use native.Mathlib.Omega.{arith}
use borrow.Author.Tests.{lt-ltb, le-ltb, leb-true, eq-eqb, ne_eqb}
use lib.Dec.{eqb, ltb, leb}
use lib.ListN.{length, get_or, length-append}
use Rattle.seq.proofs.Tests.{and_left, and_right}
use Rattle.words.specs.Bytes.{joined}
use Rattle.record.specs.Record.{field}
use Rattle.record.specs.Text.{digits, words, word_text, or_dash, head_text, tail_text, line_of, fill_numbers, fill_line, fill_lines}

-- digits: one, and those of the tenth part with one more
pub one_digit : (k n : ℕ) → (k ≡ 0 → ⊥) → n < 10 → digits k n ≡ (48 + n % 10) ∷ []
unfolding digits
one_digit zero n f h = absurd (f refl)
one_digit (suc k) n f h =
    let same : n % 10 ≡ n = omega arith in
    rw (lt-ltb n 10 h, same)

pub more_digits : (k n : ℕ) → (k ≡ 0 → ⊥) → 10 ≤ n → digits k n ≡ digits (k - 1) (n / 10) ++ ((48 + n % 10) ∷ [])
unfolding digits
more_digits zero n f h = absurd (f refl)
more_digits (suc k) n f h = rw (le-ltb n 10 h, sub-one (suc k))

pub digits_most : (k n : ℕ) → length (digits k n) ≤ k
unfolding digits
digits_most zero n = omega arith
digits_most (suc k) n = go (ltb n 10) (digits_most k (n / 10))
  where
    go : (b : Bool) → length (digits k (n / 10)) ≤ k → length (cond b ((48 + n) ∷ []) (digits k (n / 10) ++ ((48 + n % 10) ∷ []))) ≤ suc k
    go true h = omega arith
    go false h = rw length-append (omega arith)

-- each word has at most eight letters
all_fit : List (List ℕ) → Bool
all_fit [] = true
all_fit (w ∷ ws) = leb (length w) 8 && all_fit ws

each_fits : (ws : List (List ℕ)) → all_fit ws ≡ true → (n : ℕ) → length (get_or ws n []) ≤ 8
unfolding all_fit
each_fits [] h n = omega arith
each_fits (w ∷ ws) h zero = leb-true (length w) 8 (and_left _ (all_fit ws) h)
each_fits (w ∷ ws) h (suc n) = each_fits ws (and_right (leb (length w) 8) _ h) n

-- one test, computed over all words
pub word_most : (n : ℕ) → length (word_text n) ≤ 8
unfolding words all_fit
word_most n = each_fits words refl n

pub dash_most : (n : ℕ) → length (or_dash n) ≤ 20
dash_most zero = omega arith
dash_most (suc n) = digits_most 20 n

-- how long the two parts of a line are
pub head_most : (number word value : ℕ) → length (head_text number word value) ≤ 50
unfolding head_text
head_most number word value =
    simp length-append (omega (arith, digits_most 20 number, word_most word, digits_most 20 value))

pub tail_most : (slot back : ℕ) → length (tail_text slot back) ≤ 45
unfolding tail_text
tail_most slot back = simp length-append (omega (arith, dash_most slot, dash_most back))

pub line_most : (number : ℕ) (answer : List ℕ) → length (line_of number answer) ≤ 95
unfolding line_of
line_most number answer =
    rw length-append (omega (arith, head_most number (get_or answer 0 0) (get_or answer 1 0), tail_most (get_or answer 2 0) (get_or answer 3 0)))

-- ---- the lines of a tick's list

joined_most : (k : ℕ) (f : ℕ → List ℕ) → ((i : ℕ) → length (f i) ≤ k) → (n : ℕ) → length (joined n f) ≤ n * k
unfolding joined
joined_most k f h zero = omega arith
joined_most k f h (suc n) = rw length-append (omega (arith, h n, joined_most k f h n))

module _ (number : ℕ) (list : List ℕ) where
  fill_most : (i : ℕ) → length (fill_line number list i) ≤ 95
  unfolding fill_line
  fill_most i = go (eqb (field list (i * 8 + 3) 1) 0)
    where
      go : (b : Bool) → length (cond b [] (line_of number (fill_numbers list (i * 8)))) ≤ 95
      go true = omega arith
      go false = line_most number (fill_numbers list (i * 8))

  -- the first i lines
  abbrev pub first_fills : ℕ → List ℕ
  first_fills i = joined i (fill_line number list)

  pub first_most : (i : ℕ) → length (first_fills i) ≤ i * 95
  first_most i = joined_most 95 (fill_line number list) fill_most i

  pub fill_lines_most : length (fill_lines number list) ≤ 32 * 95
  unfolding fill_lines
  fill_lines_most = first_most 32

-- the numbers of an entry whose flag is 2, and of another
module _ (list : List ℕ) (at level row slot flag : ℕ) (e0 : level ≡ field list at 1) (e1 : row ≡ field list (at + 1) 1) (e2 : slot ≡ field list (at + 2) 1) (e3 : flag ≡ field list (at + 3) 1) where
  pub fill_back : (page : ℕ) → page ≡ field list (at + 6) 2 → flag ≡ 2 → 20 ∷ (level * 8 + row) ∷ (slot + 1) ∷ (page + 1) ∷ [] ≡ fill_numbers list at
  unfolding fill_numbers
  fill_back page e6 f = rw (← e0, ← e1, ← e2, ← e6, eq-eqb (field list (at + 3) 1) 2 (sym e3 ∙ f))

  pub fill_alone : (flag ≡ 2 → ⊥) → 20 ∷ (level * 8 + row) ∷ (slot + 1) ∷ 0 ∷ [] ≡ fill_numbers list at
  unfolding fill_numbers
  fill_alone f = rw (← e0, ← e1, ← e2, ne_eqb (field list (at + 3) 1) 2 (λ z. f (e3 ∙ z)))
