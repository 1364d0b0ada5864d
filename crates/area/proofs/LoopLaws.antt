-- One turn of a loop that reads or writes an array of the state.
use mathlib.Core.Path.{◌≡◌, refl, ◌∙◌}
use mathlib.Core.Bool.{Bool, true, false, ◌&&◌}
use mathlib.Core.List.{List, [], ◌∷◌}
use Prim.Native.Nat.{ℕ, ◌+◌, ◌*◌, ◌<◌, ◌≤◌}
use native.Mathlib.Nat.{mul-le-mul_right}
use native.Mathlib.Numerals.{add-one}
use native.Mathlib.Omega.{arith}
use lib.ListN.{length, get_or, set, length-replicate}
use Rattle.std.proofs.lemmas.List.{get_or_default}
use Rattle.seq.specs.Each.{each, each_from, each_below}
use Rattle.seq.proofs.EachLaws.{each_below_turn, each_below_all}
use Rattle.seq.specs.Below.{all_below}
use Rattle.seq.proofs.BelowLaws.{all_turn}
use Rattle.model.specs.State.{empty_holding, empty_holdings}
use Rattle.area.specs.Inner.Writes.{row_dropped, rows_dropped}
use Rattle.words.specs.Bytes.{has_words, word_bytes, spliced, joined, zero_words}
use Rattle.words.proofs.ByteLaws.{length_words}
use Rattle.words.proofs.SpliceLaws.{spliced_more}
use Rattle.words.proofs.JoinLaws.{length_joined}

pub empty_holdings_long : length empty_holdings ≡ 2048
unfolding empty_holdings
empty_holdings_long = length-replicate 2048 empty_holding

-- the next element read over a list, and tested
module _ {A : Type 0} (words : A → List ℕ) (from : List ℕ → ℕ → A) (a : List ℕ) (base k i m : ℕ) (e : m ≡ k) (y : A) (f : y ≡ from a (base + i * m)) where
  pub read_next : (xs out : List A) → i < length xs → out ≡ each_below i (λ j _. from a (base + j * k)) xs → set out i y ≡ each_below (i + 1) (λ j _. from a (base + j * k)) xs
  read_next xs out h q = each_below_turn (λ j _. from a (base + j * k)) xs i y out y h q (rw e at f)

  pub exact_next : (p t : Bool) → p ≡ all_below i (λ j. has_words a (base + j * k) (words (from a (base + j * k)))) → t ≡ has_words a (base + i * m) (words y)
      → p && t ≡ all_below (i + 1) (λ j. has_words a (base + j * k) (words (from a (base + j * k))))
  exact_next p t q g = all_turn (λ j. has_words a (base + j * k) (words (from a (base + j * k)))) i p t (p && t) q (rw (g, f, e)) refl

pub read_end : {A : Type 0} (f : ℕ → A → A) (xs out : List A) (n : ℕ) → length xs ≤ n → out ≡ each_below n f xs → out ≡ each f xs
unfolding each_below each each_from
read_end f [] out n h e = e
read_end f (x ∷ xs) out n h e = e ∙ each_below_all f (x ∷ xs) n x h

-- the next element written
pub put_next : {A : Type 0} (words : A → List ℕ) (k : ℕ) → ((x : A) → length (words x) * 8 ≡ k) → (a₀ a b : List ℕ) (base i m : ℕ) (xs : List A) (x d : A) → m ≡ k → base + length xs * k ≤ length a₀ → i < length xs
    → a ≡ spliced a₀ base (joined i (λ j. word_bytes (words (get_or xs j d)))) → x ≡ get_or xs i x → b ≡ spliced a (base + i * m) (word_bytes (words x))
    → b ≡ spliced a₀ base (joined (i + 1) (λ j. word_bytes (words (get_or xs j d))))
unfolding joined
put_next words k wide a₀ a b base i m xs x d e h l q f g =
    let piece : ℕ → List ℕ = λ j. word_bytes (words (get_or xs j d)) in
    let n : base + length (joined i piece) ≡ base + i * k = rw (length_joined k piece (λ j. length_words (words (get_or xs j d)) ∙ wide (get_or xs j d)) i) in
    let r : i * k ≤ length xs * k = mul-le-mul_right k (omega arith) in
    let x-is : x ≡ get_or xs i d = f ∙ get_or_default xs i x d l in
    rw (g, q, x-is, e, add-one i) (spliced_more a₀ base (joined i piece) (piece i) (base + i * k) n (omega arith))

-- the holding of a row on the next slot dropped, and the holdings of the next row dropped or left
pub drop_turn : (row i : ℕ) (a₀ a b : List ℕ) → a ≡ row_dropped row i a₀ → b ≡ spliced a (6656 + (i * 32 + row) * 24) (zero_words 3) → b ≡ row_dropped row (i + 1) a₀
unfolding row_dropped
drop_turn row i a₀ a b e f = rw (add-one i, ← e) f

module _ (some : ℕ → Bool) (r : ℕ) (a₀ a : List ℕ) (e : a ≡ rows_dropped some r a₀) where
  pub drops_turn : (b : List ℕ) → some r ≡ true → b ≡ row_dropped r 64 a → b ≡ rows_dropped some (r + 1) a₀
  unfolding rows_dropped
  drops_turn b h f = rw (add-one r, h, ← e) f

  pub skips_turn : some r ≡ false → a ≡ rows_dropped some (r + 1) a₀
  unfolding rows_dropped
  skips_turn h = rw (add-one r, h) e
