-- The bytes of a record that are read from an input.
use mathlib.Core.Path.{◌≡◌, ◌∙◌, sym, ap}
use mathlib.Core.List.{List, ◌++◌}
use Prim.Native.Nat.{ℕ, ◌+◌, ◌-◌, ◌<◌, ◌≤◌}
use native.Mathlib.Omega.{arith}
use borrow.Rule.Slice.PartMut.{put_mid, post_of}
use lib.ListN.{length, take}
use lib.Seq.{length-take-le, take-append-le, take-take, take-add}
use Rattle.std.proofs.Common.{slice_range, le_refl, drop_at}
use Rattle.std.proofs.lemmas.Slice.{take-put_mid_below}
use Rattle.record.specs.Record.{short_width, long_width, record_width}
use Rattle.record.proofs.RecordLaws.{same_width, widths, not_short}

take_split : (a b : ℕ) (old new : List ℕ) → a ≤ b → take a new ≡ take a old → take a old ++ slice_range new a b ≡ take b new
take_split a b old new h front =
    let same : a + (b - a) ≡ b = omega arith in
    ap (λ l. l ++ slice_range new a b) (sym front) ∙ sym (take-add a (b - a) new) ∙ ap (λ n. take n new) same

range_read : (a k n : ℕ) (xs ys : List ℕ) → a ≤ length xs → n ≤ length ys → slice_range (put_mid a k xs ys) a (a + n) ≡ take n ys
range_read a k n xs ys within fits =
    let same : (a + n) - a ≡ n = omega arith in
    let after = post_of a k xs in
    ap (take ((a + n) - a)) (drop_at (take a xs) (ys ++ after) a (length-take-le a xs within)) ∙ ap (λ m. take m (ys ++ after)) same ∙ take-append-le n ys after fits

-- n bytes that stand there, and m that are read after them
pub joined_read : (n m k : ℕ) (xs ys : List ℕ) → n ≤ length xs → m ≤ length ys → take n xs ++ take m ys ≡ take (n + m) (put_mid n k xs ys)
joined_read n m k xs ys within fits =
    ap (λ l. take n xs ++ l) (sym (range_read n k m xs ys within fits))
    ∙ take_split n (n + m) xs (put_mid n k xs ys) (omega arith) (take-put_mid_below _ _ _ _ _ (le_refl _) within)

-- the first 12 bytes are no more than a record has
pub few_read : (n : ℕ) (r : List ℕ) → n ≤ short_width → n ≤ record_width r
few_read n r h = omega (arith, (widths r).0)

-- they have its mark
pub short_read : (n : ℕ) (a : List ℕ) → n ≡ short_width → record_width a ≡ short_width → n < record_width (take n a) → ⊥
short_read n a e w h = omega (arith, same_width (take n a) a (take-take 2 n a (omega arith)))

-- what is read past the first 12 leaves the mark
pub more_read : (n m : ℕ) (a q : List ℕ) → n ≡ short_width → n ≤ length a → n + m ≤ long_width → (record_width a ≡ short_width → ⊥) → n + m ≤ record_width (take (n + m) (take n a ++ q))
more_read n m a q e l h f =
    let k : length (take n a) ≡ n = length-take-le n a l in
    let same : take 2 (take (n + m) (take n a ++ q)) ≡ take 2 a = take-take 2 (n + m) (take n a ++ q) (omega arith) ∙ take-append-le 2 (take n a) q (omega arith) ∙ take-take 2 n a (omega arith) in
    omega (arith, same_width (take (n + m) (take n a ++ q)) a same, not_short a f)

-- the lent bytes hold what was read
pub read_long : (n : ℕ) (bytes bytes₀ : List ℕ) → n ≤ record_width (take n bytes) → length bytes ≡ length bytes₀ → long_width ≡ length bytes₀ → length (take n bytes) ≡ n
read_long n bytes bytes₀ h k e = length-take-le n bytes (omega (arith, (widths (take n bytes)).1))
