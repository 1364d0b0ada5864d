-- A list whose elements are those of another, each replaced by a function of its place and itself, at the end of a loop over the places; and how many
-- elements pass a test.
use mathlib.Core.Path.{◌≡◌, refl, ◌∙◌, sym, ap}
use mathlib.Core.Bool.{Bool, true, false, cond}
use mathlib.Core.List.{List}
use Prim.Native.Nat.{ℕ, zero, suc, ◌+◌, ◌<◌, ◌≤◌}
use native.Mathlib.Omega.{arith}
use borrow.Author.Tests.{lt-ltb}
use lib.Dec.{ltb}
use lib.ListN.{length, get_or, set, take}
use lib.Seq.{ext_get_or, take-length}
use Rattle.std.proofs.Common.{add-one}
use Rattle.std.specs.List.{count_by}
use Rattle.std.proofs.lemmas.Bool.Decides.{nat_tests}
use Rattle.std.proofs.lemmas.List.Sums.{count_by_more_yes, count_by_more_no}
use Rattle.seq.specs.Below.{count_below}
use Rattle.seq.specs.Each.{each}
use Rattle.seq.proofs.EachLaws.{each_length, each_at, set_at}

module _ {A : Type 0} where
  pub each_is : (f : ℕ → A → A) (xs ys : List A) (d : A) (n : ℕ) → length xs ≡ n → length ys ≡ n
      → ((k : ℕ) → k < n → get_or ys k d ≡ f k (get_or xs k d)) → ys ≡ each f xs
  each_is f xs ys d n a b e = ext_get_or d ys (each f xs) (b ∙ sym (each_length f xs ∙ a)) (λ k h. e k (rw b at h) ∙ sym (each_at f xs k d (rw (b, ← a) at h)))

  -- of n elements those below r are replaced
  abbrev pub Turned : (ℕ → A → A) → ℕ → ℕ → A → List A → List A → Type 0
  Turned f r n d xs ys = (k : ℕ) → k < n → get_or ys k d ≡ cond (ltb k r) (f k (get_or xs k d)) (get_or xs k d)

  pub turned_more : (f : ℕ → A → A) (r n : ℕ) (d : A) (xs ys : List A) (y : A) → length ys ≡ n → r < n → Turned f r n d xs ys → y ≡ f r (get_or ys r d) → Turned f (r + 1) n d xs (set ys r y)
  turned_more f r n d xs ys y l b e v k h = grind (arith, nat_tests, e k h, e r b, set_at ys r k y d)

  pub turned_all : (f : ℕ → A → A) (r n : ℕ) (d : A) (xs ys : List A) → length xs ≡ n → length ys ≡ n → n ≤ r → Turned f r n d xs ys → ys ≡ each f xs
  turned_all f r n d xs ys a b h e = each_is f xs ys d n a b (λ k m. e k m ∙ rw (lt-ltb k r (omega arith)))

  counted : (p : A → Bool) (xs : List A) (d : A) (i : ℕ) (b : Bool) → i < length xs → p (get_or xs i d) ≡ b → count_by p (take (i + 1) xs) ≡ count_by p (take i xs) + cond b 1 0
  counted p xs d i true h e = omega (arith, count_by_more_yes p xs i d h e)
  counted p xs d i false h e = omega (arith, count_by_more_no p xs i d h e)

  pub count_is : (p : A → Bool) (xs : List A) (d : A) → count_by p xs ≡ count_below (length xs) (λ k. p (get_or xs k d))
  unfolding count_below
  count_is p xs d = ap (count_by p) (sym (take-length xs)) ∙ go (length xs) (omega arith)
    where
      go : (i : ℕ) → i ≤ length xs → count_by p (take i xs) ≡ count_below i (λ k. p (get_or xs k d))
      go zero h = refl
      go (suc i) h = rw (add-one, go i (omega arith)) at (counted p xs d i (p (get_or xs i d)) (omega arith) refl)
