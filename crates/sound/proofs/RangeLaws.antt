-- What `all` answers over a range from 0: a test of the numbers below its end.
use mathlib.Core.Path.{◌≡◌, refl, ◌∙◌, ap}
use mathlib.Core.Bool.{Bool, true, false}
use mathlib.Core.List.{List}
use Prim.Native.Nat.{ℕ, ◌+◌, ◌-◌, ◌<◌}
use native.Mathlib.Omega.{arith}
use lib.ListN.{length, get_or}
use denote.Param.Members.{Mut}
use Rattle.std.specs.Prelude.{Option}
use Rattle.std.specs.Option.{MatchOption}
use Rattle.std.specs.Fn.{Called}
use Rattle.std.specs.Iterator.{YieldsThen}
use Rattle.std.specs.List.{FoldsTo, range_with_len}
use Rattle.std.specs.declared.ops.Range.{Range}
use Rattle.std.proofs.iter.Yields.{nat_range_steps}
use Rattle.std.proofs.lemmas.Iterator.{YieldsList-from_range}
use Rattle.std.proofs.lemmas.List.FromFn.{length-range_with_len, get_or-range_with_len}
use Rattle.seq.specs.Below.{all_below}
use Rattle.seq.proofs.IterLaws.{all_is}

module _ {F : Type 0} (n : ℕ) (p : ℕ → Bool) (f : F) (r : Bool) {g : Mut F (ℕ × Unit {0}) Bool} {s : Range ℕ} (u : Range ℕ) (at : s ≡ record { start = 0; end = n })
    (call : (x : ℕ) (b : Bool) (q : F) → Called g f (x, tt) b q → (q ≡ f) × (b ≡ p x)) where
  here : (k : ℕ) → k < length (range_with_len 0 n) → p (get_or (range_with_len 0 n) k 0) ≡ p k
  here k h = ap p (get_or-range_with_len 0 n k 0 (rw length-range_with_len at h) ∙ (let e : 0 + k ≡ k = omega arith in e))

  pub all_range : (zs : List ℕ) × (o : Option ℕ) × (j : F) × YieldsThen nat_range_steps s zs o u × FoldsTo (λ p x q. Called g p (x, tt) true q) f zs j
      × MatchOption o (r ≡ true) (λ x. (r ≡ false) × ((h : F) × Called g j (x, tt) false h)) → r ≡ all_below n p
  all_range ran = all_is u f r p p (YieldsList-from_range 0 n n at (let e : n - 0 ≡ n = omega arith in e)) 0 here call ran ∙ rw (length-range_with_len 0 n) refl
