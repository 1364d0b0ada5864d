-- What `all` and `any` answer over a slice, alone or with its places: a test of the numbers below its length.
use mathlib.Core.Path.{◌≡◌, refl, ◌∙◌, sym}
use mathlib.Core.Bool.{Bool, true, false}
use mathlib.Core.List.{List}
use Prim.Native.Nat.{ℕ, ◌+◌, ◌<◌}
use native.Mathlib.Omega.{arith}
use lib.ListN.{length, get_or}
use denote.Param.Members.{Mut}
use Rattle.std.specs.Prelude.{Option}
use Rattle.std.specs.Option.{MatchOption}
use Rattle.std.specs.Bool.{MatchBool}
use Rattle.std.specs.Fn.{Called}
use Rattle.std.proofs.Common.{Iter, Bor}
use Rattle.std.specs.declared.iter.Enumerate.{Enumerate}
use Rattle.std.specs.Slice.Iter.{iter_rest}
use Rattle.std.proofs.iter.Yields.{fronts}
use Rattle.std.specs.Iterator.Adapters.{enumerate_source, enumerate_count, enumerate_steps}
use Rattle.std.proofs.lemmas.Iterator.Consumers.{YieldsList-from_enumerate}
use Rattle.std.proofs.lemmas.List.FromFn.{length-enumerate_from, get_or-enumerate_from}
use Rattle.std.specs.List.{enumerate_from}
use Rattle.std.proofs.lemmas.Iterator.{YieldsList-from_slice}
use Rattle.std.specs.Iterator.{YieldsThen}
use Rattle.std.specs.List.{FoldsTo, AllWithin, HoldsAt}
use Rattle.std.proofs.lemmas.Iterator.{YieldsList, cases_from_all, cases_from_any}
use Rattle.seq.specs.Below.{any_below, all_below}
use Rattle.seq.proofs.BelowLaws.{hit_any, none_any, each_all, fail_all}

module _ {S A B F : Type 0} {steps : S → Option A → S → Type 0} {v : A → B} {g : Mut F (A × Unit {0}) Bool} {s : S} {xs : List B} (u : S) (f : F) (r : Bool) (p : ℕ → Bool) (test : B → Bool)
    (road : YieldsList steps v s xs)
    (d : B) (here : (k : ℕ) → k < length xs → test (get_or xs k d) ≡ p k)
    (call : (x : A) (b : Bool) (q : F) → Called g f (x, tt) b q → (q ≡ f) × (b ≡ test (v x))) where
  pub any_is : (zs : List A) × (o : Option A) × (j : F) × YieldsThen steps s zs o u × FoldsTo (λ p x q. Called g p (x, tt) false q) f zs j
      × MatchOption o (r ≡ false) (λ x. (r ≡ true) × ((h : F) × Called g j (x, tt) true h)) → r ≡ any_below (length xs) p
  any_is ran = go r (cases_from_any u f r (λ y. test y ≡ true) (λ y. test y ≡ false) ran road (λ x q c. sym (call x true q c).1) (λ x q c. let k = call x false q c in (k.0, sym k.1)))
    where
      go : (b : Bool) → MatchBool b ((k : ℕ) × (k < length xs) × HoldsAt (λ y. test y ≡ true) xs k) (AllWithin (λ y. test y ≡ false) xs 0 (length xs)) → b ≡ any_below (length xs) p
      go true m = sym (hit_any p (length xs) m.0 m.1 (sym (here m.0 m.1) ∙ m.2 d))
      go false m = sym (none_any p (length xs) (λ k h. sym (here k h) ∙ m k d (omega arith) h))

  pub all_is : (zs : List A) × (o : Option A) × (j : F) × YieldsThen steps s zs o u × FoldsTo (λ p x q. Called g p (x, tt) true q) f zs j
      × MatchOption o (r ≡ true) (λ x. (r ≡ false) × ((h : F) × Called g j (x, tt) false h)) → r ≡ all_below (length xs) p
  all_is ran = go r (cases_from_all u f r (λ y. test y ≡ true) (λ y. test y ≡ false) ran road (λ x q c. let k = call x true q c in (k.0, sym k.1)) (λ x q c. sym (call x false q c).1))
    where
      go : (b : Bool) → MatchBool b (AllWithin (λ y. test y ≡ true) xs 0 (length xs)) ((k : ℕ) × (k < length xs) × HoldsAt (λ y. test y ≡ false) xs k) → b ≡ all_below (length xs) p
      go true m = sym (each_all p (length xs) (λ k h. sym (here k h) ∙ m k d (omega arith) h))
      go false m = sym (fail_all p (length xs) m.0 m.1 (sym (here m.0 m.1) ∙ m.2 d))

-- a list with its places, at a place
placed_at : {A : Type 0} (xs : List A) (d : A) (test : ℕ → A → Bool) (k : ℕ) → k < length (enumerate_from 0 xs)
    → test (get_or (enumerate_from 0 xs) k (0, d)).0 (get_or (enumerate_from 0 xs) k (0, d)).1 ≡ test k (get_or xs k d)
placed_at xs d test k h = rw (get_or-enumerate_from 0 xs k (0, d) (rw length-enumerate_from at h)) (let e : 0 + k ≡ k = omega arith in rw e refl)

-- over a list xs of n elements: what `xs.iter().any(..)` and `xs.iter().enumerate().any(..)` answer, likewise `all`. An answer reads
-- `returns c = any_slice c.args.xs n LENGTH d _ c.any.result _ test (cc) (λ x b q k. search (rules, tests)) c.any.ensures.ran`, and with places
-- `returns c = any_placed c.args.xs n LENGTH d _ c.any.result _ test (cc) c.enumerate.ensures.count (λ x b q k. search (rules, tests)) c.any.ensures.ran`.
module _ {A F : Type 0} (xs : List A) (n : ℕ) (size : length xs ≡ n) (d : A) (f : F) (r : Bool) where
  module _ {g : Mut F (Bor A × Unit {0}) Bool} {s : Iter A} (u : Iter A) (test : A → Bool) (rest : iter_rest s ≡ xs)
      (call : (x : Bor A) (b : Bool) (q : F) → Called g f (x, tt) b q → (q ≡ f) × (b ≡ test x.now)) where
    pub any_slice : (zs : List (Bor A)) × (o : Option (Bor A)) × (j : F) × YieldsThen fronts s zs o u × FoldsTo (λ p x q. Called g p (x, tt) false q) f zs j
        × MatchOption o (r ≡ false) (λ x. (r ≡ true) × ((h : F) × Called g j (x, tt) true h)) → r ≡ any_below n (λ k. test (get_or xs k d))
    any_slice ran = any_is u f r (λ k. test (get_or xs k d)) test (YieldsList-from_slice xs rest) d (λ k h. refl) call ran ∙ rw size refl

    pub all_slice : (zs : List (Bor A)) × (o : Option (Bor A)) × (j : F) × YieldsThen fronts s zs o u × FoldsTo (λ p x q. Called g p (x, tt) true q) f zs j
        × MatchOption o (r ≡ true) (λ x. (r ≡ false) × ((h : F) × Called g j (x, tt) false h)) → r ≡ all_below n (λ k. test (get_or xs k d))
    all_slice ran = all_is u f r (λ k. test (get_or xs k d)) test (YieldsList-from_slice xs rest) d (λ k h. refl) call ran ∙ rw size refl

  module _ {g : Mut F ((ℕ × Bor A) × Unit {0}) Bool} {s : Enumerate (Iter A)} (u : Enumerate (Iter A)) (test : ℕ → A → Bool) (rest : iter_rest (enumerate_source s) ≡ xs) (start : enumerate_count s ≡ 0)
      (call : (x : ℕ × Bor A) (b : Bool) (q : F) → Called g f (x, tt) b q → (q ≡ f) × (b ≡ test x.0 x.1.now)) where
    pub any_placed : (zs : List (ℕ × Bor A)) × (o : Option (ℕ × Bor A)) × (j : F) × YieldsThen (enumerate_steps fronts) s zs o u × FoldsTo (λ p x q. Called g p (x, tt) false q) f zs j
        × MatchOption o (r ≡ false) (λ x. (r ≡ true) × ((h : F) × Called g j (x, tt) true h)) → r ≡ any_below n (λ k. test k (get_or xs k d))
    any_placed ran = any_is u f r (λ k. test k (get_or xs k d)) (λ p. test p.0 p.1) (YieldsList-from_enumerate (YieldsList-from_slice xs rest) start) (0, d) (placed_at xs d test) call ran
        ∙ rw (length-enumerate_from 0 xs, size) refl

    pub all_placed : (zs : List (ℕ × Bor A)) × (o : Option (ℕ × Bor A)) × (j : F) × YieldsThen (enumerate_steps fronts) s zs o u × FoldsTo (λ p x q. Called g p (x, tt) true q) f zs j
        × MatchOption o (r ≡ true) (λ x. (r ≡ false) × ((h : F) × Called g j (x, tt) false h)) → r ≡ all_below n (λ k. test k (get_or xs k d))
    all_placed ran = all_is u f r (λ k. test k (get_or xs k d)) (λ p. test p.0 p.1) (YieldsList-from_enumerate (YieldsList-from_slice xs rest) start) (0, d) (placed_at xs d test) call ran
        ∙ rw (length-enumerate_from 0 xs, size) refl
