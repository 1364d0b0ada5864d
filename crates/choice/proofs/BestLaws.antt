-- What the best holder of a slot says of all its holders.
use mathlib.Core.Path.{◌≡◌, refl, sym, ◌∙◌, ap}
use mathlib.Core.Bool.{Bool, true, false, ◌&&◌, ◌||◌, not}
use Prim.Native.Nat.{ℕ, ◌<◌}
use native.Mathlib.Omega.{arith}
use borrow.Author.Tests.{ltb-true, ltb-false, leb-true, le-leb, eqb-true, eq-eqb}
use lib.Dec.{leb, ltb, eqb}
use Rattle.seq.specs.Below.{any_below}
use Rattle.seq.specs.declared.Found.{Found}
use Rattle.seq.specs.declared.Found.TheVariants.{At, Nowhere}
use Rattle.seq.proofs.Tests.{true_false, not_true_false, and_true, both_true, and_false_right, same_truth}
use Rattle.seq.proofs.BelowLaws.{none_any, any_hit, hit_any, any_same, all_each, each_all}
use Rattle.seq.proofs.PickLaws.{pick_none}
use Rattle.model.specs.declared.State.{State}
use Rattle.model.specs.Parties.{level_of}
use Rattle.model.specs.State.{holding_at}
use Rattle.model.specs.Words.{holds, pins, seen_holder, seen, outranks, best_holder}
use Rattle.model.proofs.PinLaws.{pin_held}
use Rattle.model.proofs.PriorityLaws.{outranks_weak}
use Rattle.model.proofs.SeenLaws.{seen_by, by_seen, none_seen}
use Rattle.rules.specs.Choice.{held_above, pinned_at, held_at_own_level, seen_pin}
use Rattle.rules.proofs.Choosing.ChoiceRank.{best_held, best_unbeaten, best_some, best_level}
use Rattle.choice.specs.Inner.Summary.{rank_in, holders_at, holders_below, above, beside}
use Rattle.choice.specs.Inner.Search.{held_so}

module _ (s : State) (i : ℕ) where
  pub holders_at_lem : (f : Found) → best_holder s i ≡ f → holders_below s i 32 ≡ holders_at s i 32 f
  unfolding holders_below best_holder
  holders_at_lem f e = ap (holders_at s i 32) e

  none : best_holder s i ≡ Nowhere → (r : ℕ) → r < 32 → holds s i r ≡ false
  unfolding best_holder
  none e r h = pick_none (holds s i) (outranks s) 32 r e h

  pub held_best : any_below 32 (holds s i) ≡ true → (b : ℕ) × (best_holder s i ≡ At b)
  held_best e = let x = any_hit (holds s i) 32 e in best_some s i x.0 x.1 x.2

  best_any : (b : ℕ) → best_holder s i ≡ At b → any_below 32 (holds s i) ≡ true
  best_any b e = hit_any (holds s i) 32 b (best_held s i b e).0 (best_held s i b e).1

  pub held_is : (f : Found) → best_holder s i ≡ f → held_so (holders_at s i 32 f) (λ w. true) ≡ any_below 32 (holds s i)
  held_is Nowhere e = sym (none_any (holds s i) 32 (none e))
  held_is (At b) e = sym (best_any b e)

  -- the seen holders are all of the requester's level and none better than the requester, where that is so of the best holder
  module _ (me b : ℕ) (e : best_holder s i ≡ At b) where
    beside_all : eqb (level_of b) (level_of me) ≡ true → outranks s b me ≡ false → held_at_own_level s me i ≡ true
    unfolding held_at_own_level seen_holder
    beside_all l o =
        let k = eqb-true (level_of b) (level_of me) l in
        both_true (by_seen s (level_of me) i b (best_held s i b e).0 (omega arith) (best_held s i b e).1) (each_all _ 32 (λ r h. go r h (leb (level_of r) (level_of me)) (holds s i r) refl refl))
      where
        behind : (r : ℕ) → r < 32 → holds s i r ≡ true → outranks s r me ≡ false
        behind r h q = not_true_false (outranks s r me) (λ t. true_false (sym (outranks_weak s r b me (best_unbeaten s i b r e h q) t) ∙ o))

        go : (r : ℕ) → r < 32 → (x y : Bool) → leb (level_of r) (level_of me) ≡ x → holds s i r ≡ y
            → not (leb (level_of r) (level_of me) && holds s i r) || (eqb (level_of r) (level_of me) && not (outranks s r me)) ≡ true
        go r h false y u v = rw u
        go r h true false u v = rw (u, v)
        go r h true true u v =
            let k = eqb-true (level_of b) (level_of me) l in
            let n = best_level s i b r e h v in
            let j = leb-true (level_of r) (level_of me) u in
            rw (u, v, eq-eqb (level_of r) (level_of me) (omega arith), behind r h v)

    all_beside : held_at_own_level s me i ≡ true → eqb (level_of b) (level_of me) && not (outranks s b me) ≡ true
    unfolding held_at_own_level seen_holder
    all_beside h =
        let p = and_true (seen s (level_of me) i) _ h in
        let q = seen_by s (level_of me) i p.0 in
        let k = best_level s i b q.0 e q.1 q.3 in
        let j = q.2 in
        rw (le-leb (level_of b) (level_of me) (omega arith), (best_held s i b e).1) at (all_each _ 32 b p.1 (best_held s i b e).0)

    pub seen_pin_lem : held_at_own_level s me i ≡ true → pinned_at s (level_of b) i ≡ seen_pin s (level_of me) i
    unfolding pinned_at seen_pin
    seen_pin_lem a = any_same _ _ 32 (λ r h. go r h (pins s i r) refl)
      where
        k : level_of b ≡ level_of me
        k = eqb-true (level_of b) (level_of me) (and_true (eqb (level_of b) (level_of me)) _ (all_beside a)).0

        go : (r : ℕ) → r < 32 → (x : Bool) → pins s i r ≡ x → eqb (level_of r) (level_of b) && pins s i r ≡ leb (level_of r) (level_of me) && pins s i r
        go r h false u = and_false_right (eqb (level_of r) (level_of b)) (pins s i r) u ∙ sym (and_false_right (leb (level_of r) (level_of me)) (pins s i r) u)
        go r h true u =
            let n = best_level s i b r e h (pin_held (holding_at s i r).pin u) in
            ap (λ (x : Bool). x && pins s i r) (same_truth (eqb (level_of r) (level_of b)) (leb (level_of r) (level_of me))
            (λ v. let w = eqb-true (level_of r) (level_of b) v in le-leb (level_of r) (level_of me) (omega (arith, k)))
            (λ v. let w = leb-true (level_of r) (level_of me) v in eq-eqb (level_of r) (level_of b) (omega (arith, k))))

  module _ (me : ℕ) where
    pub above_is : (f : Found) → best_holder s i ≡ f → held_so (holders_at s i 32 f) (above (rank_in s.rows s.places me)) ≡ held_above s me i
    unfolding held_above
    above_is Nowhere e = rw (none_any (holds s i) 32 (none e))
    above_is (At b) e = rw (best_any b e) (go (ltb (level_of me) (level_of b)) refl)
      where
        go : (x : Bool) → ltb (level_of me) (level_of b) ≡ x → ltb (level_of me) (level_of b) ≡ not (seen s (level_of me) i)
        go true x =
            let m = ltb-true (level_of me) (level_of b) x in
            x ∙ ap not (sym (none_seen s (level_of me) i (λ r h k. not_true_false (holds s i r) (λ t. let l = best_level s i b r e h t in absurd (omega arith)))))
        go false x =
            let m = ltb-false (level_of me) (level_of b) x in
            x ∙ ap not (sym (by_seen s (level_of me) i b (best_held s i b e).0 (omega arith) (best_held s i b e).1))

    pub beside_is : (f : Found) → best_holder s i ≡ f → held_so (holders_at s i 32 f) (beside (rank_in s.rows s.places me)) ≡ held_at_own_level s me i
    unfolding held_at_own_level outranks
    beside_is Nowhere e = rw (none_seen s (level_of me) i (λ r h k. none e r h))
    beside_is (At b) e = same_truth (eqb (level_of b) (level_of me) && not (outranks s b me)) (held_at_own_level s me i) to (all_beside me b e)
      where
        to : eqb (level_of b) (level_of me) && not (outranks s b me) ≡ true → held_at_own_level s me i ≡ true
        to h = let p = and_true (eqb (level_of b) (level_of me)) (not (outranks s b me)) h in beside_all me b e p.0 (not_true_false (outranks s b me) (λ t. true_false (sym p.1 ∙ ap not t)))
