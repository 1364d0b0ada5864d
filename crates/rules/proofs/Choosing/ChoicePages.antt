-- Slots of two alike states that have one page, seen by L: what steps c to f ask of them is the same.
use mathlib.Core.Path.{◌≡◌, sym, ◌∙◌, ap}
use mathlib.Core.Bool.{Bool, true, cond, ◌&&◌, ◌||◌, not}
use Prim.Native.Nat.{ℕ, ◌<◌, ◌≤◌}
use native.Mathlib.Omega.{arith}
use native.Mathlib.Decide.{dec_lt}
use borrow.Author.Tests.{leb-true, eqb-true}
use lib.Dec.{leb, eqb}
use Rattle.seq.specs.Below.{all_below}
use Rattle.seq.specs.declared.Found.TheVariants.{At}
use Rattle.seq.proofs.Tests.{and_true, and_when}
use Rattle.seq.proofs.BelowLaws.{any_same, all_same}
use Rattle.seq.proofs.PairLaws.{most_same}
use Rattle.model.specs.declared.Holding.{Holding}
use Rattle.model.specs.declared.State.{State}
use Rattle.model.specs.Parties.{level_of}
use Rattle.model.specs.State.{holding_at}
use Rattle.model.specs.Words.{is_held, is_pin, holds, pins, seen_holder, seen, outranks, best_holder, latest_touch}
use Rattle.model.proofs.PriorityLaws.{outranks_level}
use Rattle.model.proofs.SeenLaws.{seen_by, seen_held}
use Rattle.rules.specs.Choice.{holder_level, held_above, pinned_at, held_at_own_level, seen_pin, worse, touch_of, tie_of, before_held}
use Rattle.rules.specs.SoundFacts.{Sound}
use Rattle.rules.specs.Alike.{Alike}
use Rattle.rules.proofs.Same.SamePages.{same_rank, same_holder, same_seen}
use Rattle.rules.proofs.Same.SameSlots.{SamePage}
use Rattle.rules.proofs.Choosing.ChoiceRank.{Best, best_is, is_best, best_some, best_level, holder_level_lem}
use Rattle.rules.proofs.Choosing.ChoiceOrder.{next_before, before_held_lem}

module _ (L : ℕ) (s t : State) (a : Alike L s t) where
  module _ (i j : ℕ) (w : SamePage L s t i j) where
    pub page_holds : (r : ℕ) → r < 32 → level_of r ≤ L → holds s i r ≡ holds t j r
    page_holds r b l = ap (λ (x : Holding). is_held x.pin) (w.holding r b l)

    pub page_pins : (r : ℕ) → r < 32 → level_of r ≤ L → pins s i r ≡ pins t j r
    page_pins r b l = ap (λ (x : Holding). is_pin x.pin) (w.holding r b l)

    pub page_pinned : (M : ℕ) → M ≤ L → pinned_at s M i ≡ pinned_at t M j
    unfolding pinned_at
    page_pinned M m = any_same (λ r. eqb (level_of r) M && pins s i r) (λ r. eqb (level_of r) M && pins t j r) 32
        (λ r b. and_when (eqb (level_of r) M) (pins s i r) (pins t j r) (λ e. page_pins r b (let l = eqb-true (level_of r) M e in omega arith)))

    pub page_seen_pin : (M : ℕ) → M ≤ L → seen_pin s M i ≡ seen_pin t M j
    unfolding seen_pin
    page_seen_pin M m = any_same (λ r. leb (level_of r) M && pins s i r) (λ r. leb (level_of r) M && pins t j r) 32
        (λ r b. and_when (leb (level_of r) M) (pins s i r) (pins t j r) (λ e. page_pins r b (let l = leb-true (level_of r) M e in omega arith)))

    pub page_touch : (M : ℕ) → M ≤ L → latest_touch s M i ≡ latest_touch t M j
    unfolding latest_touch
    page_touch M m = most_same 32 (λ r. eqb (level_of r) M && holds s i r) (λ r. eqb (level_of r) M && holds t j r) (λ r. (holding_at s i r).touch) (λ r. (holding_at t j r).touch)
        (λ r b. and_when (eqb (level_of r) M) (holds s i r) (holds t j r) (λ e. page_holds r b (let l = eqb-true (level_of r) M e in omega arith)))
        (λ r b e. ap (λ (x : Holding). x.touch) (w.holding r b (let l = eqb-true (level_of r) M (and_true (eqb (level_of r) M) (holds s i r) e).0 in omega arith)))

    pub page_own : (me : ℕ) → me < 32 → level_of me ≤ L → held_at_own_level s me i ≡ held_at_own_level t me j
    unfolding held_at_own_level
    page_own me b l =
        let p : ℕ → Bool = λ o. not (seen_holder s (level_of me) i o) || (eqb (level_of o) (level_of me) && not (outranks s o me)) in
        let q : ℕ → Bool = λ o. not (seen_holder t (level_of me) j o) || (eqb (level_of o) (level_of me) && not (outranks t o me)) in
        let e : all_below 32 p ≡ all_below 32 q = all_same p q 32 (λ o c.
        ap (λ (x : Bool). not x || (eqb (level_of o) (level_of me) && not (outranks s o me))) (same_holder L s t a i j w.holding (level_of me) l o c)
        ∙ ap (λ (x : Bool). not (seen_holder t (level_of me) j o) || x)
        (and_when (eqb (level_of o) (level_of me)) (not (outranks s o me)) (not (outranks t o me)) (λ v. ap not (same_rank L s t a o me c b (let u = eqb-true (level_of o) (level_of me) v in omega arith) l)))) in
        ap (λ (x : Bool). x && all_below 32 p) (same_seen L s t a i j w.holding (level_of me) l) ∙ ap (λ (x : Bool). seen t (level_of me) j && x) e

    -- the best holder is of a level up to L
    module _ (z : Sound s) (v : seen s L i ≡ true) where
      pub page_best : (b : ℕ) × (best_holder s i ≡ At b) × (best_holder t j ≡ At b) × (b < 32) × (level_of b ≤ L)
      page_best =
          let x = seen_by s L i v in
          let k = best_some s i x.0 x.1 x.3 in
          let m = best_is s i z (omega (arith, w.left, z.size_most)) k.0 k.1 in
          let l : level_of k.0 ≤ L = omega (arith, best_level s i k.0 x.0 k.1 x.1 x.3, x.2) in
          (k.0, k.1, is_best t j k.0 (same k.0 m l), m.below, l)
        where
          same : (b : ℕ) → Best s i b → level_of b ≤ L → Best t j b
          same b m l = record {
            below = m.below;
            held = sym (page_holds b m.below l) ∙ m.held;
            first = λ r c h ne. elim (dec_lt L (level_of r)) [
              | yes u ↦ outranks_level t b r (omega arith)
              | no u ↦
                  let lr : level_of r ≤ L = omega arith in
                  sym (same_rank L s t a b r m.below c l lr) ∙ m.first r c (page_holds r c lr ∙ h) ne
            ];
          }

      pub page_level : (holder_level s i ≡ holder_level t j) × (holder_level s i ≤ L)
      page_level =
          let k = page_best in
          let p = holder_level_lem s i k.0 k.1 in
          let q = holder_level_lem t j k.0 k.2 in
          (p ∙ sym q, omega (arith, k.4))

      pub page_above : (me : ℕ) → level_of me ≤ L → held_above s me i ≡ held_above t me j
      unfolding held_above
      page_above me l =
          let p = seen_held s L i v in
          let q = seen_held t L j (sym (same_seen L s t a i j w.holding L (omega arith)) ∙ v) in
          rw (p, q, same_seen L s t a i j w.holding (level_of me) l)

      -- what orders slots with one best holder
      page_touch_of : touch_of s i ≡ touch_of t j
      page_touch_of = page_touch (holder_level s i) page_level.1 ∙ ap (λ (m : ℕ). latest_touch t m j) page_level.0

    page_tie : tie_of s i ≡ tie_of t j
    page_tie = w.page

  -- the order of two slots
  pub page_before : Sound s → (i j k l : ℕ) → SamePage L s t i j → SamePage L s t k l → seen s L i ≡ true → seen s L k ≡ true → before_held s i k ≡ before_held t j l
  page_before z i j k l w x v u =
      let b = page_best i j w z v in
      let c = page_best k l x z u in
      let n : next_before s i k ≡ next_before t j l = cc (page_touch_of i j w z v, page_touch_of k l x z u, page_tie i j w, page_tie k l x) in
      before_held_lem s i k b.0 c.0 b.1 c.1
      ∙ ap (λ (y : Bool). worse s (At b.0) (At c.0) y) n
      ∙ ap (λ (y : Bool). cond (eqb b.0 c.0) (next_before t j l) y) (same_rank L s t a c.0 b.0 c.3 b.3 c.4 b.4)
      ∙ sym (before_held_lem t j l b.0 c.0 b.2 c.2)
