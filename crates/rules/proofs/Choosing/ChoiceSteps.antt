-- What the steps of the choice find: where each finds a slot, and where it finds none.
use mathlib.Core.Path.{◌≡◌, refl}
use mathlib.Core.Bool.{Bool, true, false, not}
use Prim.Native.Nat.{ℕ, ◌<◌}
use borrow.Author.Tests.{eq-eqb, not-true, not-false}
use Rattle.seq.specs.Below.{any_below}
use Rattle.seq.specs.declared.Found.{Found}
use Rattle.seq.specs.declared.Found.TheVariants.{At, Nowhere}
use Rattle.seq.proofs.Tests.{true_false, parts}
use Rattle.seq.proofs.PickLaws.{at_nowhere, pick_is, pick_none}
use Rattle.seq.proofs.PairLaws.{most_at}
use Rattle.model.specs.declared.State.{State}
use Rattle.model.specs.State.{slot_at}
use Rattle.model.specs.Words.{is_filled, holds, dormant}
use Rattle.rules.specs.Choice.{or_else, step_a, step_b, before_dormant, holder_level, held_above, highest_level, pinned_at, in_c, in_d, in_e, in_f, before_held, step_held, chosen}

-- a property of what a search found, if it found anything
abbrev pub Finds : (ℕ → Type 0) → Found → Type 0
Finds P Nowhere = Unit
Finds P (At i) = P i

pub finds : (P : ℕ → Type 0) (f : Found) → ((i : ℕ) → f ≡ At i → P i) → Finds P f
finds P Nowhere k = tt
finds P (At i) k = k i refl

-- one search or else another, where the first found nothing
pub or_finds : (P : ℕ → Type 0) (f g : Found) → Finds P f → (f ≡ Nowhere → Finds P g) → Finds P (or_else f g)
or_finds P Nowhere g a b = b refl
or_finds P (At i) g a b = a

pub neither_first : (f g : Found) → or_else f g ≡ Nowhere → f ≡ Nowhere
neither_first Nowhere g e = refl
neither_first (At i) g e = at_nowhere e

pub neither_second : (f g : Found) → or_else f g ≡ Nowhere → g ≡ Nowhere
neither_second Nowhere g e = e
neither_second (At i) g e = at_nowhere e

-- each search that found nothing: `search neither`
pub ruleset neither = (neither_first, neither_second)

module _ (s : State) where
  pub step_a_lem : (i : ℕ) → step_a s ≡ At i → (i < s.size) × (is_filled (slot_at s i).content ≡ false)
  unfolding step_a
  step_a_lem i e =
      let x = pick_is (λ slot. not (is_filled (slot_at s slot).content)) (λ j k. false) s.size i e in
      (x.0, not-true (is_filled (slot_at s i).content) x.1)

  pub no_step_a : (i : ℕ) → step_a s ≡ Nowhere → i < s.size → is_filled (slot_at s i).content ≡ true
  unfolding step_a
  no_step_a i e h = not-false (is_filled (slot_at s i).content) (pick_none (λ slot. not (is_filled (slot_at s slot).content)) (λ j k. false) s.size i e h)

  pub step_b_lem : (i : ℕ) → step_b s ≡ At i → (i < s.size) × (dormant s i ≡ true)
  unfolding step_b
  step_b_lem i e = pick_is (dormant s) (before_dormant s) s.size i e

  pub no_step_b : (i : ℕ) → step_b s ≡ Nowhere → i < s.size → is_filled (slot_at s i).content ≡ true → any_below 32 (holds s i) ≡ true
  unfolding step_b dormant
  no_step_b i e h f =
      let x = pick_none (dormant s) (before_dormant s) s.size i e h in
      not-false (any_below 32 (holds s i)) (rw f at x)

  -- c to f
  pub step_held_lem : (some : ℕ → Bool) (i : ℕ) → step_held s some ≡ At i → (i < s.size) × (some i ≡ true)
  unfolding step_held
  step_held_lem some i e = pick_is some (before_held s) s.size i e

  module _ (me : ℕ) where
    pub in_c_lem : (i : ℕ) → in_c s me i ≡ true → held_above s me i ≡ true
    unfolding in_c
    in_c_lem i e = search parts depth 20

    pub in_d_lem : (i : ℕ) → in_d s me i ≡ true → held_above s me i ≡ true
    unfolding in_d
    in_d_lem i e = search parts depth 20

    -- where a slot is held only above the requester's level, c or d finds one
    pub c_or_d : (x : ℕ) → x < s.size → held_above s me x ≡ true → step_held s (in_c s me) ≡ Nowhere → step_held s (in_d s me) ≡ Nowhere → ⊥
    unfolding step_held in_c in_d highest_level
    c_or_d x b above c d =
        let k = most_at s.size (held_above s me) (holder_level s) x b above in
        let u = pick_none (in_c s me) (before_held s) s.size k.0 c k.1 in
        let v = pick_none (in_d s me) (before_held s) s.size k.0 d k.1 in
        go k.0 k.2 k.3 (pinned_at s (highest_level s me) k.0) refl u v
      where
        go : (i : ℕ) → held_above s me i ≡ true → holder_level s i ≡ highest_level s me → (p : Bool) → pinned_at s (highest_level s me) i ≡ p → in_c s me i ≡ false → in_d s me i ≡ false → ⊥
        go i a q true w u v = true_false (simp (a, q, w, eq-eqb) at v)
        go i a q false w u v = true_false (simp (a, q, w, eq-eqb) at u)

    -- a property of the chosen slot, by the step that found it
    pub chosen_is : (P : ℕ → Type 0) → ((i : ℕ) → i < s.size → is_filled (slot_at s i).content ≡ false → P i) → ((i : ℕ) → dormant s i ≡ true → P i)
        → ((i : ℕ) → held_above s me i ≡ true → P i) → ((i : ℕ) → in_e s me i ≡ true → P i) → ((i : ℕ) → in_f s me i ≡ true → P i)
        → (i : ℕ) → chosen s me ≡ At i → (i < s.size) × P i
    unfolding chosen
    chosen_is P a b cd f g i e =
        let Q : ℕ → Type 0 = λ j. (j < s.size) × P j in
        let s-a = finds Q (step_a s) (λ j q. let x = step_a_lem j q in (x.0, a j x.0 x.1)) in
        let s-b = finds Q (step_b s) (λ j q. let x = step_b_lem j q in (x.0, b j x.1)) in
        let s-c = held (in_c s me) (λ j q. cd j (in_c_lem j q)) in
        let s-d = held (in_d s me) (λ j q. cd j (in_d_lem j q)) in
        let s-e = held (in_e s me) f in
        let s-f = held (in_f s me) g in
        let all : Finds Q (chosen s me) = search or_finds depth 20 in
        rw e at all
      where
        held : (some : ℕ → Bool) → ((j : ℕ) → some j ≡ true → P j) → Finds (λ j. (j < s.size) × P j) (step_held s some)
        held some h = finds (λ j. (j < s.size) × P j) (step_held s some) (λ j q. let x = step_held_lem some j q in (x.0, h j x.1))
