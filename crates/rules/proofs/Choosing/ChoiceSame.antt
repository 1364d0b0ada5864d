-- Two alike states in which L sees every slot: the slots chosen have the same page, or none is chosen in either.
use mathlib.Core.Path.{◌≡◌, ◌∙◌, ap}
use mathlib.Core.Bool.{Bool, true, false, not}
use Prim.Native.Nat.{ℕ, ◌<◌, ◌≤◌}
use native.Mathlib.Omega.{arith}
use Rattle.seq.specs.Below.{any_below}
use Rattle.seq.specs.declared.Found.{Found}
use Rattle.seq.specs.declared.Found.TheVariants.{At, Nowhere}
use Rattle.seq.proofs.Tests.{parts}
use Rattle.seq.proofs.PickLaws.{none_pick}
use Rattle.seq.proofs.PairLaws.{Paired, Both, pick_paired, most_least, most_paired}
use Rattle.model.specs.declared.State.{State}
use Rattle.model.specs.Parties.{level_of}
use Rattle.model.specs.State.{slot_at}
use Rattle.model.specs.Words.{is_filled, holds, seen, dormant}
use Rattle.model.proofs.SeenLaws.{seen_by, seen_held}
use Rattle.rules.specs.Choice.{or_else, step_a, step_b, before_dormant, holder_level, held_above, highest_level, pinned_at, in_c, in_d, held_at_own_level, in_e, in_f, before_held, step_held, chosen}
use Rattle.rules.specs.SoundFacts.{Sound}
use Rattle.rules.specs.Alike.{Alike}
use Rattle.rules.proofs.Same.AlikeLaws.{alike_sym}
use Rattle.rules.proofs.Same.SameSlots.{SamePage, same_page_back, same_page_slot}
use Rattle.rules.proofs.Choosing.ChoiceOrder.{held_order}
use Rattle.rules.proofs.Choosing.ChoicePages.{page_pins, page_pinned, page_seen_pin, page_own, page_level, page_above, page_before}

or_paired : (R : ℕ → ℕ → Type 0) (f g f' g' : Found) → Paired R f g → Paired R f' g' → Paired R (or_else f f') (or_else g g')
or_paired R Nowhere Nowhere f' g' p q = q
or_paired R Nowhere (At j) f' g' p q = absurd p
or_paired R (At i) Nowhere f' g' p q = absurd p
or_paired R (At i) (At j) f' g' p q = p

-- L sees every slot
abbrev pub SeesAll : ℕ → State → Type 0
SeesAll L s = (i : ℕ) → i < s.size → seen s L i ≡ true

module _ (L : ℕ) (s : State) (z : Sound s) (all : SeesAll L s) where
  -- no slot is empty or dormant
  all_filled : (i : ℕ) → i < s.size → is_filled (slot_at s i).content ≡ true
  all_filled i b = let x = seen_by s L i (all i b) in (z.held i x.0 (omega (arith, z.size_most)) x.1 x.3).filled

  no_a : step_a s ≡ Nowhere
  unfolding step_a
  no_a = none_pick (λ slot. not (is_filled (slot_at s slot).content)) (λ i j. false) s.size (λ i b. ap not (all_filled i b))

  no_b : step_b s ≡ Nowhere
  unfolding step_b dormant
  no_b = none_pick (dormant s) (before_dormant s) s.size (λ i b. rw (all_filled i b, seen_held s L i (all i b)))

-- only held slots pass the tests of steps c to f
module _ (s : State) (me : ℕ) where
  c_held : (i : ℕ) → in_c s me i ≡ true → any_below 32 (holds s i) ≡ true
  unfolding in_c held_above
  c_held i e = search parts depth 20

  d_held : (i : ℕ) → in_d s me i ≡ true → any_below 32 (holds s i) ≡ true
  unfolding in_d held_above
  d_held i e = search parts depth 20

  e_held : (i : ℕ) → in_e s me i ≡ true → any_below 32 (holds s i) ≡ true
  unfolding in_e held_at_own_level
  e_held i e = seen_held s (level_of me) i (search parts depth 20)

  f_held : (i : ℕ) → in_f s me i ≡ true → any_below 32 (holds s i) ≡ true
  unfolding in_f held_at_own_level
  f_held i e = seen_held s (level_of me) i (search parts depth 20)

module _ (L : ℕ) (s t : State) (z : Sound s) (y : Sound t) (a : Alike L s t) (all : SeesAll L s) (all' : SeesAll L t) (me : ℕ) (r : me < 32) (low : level_of me ≤ L) where
  both : Both s.size t.size (SamePage L s t)
  both = record {
    there = λ i b.
        let x = seen_by s L i (all i b) in
        let w = same_page_slot L s t z y a i x.0 b x.1 x.2 x.3 in
        (w.0, w.1.right, w.1);
    back = λ j b.
        let x = seen_by t L j (all' j b) in
        let w = same_page_slot L t s y z (alike_sym a) j x.0 b x.1 x.2 x.3 in
        (w.0, w.1.right, same_page_back L t s j w.0 w.1);
  }

  above_same : (i j : ℕ) → SamePage L s t i j → held_above s me i ≡ held_above t me j
  above_same i j w = page_above L s t a i j w z (all i w.left) me low

  holder_same : (i j : ℕ) → SamePage L s t i j → holder_level s i ≡ holder_level t j
  holder_same i j w = (page_level L s t a i j w z (all i w.left)).0

  level_same : highest_level s me ≡ highest_level t me
  unfolding highest_level
  level_same = most_paired s.size t.size (SamePage L s t) both (held_above s me) (held_above t me) (holder_level s) (holder_level t) above_same holder_same

  level_most : highest_level s me ≤ L
  unfolding highest_level
  level_most = most_least s.size (held_above s me) (holder_level s) L (λ i b e. (page_level L s t a i (both.there i b).0 (both.there i b).2 z (all i b)).1)

  pinned_same : (i j : ℕ) → SamePage L s t i j → pinned_at s (highest_level s me) i ≡ pinned_at t (highest_level t me) j
  pinned_same i j w = page_pinned L s t a i j w (highest_level s me) level_most ∙ ap (λ (m : ℕ). pinned_at t m j) level_same

  c_same : (i j : ℕ) → SamePage L s t i j → in_c s me i ≡ in_c t me j
  unfolding in_c
  c_same i j w = cc (above_same i j w, holder_same i j w, level_same, pinned_same i j w)

  d_same : (i j : ℕ) → SamePage L s t i j → in_d s me i ≡ in_d t me j
  unfolding in_d
  d_same i j w = cc (above_same i j w, holder_same i j w, level_same, pinned_same i j w)

  e_same : (i j : ℕ) → SamePage L s t i j → in_e s me i ≡ in_e t me j
  unfolding in_e
  e_same i j w = cc (page_own L s t a i j w me r low, page_seen_pin L s t a i j w (level_of me) low)

  f_same : (i j : ℕ) → SamePage L s t i j → in_f s me i ≡ in_f t me j
  unfolding in_f
  f_same i j w = cc (page_own L s t a i j w me r low, page_seen_pin L s t a i j w (level_of me) low, page_pins L s t a i j w me r low)

  held_paired : (p q : ℕ → Bool) → ((i j : ℕ) → SamePage L s t i j → p i ≡ q j) → ((i : ℕ) → p i ≡ true → any_below 32 (holds s i) ≡ true) → ((j : ℕ) → q j ≡ true → any_below 32 (holds t j) ≡ true)
      → Paired (SamePage L s t) (step_held s p) (step_held t q)
  unfolding step_held
  held_paired p q f g h =
      pick_paired s.size t.size (SamePage L s t) both p q (before_held s) (before_held t) f
      (λ i j k l w x _ _. page_before L s t a z i j k l w x (all i w.left) (all k x.left))
      (held_order s z p g) (held_order t y q h)

  pub chosen_paired : Paired (SamePage L s t) (chosen s me) (chosen t me)
  unfolding chosen
  chosen_paired =
      let c = held_paired (in_c s me) (in_c t me) c_same (c_held s me) (c_held t me) in
      let d = held_paired (in_d s me) (in_d t me) d_same (d_held s me) (d_held t me) in
      let e = held_paired (in_e s me) (in_e t me) e_same (e_held s me) (e_held t me) in
      let f = held_paired (in_f s me) (in_f t me) f_same (f_held s me) (f_held t me) in
      rw (no_a L s z all, no_b L s z all, no_a L t y all', no_b L t y all') (search or_paired)
