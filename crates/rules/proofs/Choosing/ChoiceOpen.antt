-- Where a slot is open to a clearance at or above the requester's level, the chosen slot is one that is open to it.
use mathlib.Core.Path.{◌≡◌, refl, sym, ◌∙◌}
use mathlib.Core.Bool.{Bool, true, false}
use Prim.Native.Nat.{ℕ, ◌<◌, ◌≤◌}
use native.Mathlib.Omega.{arith}
use native.Mathlib.Decide.{dec_lt}
use borrow.Author.Tests.{eqb-true}
use lib.Dec.{eqb}
use Rattle.seq.specs.Below.{any_below}
use Rattle.seq.specs.declared.Found.{Found}
use Rattle.seq.specs.declared.Found.TheVariants.{At, Nowhere}
use Rattle.seq.proofs.Tests.{true_false, not_true_false, parts}
use Rattle.seq.proofs.BelowLaws.{any_hit}
use Rattle.seq.proofs.PairLaws.{most_bound}
use Rattle.model.specs.declared.State.{State}
use Rattle.model.specs.Parties.{level_of}
use Rattle.model.specs.Words.{holds, seen}
use Rattle.model.proofs.SeenLaws.{not_seen, none_seen, seen_lower, dormant_unheld}
use Rattle.rules.specs.Choice.{step_a, step_b, holder_level, held_above, highest_level, in_c, in_d, step_held, chosen}
use Rattle.rules.specs.SoundFacts.{Sound}
use Rattle.rules.proofs.Facts.SoundFacts.{empty_unheld}
use Rattle.rules.proofs.Choosing.ChoiceSteps.{Finds, finds, or_finds, neither, step_a_lem, no_step_a, step_b_lem, no_step_b, step_held_lem, c_or_d}
use Rattle.rules.proofs.Choosing.ChoiceRank.{best_held, best_some, best_level, holder_level_lem}

module _ (s : State) (z : Sound s) (L me : ℕ) (low : level_of me ≤ L) where
  OpenSlot : ℕ → Type 0
  OpenSlot i = (i < s.size) × (seen s L i ≡ false)

  a_open : (i : ℕ) → step_a s ≡ At i → OpenSlot i
  unfolding OpenSlot
  a_open i e =
      let x = step_a_lem s i e in
      (x.0, none_seen s L i (λ r b _. empty_unheld s z i r (omega (arith, x.0, z.size_most)) b x.1))

  b_open : (i : ℕ) → step_b s ≡ At i → OpenSlot i
  unfolding OpenSlot
  b_open i e =
      let x = step_b_lem s i e in
      (x.0, none_seen s L i (λ r b _. dormant_unheld s i x.1 r b))

  -- a slot whose best holder is above the clearance
  above_open : (i : ℕ) → i < s.size → L < holder_level s i → OpenSlot i
  unfolding OpenSlot
  above_open i h l = (
    h,
    none_seen s L i (λ r b m. not_true_false (holds s i r) (λ q.
        let k = best_some s i r b q in
        let w = holder_level_lem s i k.0 k.1 in
        let v = best_level s i k.0 r k.1 b q in
        let bad : ⊥ = omega arith in
        bad)),
  )

  held_open : (some : ℕ → Bool) (i : ℕ) → step_held s some ≡ At i → (some i ≡ true → L < holder_level s i) → OpenSlot i
  held_open some i e f =
      let x = step_held_lem s some i e in
      above_open i x.0 (f x.1)

  -- a slot that is open and held
  module _ (x : ℕ) (b : x < s.size) (o : seen s L x ≡ false) (h : any_below 32 (holds s x) ≡ true) where
    above : held_above s me x ≡ true
    unfolding held_above
    above = rw (h, seen_lower s L (level_of me) x low o)

    above_level : L < holder_level s x
    above_level =
        let r = any_hit (holds s x) 32 h in
        let k = best_some s x r.0 r.1 r.2 in
        let w = best_held s x k.0 k.1 in
        let v = holder_level_lem s x k.0 k.1 in
        elim (dec_lt L (level_of k.0)) [
          | yes l ↦ omega arith
          | no l ↦ true_false (sym w.1 ∙ not_seen s L x k.0 o w.0 (omega arith))
        ]

    high : L < highest_level s me
    unfolding highest_level
    high = let m = most_bound s.size (held_above s me) (holder_level s) x b above in omega (arith, above_level)

    -- what passes c or d has its best holder at the highest level
    top_open : (i : ℕ) → eqb (holder_level s i) (highest_level s me) ≡ true → L < holder_level s i
    top_open i q = omega (arith, eqb-true (holder_level s i) (highest_level s me) q, high)

    c_open : (i : ℕ) → in_c s me i ≡ true → L < holder_level s i
    unfolding in_c
    c_open i e = top_open i (search parts depth 20)

    d_open : (i : ℕ) → in_d s me i ≡ true → L < holder_level s i
    unfolding in_d
    d_open i e = top_open i (search parts depth 20)

  -- what is chosen is open to the clearance: c or d finds a slot, so that e and f are not reached
  open_found : (x : ℕ) → x < s.size → seen s L x ≡ false → Finds OpenSlot (chosen s me)
  unfolding chosen
  open_found x b o =
      or_finds OpenSlot (step_a s) _ (finds OpenSlot (step_a s) a_open) λ ea.
      or_finds OpenSlot (step_b s) _ (finds OpenSlot (step_b s) b_open) λ eb.
      let h = no_step_b s x eb b (no_step_a s x ea b) in
      let c = finds OpenSlot (step_held s (in_c s me)) (λ i e. held_open (in_c s me) i e (c_open x b o h i)) in
      let d = finds OpenSlot (step_held s (in_d s me)) (λ i e. held_open (in_d s me) i e (d_open x b o h i)) in
      let past : (f : Found) → step_held s (in_c s me) ≡ Nowhere → step_held s (in_d s me) ≡ Nowhere → Finds OpenSlot f = λ f ec ed. absurd (c_or_d s me x b (above x b o h) ec ed) in
      search (or_finds, past) depth 20

  pub chosen_open : (x : ℕ) → x < s.size → seen s L x ≡ false → (i : ℕ) × (chosen s me ≡ At i) × ((i < s.size) × (seen s L i ≡ false))
  unfolding chosen OpenSlot
  chosen_open x b o = go (chosen s me) refl (open_found x b o)
    where
      go : (f : Found) → chosen s me ≡ f → Finds OpenSlot f → (i : ℕ) × (chosen s me ≡ At i) × ((i < s.size) × (seen s L i ≡ false))
      go (At i) e k = (i, e, k)
      go Nowhere e k =
          let h = no_step_b s x (search neither depth 20) b (no_step_a s x (search neither depth 20) b) in
          absurd (c_or_d s me x b (above x b o h) (search neither depth 20) (search neither depth 20))
