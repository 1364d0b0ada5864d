-- The best holder of a slot.
use mathlib.Core.Path.{◌≡◌, sym, ◌∙◌}
use mathlib.Core.Bool.{true, false}
use Prim.Native.Nat.{ℕ, ◌<◌, ◌≤◌}
use native.Mathlib.Omega.{arith}
use native.Mathlib.Decide.{dec_lt}
use Rattle.seq.specs.declared.Found.TheVariants.{At}
use Rattle.seq.proofs.Tests.{true_false, not_false_true}
use Rattle.seq.proofs.PickLaws.{pick_is, pick_some, pick_first, first_pick}
use Rattle.model.specs.declared.State.{State}
use Rattle.model.specs.Parties.{level_of}
use Rattle.model.specs.Words.{holds, outranks, best_holder}
use Rattle.model.proofs.PriorityLaws.{outranks_strict, outranks_trans, outranks_level}
use Rattle.rules.specs.Choice.{holder_level}
use Rattle.rules.specs.SoundFacts.{Sound}
use Rattle.rules.proofs.Facts.SoundFacts.{held_taken, ranks_apart}

-- the row holds the slot and outranks its other holders
pub record Best (s : State) (i b : ℕ) : Type 0 where
  pub below : b < 32
  pub held : holds s i b ≡ true
  pub first : (r : ℕ) → r < 32 → holds s i r ≡ true → (r ≡ b → ⊥) → outranks s b r ≡ true

module _ (s : State) (i : ℕ) where
  pub best_held : (b : ℕ) → best_holder s i ≡ At b → (b < 32) × (holds s i b ≡ true)
  unfolding best_holder
  best_held b e = pick_is (holds s i) (outranks s) 32 b e

  -- no holder outranks the best one
  pub best_unbeaten : (b r : ℕ) → best_holder s i ≡ At b → r < 32 → holds s i r ≡ true → outranks s r b ≡ false
  unfolding best_holder
  best_unbeaten b r e h q = pick_first (holds s i) (outranks s) (λ k _. outranks_strict s k) (λ k l m _ _ _. outranks_trans s k l m) 32 b r e h q

  -- in a sound state it outranks the others
  pub best_is : Sound s → i < 64 → (b : ℕ) → best_holder s i ≡ At b → Best s i b
  best_is z n b e =
      let x = best_held b e in
      record {
        below = x.0;
        held = x.1;
        first = λ r h q ne. not_false_true (outranks s b r) (λ w. ne (ranks_apart s z r b h x.0 (held_taken s z i r n h q) (best_unbeaten b r e h q) w));
      }

  pub is_best : (b : ℕ) → Best s i b → best_holder s i ≡ At b
  unfolding best_holder
  is_best b w = first_pick (holds s i) (outranks s) (λ k _. outranks_strict s k) (λ k l m _ _ _. outranks_trans s k l m) 32 b w.below w.held w.first

  pub best_some : (r : ℕ) → r < 32 → holds s i r ≡ true → (b : ℕ) × (best_holder s i ≡ At b)
  unfolding best_holder
  best_some r h q = pick_some (holds s i) (outranks s) 32 r h q

  -- no holder is of a lower level than the best one
  pub best_level : (b r : ℕ) → best_holder s i ≡ At b → r < 32 → holds s i r ≡ true → level_of b ≤ level_of r
  best_level b r e h q = elim (dec_lt (level_of r) (level_of b)) [
    | yes l ↦ true_false (sym (outranks_level s r b l) ∙ best_unbeaten b r e h q)
    | no l ↦ omega arith
  ]

  pub holder_level_lem : (b : ℕ) → best_holder s i ≡ At b → holder_level s i ≡ level_of b
  unfolding holder_level
  holder_level_lem b e = rw e
