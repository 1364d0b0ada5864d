-- The slot chosen for a row is held by no row of a level below its own.
use mathlib.Core.Path.{◌≡◌, refl, sym}
use mathlib.Core.Bool.{Bool, true, false, ◌&&◌, ◌||◌, not}
use Prim.Native.Nat.{ℕ, ◌<◌, ◌≤◌}
use native.Mathlib.Omega.{arith}
use borrow.Author.Tests.{not-true, le-leb, ne_eqb}
use lib.Dec.{leb, eqb}
use Rattle.seq.specs.declared.Found.TheVariants.{At}
use Rattle.seq.proofs.Tests.{true_false, parts}
use Rattle.seq.proofs.BelowLaws.{all_each}
use Rattle.model.specs.declared.State.{State}
use Rattle.model.specs.Parties.{level_of}
use Rattle.model.specs.State.{slot_at}
use Rattle.model.specs.Words.{is_filled, holds, seen_holder, seen, outranks}
use Rattle.model.proofs.SeenLaws.{not_seen, dormant_unheld}
use Rattle.rules.specs.Choice.{held_above, held_at_own_level, in_e, in_f, chosen}
use Rattle.rules.specs.SoundFacts.{Sound}
use Rattle.rules.proofs.Facts.SoundFacts.{empty_unheld}
use Rattle.rules.proofs.Choosing.ChoiceSteps.{chosen_is}

-- no row of the level or a lower one holds the slot
abbrev pub Unheld : ℕ → State → ℕ → Type 0
Unheld L s slot = (r : ℕ) → r < 32 → level_of r ≤ L → holds s slot r ≡ false

pub unseen_unheld : (L M : ℕ) (s : State) (slot : ℕ) → L ≤ M → seen s M slot ≡ false → Unheld L s slot
unseen_unheld L M s slot h e r b l = not_seen s M slot r e b (omega arith)

module _ (L : ℕ) (s : State) (z : Sound s) (me : ℕ) (higher : L < level_of me) where
  unfilled : (slot : ℕ) → slot < s.size → is_filled (slot_at s slot).content ≡ false → Unheld L s slot
  unfilled slot h e r b l = empty_unheld s z slot r (omega (arith, z.size_most)) b e

  above : (slot : ℕ) → held_above s me slot ≡ true → Unheld L s slot
  unfolding held_above
  above slot e = unseen_unheld L (level_of me) s slot (omega arith) (not-true (seen s (level_of me) slot) (search parts depth 20))

  own : (slot : ℕ) → held_at_own_level s me slot ≡ true → Unheld L s slot
  unfolding held_at_own_level seen_holder
  own slot e r b l =
      let k = all_each (λ other. not (leb (level_of other) (level_of me) && holds s slot other) || (eqb (level_of other) (level_of me) && not (outranks s other me))) 32 r (search parts depth 20) b in
      last (holds s slot r) refl (rw (le-leb (level_of r) (level_of me) (omega arith), ne_eqb (level_of r) (level_of me) (λ m. omega arith)) at k)
    where
      last : (h : Bool) → holds s slot r ≡ h → not (holds s slot r) || false ≡ true → holds s slot r ≡ false
      last true q w = true_false (sym (rw q at w))
      last false q w = q

  pub chosen_unheld : (slot : ℕ) → chosen s me ≡ At slot → (slot < s.size) × Unheld L s slot
  unfolding in_e in_f
  chosen_unheld = chosen_is s me (Unheld L s) unfilled (λ i e r b l. dormant_unheld s i e r b) above
      (λ i e. own i (search parts depth 20)) (λ i e. own i (search parts depth 20))
