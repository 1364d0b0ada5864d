-- The chosen slot is one of those started with, and the requester has no pin on it.
use mathlib.Core.Path.{◌≡◌}
use mathlib.Core.Bool.{true, false, ◌&&◌}
use Prim.Native.Nat.{ℕ, ◌<◌}
use native.Mathlib.Omega.{arith}
use borrow.Author.Tests.{le-leb, not-true}
use lib.Dec.{leb}
use Rattle.seq.specs.Below.{any_below}
use Rattle.seq.specs.declared.Found.TheVariants.{At}
use Rattle.seq.proofs.Tests.{parts}
use Rattle.seq.proofs.BelowLaws.{any_none}
use Rattle.model.specs.declared.State.{State}
use Rattle.model.specs.Parties.{level_of}
use Rattle.model.specs.State.{holding_at}
use Rattle.model.specs.Words.{pins, seen}
use Rattle.model.proofs.PinLaws.{not_pinned}
use Rattle.model.proofs.SeenLaws.{not_seen, dormant_unheld}
use Rattle.rules.specs.Choice.{held_above, seen_pin, in_e, in_f, chosen}
use Rattle.rules.specs.SoundFacts.{Sound}
use Rattle.rules.proofs.Facts.SoundFacts.{empty_unheld}
use Rattle.rules.proofs.Choosing.ChoiceSteps.{chosen_is}

module _ (s : State) (row : ℕ) (b : row < 32) (h : Sound s) where
  above : (slot : ℕ) → held_above s row slot ≡ true → pins s slot row ≡ false
  unfolding held_above
  above slot e = not_pinned (holding_at s slot row).pin (not_seen s (level_of row) slot row (not-true (seen s (level_of row) slot) (search parts depth 20)) b (omega arith))

  in_e_lem : (slot : ℕ) → in_e s row slot ≡ true → pins s slot row ≡ false
  unfolding in_e seen_pin
  in_e_lem slot e =
      rw (le-leb (level_of row) (level_of row) (omega arith)) at
      (any_none (λ r. leb (level_of r) (level_of row) && pins s slot r) 32 row (not-true (any_below 32 (λ r. leb (level_of r) (level_of row) && pins s slot r)) (search parts depth 20)) b)

  in_f_lem : (slot : ℕ) → in_f s row slot ≡ true → pins s slot row ≡ false
  unfolding in_f
  in_f_lem slot e = not-true (pins s slot row) (search parts depth 20)

  pub chosen_free : (slot : ℕ) → chosen s row ≡ At slot → (slot < s.size) × (pins s slot row ≡ false)
  chosen_free = chosen_is s row (λ slot. pins s slot row ≡ false)
      (λ i g u. not_pinned (holding_at s i row).pin (empty_unheld s h i row (omega (arith, g, h.size_most)) b u))
      (λ i d. not_pinned (holding_at s i row).pin (dormant_unheld s i d row b))
      above in_e_lem in_f_lem
