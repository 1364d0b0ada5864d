-- Changes of rows above a level, and of what they hold, give a state alike for the level.
use mathlib.Core.Path.{◌≡◌, refl, ◌∙◌, ap}
use mathlib.Core.Bool.{Bool, false, cond}
use Prim.Native.Nat.{ℕ, ◌<◌, ◌≤◌}
use native.Mathlib.Omega.{arith}
use borrow.Author.Tests.{ne_eqb}
use lib.Dec.{eqb}
use Rattle.seq.proofs.Tests.{and_false_right}
use Rattle.std.specs.Prelude.{Option}
use Rattle.model.specs.declared.Cause.{Cause}
use Rattle.model.specs.declared.Mode.{Mode}
use Rattle.model.specs.declared.Row.{Row}
use Rattle.model.specs.declared.State.{State}
use Rattle.model.specs.Parties.{level_of}
use Rattle.model.specs.State.{empty_holding, row_at, holding_at, put_row}
use Rattle.model.specs.Words.{slot_of}
use Rattle.model.specs.Changes.{released, killed, killed_row}
use Rattle.model.specs.Ranges.{Sized}
use Rattle.model.proofs.StateLaws.{row_put}
use Rattle.model.proofs.ChangeLaws.{killed_row_lem, killed_holding, killed_clock, killed_delay, killed_size, released_holding}
use Rattle.rules.specs.Calls.{granted, unpinned_at}
use Rattle.rules.specs.Alike.{Alike}
use Rattle.rules.proofs.Same.AlikeLaws.{alike_still}
use Rattle.rules.proofs.Leaves.PageLaws.{killed_slot_of, released_slot_of}
use Rattle.rules.proofs.Leaves.GrantLaws.{granted_holding, granted_row, granted_row_lem, granted_holding_lem, granted_size, granted_delay, granted_clock, granted_slot_of}
use Rattle.rules.proofs.Leaves.UnpinLaws.{unpinned_holding, unpinned_holding_lem, unpinned_slot_of}

-- rows of different levels differ
pub other_row : (L me r : ℕ) → L < level_of me → level_of r ≤ L → eqb r me ≡ false
other_row L me r a b = ne_eqb r me (λ e. let f : level_of r ≡ level_of me = ap level_of e in omega arith)

module _ (L : ℕ) (s : State) (z : Sized s) where
  module _ (most : s.size ≤ 64) (some : ℕ → Bool) (above : (r : ℕ) → r < 32 → level_of r ≤ L → some r ≡ false) where
    pub killed_hidden : (cause : Cause) → Alike L s (killed some cause s)
    unfolding killed released
    killed_hidden cause = alike_still L s (killed some cause s) (killed_size some cause s) (killed_delay some cause s) (killed_clock some cause s)
        (killed_slot_of some s z most cause)
        (λ r b l. killed_row_lem some s z cause r b ∙ ap (λ (x : Bool). cond x (killed_row cause) (row_at s r)) (above r b l))
        (λ _ _ _. refl)
        (λ i r b l. killed_holding some s z cause i r b ∙ ap (λ (x : Bool). cond x empty_holding (holding_at s i r)) (above r b l))

    pub released_hidden : Alike L s (released some s)
    unfolding released
    released_hidden = alike_still L s (released some s) refl refl refl
        (released_slot_of some s z most)
        (λ r b l. refl)
        (λ _ _ _. refl)
        (λ i r b l. released_holding some s z i r b ∙ ap (λ (x : Bool). cond x empty_holding (holding_at s i r)) (above r b l))

  module _ (me : ℕ) (mine : me < 32) (higher : L < level_of me) where
    pub row_hidden : (x : Row) → Alike L s (put_row s me x)
    unfolding slot_of
    row_hidden x = alike_still L s (put_row s me x) refl refl refl
        (λ page. refl)
        (λ r b l. row_put s z me x r mine ∙ ap (λ (e : Bool). cond e x (row_at s r)) (other_row L me r higher l))
        (λ _ _ _. refl)
        (λ i r b l. refl)

    module _ (slot : ℕ) (there : slot < 64) where
      pub granted_hidden : (mode : Mode) (arrival : ℕ) (back : Option ℕ) → Alike L s (granted s me slot mode arrival back).state
      unfolding granted
      granted_hidden mode arrival back = alike_still L s (granted s me slot mode arrival back).state
          (granted_size s z me slot mine there mode arrival back) (granted_delay s z me slot mine there mode arrival back) (granted_clock s z me slot mine there mode arrival back)
          (granted_slot_of s z me slot mine there mode arrival back)
          (λ r b l. granted_row_lem s z me slot mine there mode arrival back r ∙ ap (λ (e : Bool). cond e (granted_row s me arrival) (row_at s r)) (other_row L me r higher l))
          (λ _ _ _. refl)
          (λ i r b l.
          granted_holding_lem s z me slot mine there mode arrival back i r b
          ∙ ap (λ (e : Bool). cond e (granted_holding s me slot mode arrival) (holding_at s i r)) (and_false_right (eqb i slot) (eqb r me) (other_row L me r higher l)))

      pub unpinned_hidden : Alike L s (unpinned_at s me slot)
      unfolding unpinned_at
      unpinned_hidden = alike_still L s (unpinned_at s me slot) refl refl refl
          (unpinned_slot_of s z me slot mine there)
          (λ r b l. refl)
          (λ _ _ _. refl)
          (λ i r b l.
          unpinned_holding_lem s z me slot mine there i r b
          ∙ ap (λ (e : Bool). cond e (unpinned_holding (holding_at s slot me)) (holding_at s i r)) (and_false_right (eqb i slot) (eqb r me) (other_row L me r higher l)))
