-- The slots once some rows have lost all their holdings.
use mathlib.Core.Path.{◌≡◌, sym, ◌∙◌}
use mathlib.Core.Bool.{Bool, false, cond, ◌&&◌}
use mathlib.Core.List.{List}
use Prim.Native.Nat.{ℕ, ◌+◌, ◌*◌, ◌<◌}
use lib.ListN.{get_or}
use Rattle.seq.specs.Below.{any_below}
use Rattle.seq.proofs.BelowLaws.{none_any, any_none}
use Rattle.seq.proofs.EachLaws.{each_still}
use Rattle.model.specs.State.{empty_slot, empty_holding, with_clock}
use Rattle.model.specs.Changes.{written, dirtied, released}
use Rattle.model.specs.Inner.Changed.{marked}
use Rattle.model.specs.declared.Slot.{Slot}
use Rattle.model.specs.declared.Holding.{Holding}
use Rattle.model.specs.declared.State.{State}

-- a holding of a marked row on the slot had written the page
abbrev pub wrote : List Bool → ℕ → List Holding → ℕ → Bool
wrote marks clock holdings slot = any_below 32 (λ row. marked marks row && written clock (get_or holdings (slot * 32 + row) empty_holding))

abbrev pub dirtying : List Bool → ℕ → List Holding → ℕ → Slot → Slot
dirtying marks clock holdings slot x = cond (wrote marks clock holdings slot) (dirtied x) x

-- no row is marked
pub unmarked_slots : (s : State) (clock : ℕ) (marks : List Bool) (b : Bool) → b ≡ any_below 32 (marked marks) → b ≡ false → s.slots ≡ (released (marked marks) (with_clock s clock)).slots
unfolding released
unmarked_slots s clock marks b e f =
    let none : (row : ℕ) → row < 32 → marked marks row ≡ false = λ row h. any_none (marked marks) 32 row (sym e ∙ f) h in
    let unwritten : (slot : ℕ) → wrote marks clock s.holdings slot ≡ false =
    λ slot. none_any (λ row. marked marks row && written clock (get_or s.holdings (slot * 32 + row) empty_holding)) 32 (λ row h. rw (none row h)) in
    sym (each_still (dirtying marks clock s.holdings) s.slots empty_slot (λ slot _. rw (unwritten slot)))
