-- What a pin is, and which pins conflict: the words of specs/Taken are the tests of the steps.
use mathlib.Core.Path.{◌≡◌, refl, sym}
use mathlib.Core.Bool.{true}
use mathlib.Core.Logic.{inl, inr}
use Rattle.seq.proofs.Tests.{true_false}
use Rattle.model.specs.declared.Mode.{Mode}
use Rattle.model.specs.declared.Pin.{Pin}
use Rattle.model.specs.declared.Pin.TheVariants.{Absent, Unpinned, Read, Write}
use Rattle.model.specs.Words.{is_held, is_pin, pin_of, conflict}
use Rattle.rules.specs.Taken.{IsPinned, InConflict}

pub is_pinned : (p : Pin) → is_pin p ≡ true → IsPinned p
is_pinned Absent e = true_false (sym e)
is_pinned Unpinned e = true_false (sym e)
is_pinned Read e = inl refl
is_pinned Write e = inr refl

pub conflict_in : (mode : Mode) (p : Pin) → conflict (pin_of mode) p ≡ true → InConflict mode p
unfolding conflict
conflict_in Mode.Read Absent e = true_false (sym e)
conflict_in Mode.Read Unpinned e = true_false (sym e)
conflict_in Mode.Read Read e = true_false (sym e)
conflict_in Mode.Read Write e = inl refl
conflict_in Mode.Write Absent e = true_false (sym e)
conflict_in Mode.Write Unpinned e = true_false (sym e)
conflict_in Mode.Write Read e = inr (refl, refl)
conflict_in Mode.Write Write e = inl refl

pub in_conflict_is : (mode : Mode) (p : Pin) → InConflict mode p → conflict (pin_of mode) p ≡ true
unfolding conflict
in_conflict_is Mode.Read p (inl e) = rw e
in_conflict_is Mode.Write p (inl e) = rw e
in_conflict_is mode p (inr e) = rw (e.0, e.1)

-- who has a pin in conflict holds the slot
pub in_conflict_held : (mode : Mode) (p : Pin) → InConflict mode p → is_held p ≡ true
in_conflict_held mode p (inl e) = rw e
in_conflict_held mode p (inr e) = rw e.0
