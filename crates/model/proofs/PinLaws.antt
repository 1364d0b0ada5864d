-- Pins: which are held, pins and write pins; the stronger of two; which conflict.
use mathlib.Core.Path.{◌≡◌, refl, sym, ◌∙◌}
use mathlib.Core.Bool.{Bool, true, false, cond, ◌&&◌, ◌||◌, and_comm, or_comm}
use lib.Dec.{ltb}
use Rattle.seq.proofs.Tests.{true_false, not_true_false, not_false_true}
use Rattle.model.specs.declared.Mode.{Mode}
use Rattle.model.specs.declared.Pin.{Pin}
use Rattle.model.specs.declared.Pin.TheVariants.{Absent, Unpinned, Read, Write}
use Rattle.model.specs.Words.{is_held, is_pin, is_write, pin_of, conflict, strength, stronger}

pub pin_held : (p : Pin) → is_pin p ≡ true → is_held p ≡ true
pin_held Absent e = e
pin_held Unpinned e = refl
pin_held Read e = refl
pin_held Write e = refl

pub not_pinned : (p : Pin) → is_held p ≡ false → is_pin p ≡ false
not_pinned p e = not_true_false (is_pin p) (λ w. true_false (sym (pin_held p w) ∙ e))

-- a write pin is a pin
pub write_pin : (p : Pin) → is_write p ≡ true → is_pin p ≡ true
write_pin Absent e = e
write_pin Unpinned e = e
write_pin Read e = refl
write_pin Write e = refl

pub write_held : (p : Pin) → is_write p ≡ true → is_held p ≡ true
write_held p e = pin_held p (write_pin p e)

pub not_written : (p : Pin) → is_pin p ≡ false → is_write p ≡ false
not_written p e = not_true_false (is_write p) (λ w. true_false (sym (write_pin p w) ∙ e))

pub mode_held : (mode : Mode) → is_held (pin_of mode) ≡ true
mode_held Mode.Read = refl
mode_held Mode.Write = refl

pub mode_pin : (mode : Mode) → is_pin (pin_of mode) ≡ true
mode_pin Mode.Read = refl
mode_pin Mode.Write = refl

-- the stronger of two pins is one of them
pub stronger_is : (P : Pin → Type 0) (p q : Pin) → P p → P q → P (stronger p q)
unfolding stronger
stronger_is P p q a b = go (ltb (strength p) (strength q))
  where
    go : (x : Bool) → P (cond x q p)
    go true = b
    go false = a

-- a pin conflicts only with pins
pub no_two_pins : (p q : Pin) → (is_pin p ≡ true → is_pin q ≡ true → ⊥) → conflict p q ≡ false
unfolding conflict
no_two_pins p q f = go (is_pin p) (is_pin q) refl refl
  where
    go : (a b : Bool) → is_pin p ≡ a → is_pin q ≡ b → is_pin p && is_pin q && (is_write p || is_write q) ≡ false
    go true true d e = absurd (f d e)
    go true false d e = rw (d, e)
    go false b d e = rw d

pub no_pin : (p q : Pin) → is_pin q ≡ false → conflict p q ≡ false
no_pin p q e = no_two_pins p q (λ _ w. true_false (sym w ∙ e))

pub conflict_pin : (p q : Pin) → conflict p q ≡ true → is_pin q ≡ true
conflict_pin p q e = not_false_true (is_pin q) (λ n. true_false (sym e ∙ no_pin p q n))

pub conflict_comm : (p q : Pin) → conflict p q ≡ conflict q p
unfolding conflict
conflict_comm p q = rw (and_comm (is_pin p) (is_pin q), or_comm (is_write p) (is_write q))
