-- When a row may be granted a page, and what the holding is that a grant puts.
use mathlib.Core.Path.{◌≡◌, refl, sym}
use mathlib.Core.Bool.{Bool, true, false}
use Prim.Native.Nat.{ℕ, ◌+◌, ◌<◌, ◌≤◌}
use native.Mathlib.Omega.{arith}
use Rattle.seq.proofs.Tests.{true_false}
use Rattle.model.specs.declared.Mode.{Mode}
use Rattle.model.specs.declared.Content.{Content}
use Rattle.model.specs.declared.Content.TheVariants.{Empty, Filled}
use Rattle.model.specs.declared.Holding.{Holding}
use Rattle.model.specs.declared.State.{State}
use Rattle.model.specs.Parties.{level_of, class_of, allowed, may_access}
use Rattle.model.specs.State.{row_at, slot_at, holding_at}
use Rattle.model.specs.Words.{is_live, is_filled, page_in, arrival_in, lowest_in, is_held, is_pin, pin_of, conflict, holds}
use Rattle.model.proofs.PinLaws.{mode_held, mode_pin, stronger_is}
use Rattle.rules.specs.Sound.{pin_allowed}
use Rattle.rules.specs.Calls.{held_with, with_lowest}
use Rattle.rules.specs.SoundFacts.{Settled, Sound}
use Rattle.rules.proofs.Leaves.GrantLaws.{granted_holding}

-- a row that may ask for a page: idle or waiting
pub record Asking (s : State) (row : ℕ) : Type 0 where
  pub row_is : row < 32
  pub live : is_live (row_at s row).condition ≡ true
  pub settled : Settled s row (row_at s row).deadline

-- when such a row may be granted a slot's page: no other row's pin conflicts, and a holding of its own has arrived
pub record Grantable (s : State) (row slot : ℕ) (mode : Mode) (arrival : ℕ) : Type 0 where
  pub asking : Asking s row
  pub slot_is : slot < 64
  pub filled : is_filled (slot_at s slot).content ≡ true
  pub allowed : may_access s.borders (level_of row) (page_in (slot_at s slot).content) mode ≡ true
  pub least : arrival_in (slot_at s slot).content ≤ arrival
  pub most : arrival ≤ s.clock + s.delay
  pub own : holds s slot row ≡ true → arrival ≤ s.clock
  pub alone : (q : ℕ) → q < 32 → (row ≡ q → ⊥) → conflict (pin_of mode) (holding_at s slot q).pin ≡ false

mode_allowed : (level class : ℕ) (mode : Mode) → allowed level class mode ≡ true → pin_allowed level class (pin_of mode) ≡ true
mode_allowed level class Mode.Read e = e
mode_allowed level class Mode.Write e = e

pub lowest_least : (level : ℕ) (c : Content) → is_filled c ≡ true → lowest_in (with_lowest level c) ≤ level
lowest_least level Empty e = true_false (sym e)
lowest_least level (Filled p a d l) e = omega arith

-- what the new holding is, whether or not the row had one
pub record New (s : State) (row slot arrival : ℕ) (k : Holding) : Type 0 where
  pub held : is_held k.pin ≡ true
  pub allowed : pin_allowed (level_of row) (class_of s.borders (page_in (slot_at s slot).content)) k.pin ≡ true
  pub least : arrival_in (slot_at s slot).content ≤ k.arrival
  pub most : k.arrival ≤ s.clock + s.delay
  pub touch : k.touch ≡ s.clock
  pub alone : (q : ℕ) → q < 32 → (row ≡ q → ⊥) → conflict k.pin (holding_at s slot q).pin ≡ false
  pub arrived : arrival ≤ s.clock → k.arrival ≤ s.clock
  pub coming : s.clock < arrival → (is_pin k.pin ≡ true) × (k.arrival ≡ arrival)

module _ (s : State) (row slot : ℕ) (mode : Mode) (arrival : ℕ) (h : Sound s) (g : Grantable s row slot mode arrival) where
  pub new_is : New s row slot arrival (granted_holding s row slot mode arrival)
  new_is = go (holds s slot row) refl
    where
      go : (b : Bool) → holds s slot row ≡ b → New s row slot arrival (held_with b (holding_at s slot row) (pin_of mode) arrival s.clock)
      go false e = record {
        held = mode_held mode;
        allowed = mode_allowed (level_of row) (class_of s.borders (page_in (slot_at s slot).content)) mode g.allowed;
        least = g.least;
        most = g.most;
        touch = refl;
        alone = g.alone;
        arrived = λ a. a;
        coming = λ _. (mode_pin mode, refl);
      }
      go true e =
          let o = h.held slot row g.slot_is g.asking.row_is e in
          let p = (holding_at s slot row).pin in
          record {
            held = stronger_is (λ x. is_held x ≡ true) p (pin_of mode) e (mode_held mode);
            allowed = stronger_is (λ x. pin_allowed (level_of row) (class_of s.borders (page_in (slot_at s slot).content)) x ≡ true) p (pin_of mode) o.allowed (mode_allowed (level_of row) (class_of s.borders (page_in (slot_at s slot).content)) mode g.allowed);
            least = o.after;
            most = o.arrival;
            touch = refl;
            alone = λ q b m. stronger_is (λ x. conflict x (holding_at s slot q).pin ≡ false) p (pin_of mode) (h.no_conflict slot row q g.slot_is g.asking.row_is b m) (g.alone q b m);
            arrived = λ _. g.asking.settled.arrived slot g.slot_is e;
            coming = λ a. absurd (omega (arith, g.own e));
          }
