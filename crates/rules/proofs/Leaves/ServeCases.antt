-- How a request is served: by which step.
use mathlib.Core.Path.{◌≡◌, refl}
use mathlib.Core.Bool.{Bool, true, false, cond}
use Prim.Native.Nat.{ℕ, ◌+◌}
use Rattle.seq.specs.declared.Found.{Found}
use Rattle.seq.specs.declared.Found.TheVariants.{At, Nowhere}
use Rattle.std.specs.Prelude.{None}
use Rattle.model.specs.declared.Cause.TheVariants.{Taken}
use Rattle.model.specs.declared.Mode.{Mode}
use Rattle.model.specs.declared.Outcome.{Outcome}
use Rattle.model.specs.declared.State.{State}
use Rattle.model.specs.Parties.{level_of}
use Rattle.model.specs.State.{slot_at}
use Rattle.model.specs.Words.{seen, least_arrival, slot_of}
use Rattle.model.specs.Changes.{released, killed, cleared}
use Rattle.rules.specs.Choice.{chosen}
use Rattle.rules.specs.Calls.{waiting, granted, conflicts, must_wait, step1, step2, step3, pinners_killed, write_back, filled, into_slot, unseen_at, hits_dormant, served_at, served}

-- the step that serves it
pub data Step (s : State) (row page : ℕ) (mode : Mode) (o : Outcome) : Type 0 where
  wait_1 : (slot : ℕ) → slot_of s page ≡ At slot → seen s (level_of row) slot ≡ true → must_wait s row slot mode ≡ true → o ≡ waiting s row page mode → Step s row page mode o
  grant_1 : (slot : ℕ) → slot_of s page ≡ At slot → seen s (level_of row) slot ≡ true → must_wait s row slot mode ≡ false
      → o ≡ granted (killed (conflicts s row slot mode) Taken s) row slot mode (least_arrival s (level_of row) slot) None → Step s row page mode o
  grant_2 : (slot : ℕ) → slot_of s page ≡ At slot → hits_dormant s row slot ≡ true → o ≡ step2 s row slot mode → Step s row page mode o
  grant_3 : (slot : ℕ) → slot_of s page ≡ At slot → seen s (level_of row) slot ≡ false → o ≡ unseen_at (At slot) s row page mode → Step s row page mode o
  wait_g : slot_of s page ≡ Nowhere → chosen s row ≡ Nowhere → o ≡ waiting s row page mode → Step s row page mode o
  fill : (slot : ℕ) → slot_of s page ≡ Nowhere → chosen s row ≡ At slot
      → o ≡ granted (filled (pinners_killed s slot) slot page (level_of row)) row slot mode (s.clock + s.delay) (write_back (slot_at (pinners_killed s slot) slot)) → Step s row page mode o

module _ (s : State) (row page : ℕ) (mode : Mode) where
  there : (slot : ℕ) → slot_of s page ≡ At slot → (v w d : Bool) → seen s (level_of row) slot ≡ v → must_wait s row slot mode ≡ w → hits_dormant s row slot ≡ d
      → Step s row page mode (cond v
      (cond w (waiting s row page mode) (granted (killed (conflicts s row slot mode) Taken s) row slot mode (least_arrival s (level_of row) slot) None))
      (cond d (step2 s row slot mode) (unseen_at (At slot) s row page mode)))
  there slot e true true d p q r = wait_1 slot e p q refl
  there slot e true false d p q r = grant_1 slot e p q refl
  there slot e false w true p q r = grant_2 slot e r refl
  there slot e false w false p q r = grant_3 slot e p refl

  absent : slot_of s page ≡ Nowhere → (f : Found) → chosen s row ≡ f → Step s row page mode (into_slot f s row page mode)
  absent e Nowhere q = wait_g e q refl
  absent e (At slot) q = fill slot e q refl

  pub step : Step s row page mode (served s row page mode)
  unfolding served step1
  step = go (slot_of s page) refl
    where
      go : (f : Found) → slot_of s page ≡ f → Step s row page mode (served_at f s row page mode)
      go Nowhere e = absent e (chosen s row) refl
      go (At slot) e = there slot e (seen s (level_of row) slot) (must_wait s row slot mode) (hits_dormant s row slot) refl refl refl

-- the clock, the number of slots, the borders, the mark that a row has begun and the begin orders are the same
pub record Fixed (s t : State) : Type 0 where
  pub clock : t.clock ≡ s.clock
  pub size : t.size ≡ s.size
  pub borders : t.borders ≡ s.borders
  pub begun : t.begun ≡ s.begun
  pub places : t.places ≡ s.places

pub served_fixed : (s : State) (row page : ℕ) (mode : Mode) → Fixed s (served s row page mode).state
unfolding waiting granted step2 step3 pinners_killed filled killed released cleared
served_fixed s row page mode = go (served s row page mode) (step s row page mode)
  where
    go : (o : Outcome) → Step s row page mode o → Fixed s o.state
    go o (wait_1 slot e v w q) = rw q (record { clock = refl; size = refl; borders = refl; begun = refl; places = refl })
    go o (grant_1 slot e v w q) = rw q (record { clock = refl; size = refl; borders = refl; begun = refl; places = refl })
    go o (grant_2 slot e d q) = rw q (record { clock = refl; size = refl; borders = refl; begun = refl; places = refl })
    go o (grant_3 slot e v q) = rw q (record { clock = refl; size = refl; borders = refl; begun = refl; places = refl })
    go o (wait_g e c q) = rw q (record { clock = refl; size = refl; borders = refl; begun = refl; places = refl })
    go o (fill slot e c q) = rw q (record { clock = refl; size = refl; borders = refl; begun = refl; places = refl })
