-- Document 01, "The calls", request, steps 1 and 3, and "Choosing a slot": "kill every other row with a conflicting pin", "rows that pin the chosen slot are killed". What a pin is and which pins conflict is said here anew, and not by the tests of the steps.
use Rattle.std.specs.Prelude.{◌≡◌, true, ◌⊎◌, ℕ, ◌<◌}
use Rattle.seq.specs.declared.Found.TheVariants.{At, Nowhere}
use Rattle.model.specs.declared.Call.{Call}
use Rattle.model.specs.declared.Mode.{Mode}
use Rattle.model.specs.declared.Pin.{Pin}
use Rattle.model.specs.declared.Pin.TheVariants.{Read, Write}
use Rattle.model.specs.declared.State.{State}
use Rattle.model.specs.State.{slot_at, holding_at}
use Rattle.model.specs.Words.{has_page, slot_of}
use Rattle.rules.specs.Choice.{chosen}
use Rattle.rules.specs.Requests.{Serves}

-- a pin is read or write
abbrev pub IsPinned : Pin → Type 0
IsPinned pin = (pin ≡ Read) ⊎ (pin ≡ Write)

-- a pin against a request in the mode: a write pin always, a read pin where the request is to write
abbrev pub InConflict : Mode → Pin → Type 0
InConflict mode pin = (pin ≡ Write) ⊎ ((pin ≡ Read) × (mode ≡ Mode.Write))

-- why a request of a row for the page and mode takes row q on s: q has a pin in conflict on the slot of the page; or no slot has the page, and q has a pin on the slot that is chosen
pub data Takes (s : State) (row page : ℕ) (mode : Mode) (q : ℕ) : Type 0 where
  in_conflict : (slot : ℕ) → slot < 64 → has_page page (slot_at s slot).content ≡ true → InConflict mode (holding_at s slot q).pin → Takes s row page mode q
  on_chosen : (slot : ℕ) → slot < 64 → slot_of s page ≡ Nowhere → chosen s row ≡ At slot → IsPinned (holding_at s slot q).pin → Takes s row page mode q

-- a request of another row, served on a state of the call's course, takes row q there
pub record TakenBy (s : State) (c : Call) (q : ℕ) : Type 0 where
  pub on : State
  pub row : ℕ
  pub page : ℕ
  pub mode : Mode
  pub serves : Serves s c on row page mode
  pub different : q ≡ row → ⊥
  pub takes : Takes on row page mode q
