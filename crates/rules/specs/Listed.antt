-- Document 02, T-04, "8 bytes for each row so made ready or fetching, in turn": what an entry of the list says of the state that the tries leave, and which rows have one.
use Rattle.std.specs.Prelude.{◌≡◌, Bool, true, false, List, [], ◌∷◌, ◌⊎◌, ℕ, ◌<◌, ◌≤◌}
use Rattle.model.specs.declared.Condition.{Condition}
use Rattle.model.specs.declared.Condition.TheVariants.{Free, Idle, Fetching, Waiting, Killed}
use Rattle.model.specs.declared.Mode.{Mode}
use Rattle.model.specs.declared.State.{State}
use Rattle.model.specs.State.{row_at, slot_at, holding_at}
use Rattle.model.specs.Words.{has_page, pin_of, strength, pins}
use Rattle.rules.specs.Tries.{Fill}

-- made ready, which is idle, or fetching
abbrev pub is_idle_or_fetching : Condition → Bool
is_idle_or_fetching Free = false
is_idle_or_fetching Idle = true
is_idle_or_fetching (Fetching due) = true
is_idle_or_fetching (Waiting page mode) = false
is_idle_or_fetching (Killed cause) = false

-- the row of the entry is idle or fetching, and pins the slot of the entry, which has the entry's page
pub record Listed (t : State) (f : Fill) : Type 0 where
  pub row_is : f.row < 32
  pub condition_is : is_idle_or_fetching (row_at t f.row).condition ≡ true
  pub slot_is : f.slot < 64
  pub pins_it : pins t f.slot f.row ≡ true
  pub has_it : has_page f.page (slot_at t f.slot).content ≡ true

-- and its pin is the one that the mode asks for, or a stronger one
abbrev pub PinnedFor : State → Mode → Fill → Type 0
PinnedFor t mode f = Listed t f × (strength (pin_of mode) ≤ strength (holding_at t f.slot f.row).pin)

-- the row of the entry waited for the entry's page
abbrev pub WaitedFor : State → Fill → Type 0
WaitedFor u f = (mode : Mode) × ((row_at u f.row).condition ≡ Waiting f.page mode)

-- the row of the entry waited on s for the entry's page in a mode, and is granted it on t
abbrev pub GrantedFor : State → State → Fill → Type 0
GrantedFor s t f = (mode : Mode) × ((row_at s f.row).condition ≡ Waiting f.page mode) × PinnedFor t mode f

-- a property of every entry
abbrev pub EachFill : (Fill → Type 0) → List Fill → Type 0
EachFill P [] = Unit {0}
EachFill P (f ∷ fs) = P f × EachFill P fs

-- a property of some entry
abbrev pub SomeFill : (Fill → Type 0) → List Fill → Type 0
SomeFill P [] = ⊥
SomeFill P (f ∷ fs) = P f ⊎ SomeFill P fs

-- an entry is of the row
abbrev pub HasRow : ℕ → List Fill → Type 0
HasRow row fs = SomeFill (λ f. f.row ≡ row) fs

-- no row has two entries
abbrev pub OnceEach : List Fill → Type 0
OnceEach [] = Unit {0}
OnceEach (f ∷ fs) = (HasRow f.row fs → ⊥) × OnceEach fs

-- a property of every entry with each later one
abbrev pub EachLater : (Fill → Fill → Type 0) → List Fill → Type 0
EachLater R [] = Unit {0}
EachLater R (f ∷ fs) = EachFill (R f) fs × EachLater R fs

-- the row of every entry comes before the row of each later one
abbrev pub RankedFills : (ℕ → ℕ → Bool) → List Fill → Type 0
RankedFills before = EachLater (λ f g. before f.row g.row ≡ true)
