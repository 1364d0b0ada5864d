-- Document 01, "The calls" and "Choosing a slot", and document 02, T-04: a page that a row holds, a slot that is dirty, a page that is reported for write-back and why, a slot that was given a new page, and a row that was left alone.
use Rattle.std.specs.Prelude.{◌≡◌, Bool, true, false, ◌&&◌, ◌⊎◌, ℕ, ◌+◌, ◌<◌, ◌≤◌, Some}
use Rattle.seq.specs.declared.Found.TheVariants.{At, Nowhere}
use Rattle.model.specs.declared.Cause.TheVariants.{Taken}
use Rattle.model.specs.declared.Condition.TheVariants.{Killed}
use Rattle.model.specs.declared.Mode.{Mode}
use Rattle.model.specs.declared.Pin.TheVariants.{Write}
use Rattle.model.specs.declared.State.{State}
use Rattle.model.specs.State.{row_at, slot_at, holding_at}
use Rattle.model.specs.Words.{dirty_in, has_page, holds, pins, slot_of}
use Rattle.rules.specs.Choice.{chosen}
use Rattle.model.specs.declared.Call.{Call}
use Rattle.rules.specs.Answers.{slot_told, back_told}
use Rattle.rules.specs.Listed.{SomeFill}
use Rattle.rules.specs.Requests.{Serves}
use Rattle.rules.specs.Run.{outcome, fills_of}

-- the row holds the page in the slot
abbrev pub holds_page : State → ℕ → ℕ → ℕ → Bool
holds_page s slot row page = holds s slot row && has_page page (slot_at s slot).content

-- the slot has the page and is dirty
pub record Dirty (s : State) (slot page : ℕ) : Type 0 where
  pub has_it : has_page page (slot_at s slot).content ≡ true
  pub dirty : dirty_in (slot_at s slot).content ≡ true

-- the page is reported for write-back from its slot, by the call's answer or by an entry of its list
abbrev pub Reported : State → Call → ℕ → ℕ → Type 0
Reported s c slot page =
    ((slot_told (outcome s c).answer ≡ slot + 1) × (back_told (outcome s c).answer ≡ page + 1))
    ⊎ SomeFill (λ f. (f.slot ≡ slot) × (f.back ≡ Some page)) (fills_of s c)

-- a row with a write pin on the slot, whose page had arrived on u, is taken on t
pub record WriterTaken (u t : State) (slot : ℕ) : Type 0 where
  pub writer : ℕ
  pub writer_row : writer < 32
  pub writes : (holding_at u slot writer).pin ≡ Write
  pub arrived : (holding_at u slot writer).arrival ≤ u.clock
  pub taken : (row_at t writer).condition ≡ Killed Taken

-- a request that was served in the course of the call, on a state of its course, chose the slot, in which the page stood: dirty, or written by a row that the call took
pub record WasDirty (s : State) (c : Call) (slot page : ℕ) : Type 0 where
  pub on : State
  pub row : ℕ
  pub asked : ℕ
  pub mode : Mode
  pub serves : Serves s c on row asked mode
  pub chose : chosen on row ≡ At slot
  pub has_it : has_page page (slot_at on slot).content ≡ true
  pub dirty : (dirty_in (slot_at on slot).content ≡ true) ⊎ WriterTaken on (outcome s c).state slot

-- a request that was served in the course of the call, on a state of its course, gave the slot a new page, and row q had no pin there
pub record Refilled (s : State) (c : Call) (t : State) (slot q : ℕ) : Type 0 where
  pub on : State
  pub row : ℕ
  pub page : ℕ
  pub mode : Mode
  pub serves : Serves s c on row page mode
  pub nowhere : slot_of on page ≡ Nowhere
  pub chose : chosen on row ≡ At slot
  pub new_page : has_page page (slot_at t slot).content ≡ true
  pub unpinned : pins on slot q ≡ false

-- the row and its holdings are as they were, and the slots that it holds have their pages
pub record LeftAlone (s t : State) (row : ℕ) : Type 0 where
  pub row_same : row_at t row ≡ row_at s row
  pub holding_same : (slot : ℕ) → slot < 64 → holding_at t slot row ≡ holding_at s slot row
  pub page_same : (slot : ℕ) → slot < 64 → holds s slot row ≡ true → (page : ℕ) → has_page page (slot_at t slot).content ≡ has_page page (slot_at s slot).content
