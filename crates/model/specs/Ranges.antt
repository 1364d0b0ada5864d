-- Document 01, "State", and document 02, T-07: the sizes of a state's arrays, and the widths of its numbers, which are those of their types and of their words in an area.
use Rattle.std.specs.Prelude.{◌≡◌, ℕ, ◌<◌, ◌^◌, length, get_or}
use Rattle.model.specs.State.{free_row, empty_slot, empty_holding}
use Rattle.model.specs.declared.Condition.{Condition}
use Rattle.model.specs.declared.Condition.TheVariants.{Free, Idle, Fetching, Waiting, Killed}
use Rattle.model.specs.declared.Content.{Content}
use Rattle.model.specs.declared.Content.TheVariants.{Empty, Filled}
use Rattle.model.specs.declared.Holding.{Holding}
use Rattle.model.specs.declared.Row.{Row}
use Rattle.model.specs.declared.Slot.{Slot}
use Rattle.model.specs.declared.Borders.{Borders}
use Rattle.model.specs.declared.State.{State}

-- the arrays have their sizes
pub record Sized (s : State) : Type 0 where
  pub rows : length s.rows ≡ 32
  pub slots : length s.slots ≡ 64
  pub holdings : length s.holdings ≡ 2048
  pub places : length s.places ≡ 32

-- each number of a part of a state has its width: a page and a border 32 bits, any other 64
abbrev pub ConditionOk : Condition → Type 0
ConditionOk Free = Unit {0}
ConditionOk Idle = Unit {0}
ConditionOk (Fetching due) = due < 2 ^ 64
ConditionOk (Waiting page mode) = page < 2 ^ 32
ConditionOk (Killed cause) = Unit {0}

abbrev pub ContentOk : Content → Type 0
ContentOk Empty = Unit {0}
ContentOk (Filled page arrival dirty lowest) = (page < 2 ^ 32) × (arrival < 2 ^ 64) × (lowest < 2 ^ 64)

pub record HoldingOk (h : Holding) : Type 0 where
  pub arrival : h.arrival < 2 ^ 64
  pub touch : h.touch < 2 ^ 64

pub record RowOk (r : Row) : Type 0 where
  pub condition : ConditionOk r.condition
  pub deadline : r.deadline < 2 ^ 64

pub record SlotOk (t : Slot) : Type 0 where
  pub content : ContentOk t.content
  pub touch : t.touch < 2 ^ 64

pub record BordersOk (b : Borders) : Type 0 where
  pub first : b.first < 2 ^ 32
  pub second : b.second < 2 ^ 32
  pub third : b.third < 2 ^ 32

pub record StateOk (s : State) : Type 0 where
  pub size : s.size < 2 ^ 64
  pub delay : s.delay < 2 ^ 64
  pub clock : s.clock < 2 ^ 64
  pub sized : Sized s
  pub row : (i : ℕ) → RowOk (get_or s.rows i free_row)
  pub slot : (i : ℕ) → SlotOk (get_or s.slots i empty_slot)
  pub holding : (i : ℕ) → HoldingOk (get_or s.holdings i empty_holding)
  pub borders : BordersOk s.borders
  pub place : (i : ℕ) → get_or s.places i 0 < 2 ^ 64
