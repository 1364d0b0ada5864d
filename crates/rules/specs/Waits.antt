-- Document 01, "The calls", request, step 1, and "Choosing a slot", step g, with the reasons of T-05 of document 02: why a row waits, what a tick makes of a row that waited, and of the best live row.
use Rattle.std.specs.Prelude.{◌≡◌, true, List, ◌⊎◌, ℕ, ◌<◌, ◌≤◌}
use Rattle.model.specs.declared.Answer.TheVariants.{PageUnseen}
use Rattle.model.specs.declared.Cause.TheVariants.{Late, Taken}
use Rattle.model.specs.declared.Condition.TheVariants.{Waiting, Killed}
use Rattle.model.specs.declared.Mode.{Mode}
use Rattle.model.specs.declared.State.{State}
use Rattle.model.specs.Parties.{level_of}
use Rattle.model.specs.State.{row_at, slot_at, holding_at}
use Rattle.model.specs.Words.{is_live, has_page, holds, pins, outranks, slot_of}
use Rattle.rules.specs.Calls.{viewed_in}
use Rattle.rules.specs.Listed.{is_idle_or_fetching, PinnedFor, SomeFill}
use Rattle.rules.specs.Taken.{InConflict}
use Rattle.rules.specs.Tries.{Fill}

-- step 1: a better row that the row sees pins its page in conflict
pub record BetterPins (s : State) (row page : ℕ) (mode : Mode) : Type 0 where
  pub other : ℕ
  pub other_row : other < 32
  pub different : other ≡ row → ⊥
  pub other_level : level_of other ≤ level_of row
  pub better : outranks s other row ≡ true
  pub slot : ℕ
  pub slot_is : slot < 64
  pub has_it : has_page page (slot_at s slot).content ≡ true
  pub against : InConflict mode (holding_at s slot other).pin

-- a slot that the row cannot take: held by a row of lower level, by a better row of its own level, or pinned by itself
pub data CannotTake (s : State) (row slot : ℕ) : Type 0 where
  by_lower : (holder : ℕ) → holder < 32 → level_of holder < level_of row → holds s slot holder ≡ true → CannotTake s row slot
  by_better : (holder : ℕ) → holder < 32 → level_of holder ≡ level_of row → outranks s holder row ≡ true → holds s slot holder ≡ true → CannotTake s row slot
  by_itself : pins s slot row ≡ true → CannotTake s row slot

-- step g: the page is unseen, as a view at the row's level tells it, and every slot is one that the row cannot take
pub record NoSlot (s : State) (row page : ℕ) : Type 0 where
  pub unseen : viewed_in (slot_of s page) s (level_of row) ≡ PageUnseen
  pub every : (slot : ℕ) → slot < s.size → CannotTake s row slot

-- why a row waits for the page and mode
abbrev pub WaitReason : State → ℕ → ℕ → Mode → Type 0
WaitReason s row page mode = BetterPins s row page mode ⊎ NoSlot s row page

-- a row that waited for the page and mode on s, after a tick to t that filled what the list says: it waits on, for a reason;
-- or the list has an entry by which it is granted the page in the mode; or it is late; or it is taken, and the list has an entry of a better row
pub data AfterWaiting (s t : State) (fills : List Fill) (row page : ℕ) (mode : Mode) : Type 0 where
  waits_on : (row_at t row).condition ≡ Waiting page mode → WaitReason t row page mode → AfterWaiting s t fills row page mode
  is_granted : SomeFill (λ f. (f.row ≡ row) × (f.page ≡ page) × PinnedFor t mode f) fills → AfterWaiting s t fills row page mode
  gone_late : (row_at s row).deadline < t.clock → (row_at t row).condition ≡ Killed Late → AfterWaiting s t fills row page mode
  is_taken : (row_at t row).condition ≡ Killed Taken → SomeFill (λ f. outranks s f.row row ≡ true) fills → AfterWaiting s t fills row page mode

-- the best live row of all
pub record BestLive (s : State) (row : ℕ) : Type 0 where
  pub live : is_live (row_at s row).condition ≡ true
  pub best : (other : ℕ) → other < 32 → (other ≡ row → ⊥) → is_live (row_at s other).condition ≡ true → outranks s row other ≡ true

-- it pins every slot itself
abbrev pub PinsAll : State → ℕ → Type 0
PinsAll s row = (slot : ℕ) → slot < s.size → pins s slot row ≡ true

-- idle or fetching after a tick from s to t, unless that tick makes it late or it pins every slot itself, before the tick as after it
pub data IdleOrFetchingUnless (s t : State) (row : ℕ) : Type 0 where
  idle_or_fetching : is_idle_or_fetching (row_at t row).condition ≡ true → IdleOrFetchingUnless s t row
  made_late : (row_at s row).deadline < t.clock → (row_at t row).condition ≡ Killed Late → IdleOrFetchingUnless s t row
  pins_all : PinsAll s row → PinsAll t row → IdleOrFetchingUnless s t row
