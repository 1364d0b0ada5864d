-- Document 01, "State", "Sound means: ..", as in crates/rules/specs/Sound.antt, said once more as facts: what is so in a sound state.
use Rattle.std.specs.Prelude.{◌≡◌, true, false, ℕ, ◌+◌, ◌<◌, ◌≤◌}
use Rattle.seq.specs.Below.{One}
use Rattle.model.specs.declared.Condition.{Condition}
use Rattle.model.specs.declared.Condition.TheVariants.{Free, Idle, Fetching, Waiting, Killed}
use Rattle.model.specs.declared.State.{State}
use Rattle.model.specs.Parties.{level_of, class_of, are_borders, may_access, last_clock}
use Rattle.model.specs.State.{empty_holding, row_at, slot_at, holding_at, place_at}
use Rattle.model.specs.Ranges.{Sized}
use Rattle.model.specs.Words.{is_free, is_live, is_filled, page_in, arrival_in, lowest_in, holds, conflict}
use Rattle.model.specs.Changes.{rows_not_free}
use Rattle.rules.specs.Sound.{pin_allowed, awaits, in_time}

-- a slot
pub record SlotSound (s : State) (slot : ℕ) : Type 0 where
  pub empty : is_filled (slot_at s slot).content ≡ false → (slot_at s slot).touch ≡ 0
  pub page : is_filled (slot_at s slot).content ≡ true → page_in (slot_at s slot).content ≤ 4095
  pub lowest : is_filled (slot_at s slot).content ≡ true → lowest_in (slot_at s slot).content ≤ 3
  pub touch : (slot_at s slot).touch ≤ s.clock
  pub arrival : is_filled (slot_at s slot).content ≡ true → arrival_in (slot_at s slot).content ≤ s.clock + s.delay
  pub started : is_filled (slot_at s slot).content ≡ true → slot < s.size

-- a row in each condition
pub record Settled (s : State) (row d : ℕ) : Type 0 where
  pub deadline : in_time s d ≡ true
  pub arrived : (slot : ℕ) → slot < 64 → holds s slot row ≡ true → (holding_at s slot row).arrival ≤ s.clock

pub record Awaiting (s : State) (row tick d : ℕ) : Type 0 where
  pub deadline : in_time s d ≡ true
  pub due : s.clock < tick
  pub one : One (awaits s row tick) 64
  pub others : (slot : ℕ) → slot < 64 → holds s slot row ≡ true → awaits s row tick slot ≡ false → (holding_at s slot row).arrival ≤ s.clock

abbrev pub RowSound : State → ℕ → Condition → ℕ → Type 0
RowSound s row Free deadline = deadline ≡ 0
RowSound s row Idle deadline = Settled s row deadline
RowSound s row (Fetching due) deadline = Awaiting s row due deadline
RowSound s row (Waiting page mode) deadline = Settled s row deadline × (page ≤ 4095) × (may_access s.borders (level_of row) page mode ≡ true)
RowSound s row (Killed cause) deadline = deadline ≡ 0

-- a holding that is there
pub record Held (s : State) (slot row : ℕ) : Type 0 where
  pub live : is_live (row_at s row).condition ≡ true
  pub filled : is_filled (slot_at s slot).content ≡ true
  pub allowed : pin_allowed (level_of row) (class_of s.borders (page_in (slot_at s slot).content)) (holding_at s slot row).pin ≡ true
  pub after : arrival_in (slot_at s slot).content ≤ (holding_at s slot row).arrival
  pub arrival : (holding_at s slot row).arrival ≤ s.clock + s.delay
  pub touch : (holding_at s slot row).touch ≤ (slot_at s slot).touch
  pub lowest : lowest_in (slot_at s slot).content ≤ level_of row

-- what it says of the rows
abbrev pub RowsSound : State → Type 0
RowsSound s = (r : ℕ) → r < 32 → RowSound s r (row_at s r).condition (row_at s r).deadline

-- what it says of the borders, and of the time before a row has begun
pub record BordersSound (s : State) : Type 0 where
  pub valid : are_borders s.borders ≡ true
  pub free : s.begun ≡ false → (r : ℕ) → r < 32 → (row_at s r).condition ≡ Free
  pub empty : s.begun ≡ false → (i : ℕ) → i < 64 → is_filled (slot_at s i).content ≡ false

-- what it says of the begin orders
pub record OrderSound (s : State) : Type 0 where
  pub none : (r : ℕ) → r < 32 → is_free (row_at s r).condition ≡ true → place_at s r ≡ 0
  pub least : (r : ℕ) → r < 32 → is_free (row_at s r).condition ≡ false → 1 ≤ place_at s r
  pub most : (r : ℕ) → r < 32 → is_free (row_at s r).condition ≡ false → place_at s r ≤ rows_not_free s.rows (level_of r)
  pub once : (r q : ℕ) → r < 32 → q < 32 → level_of r ≡ level_of q → 1 ≤ place_at s r → place_at s r ≡ place_at s q → r ≡ q

-- what it says of a state but for the borders, with given parts for the rows and the begin orders
pub record Facts (Rows Order : Type 0) (s : State) : Type 0 where
  pub sized : Sized s
  pub size_least : 1 ≤ s.size
  pub size_most : s.size ≤ 64
  pub delay_least : 1 ≤ s.delay
  pub delay_most : s.delay ≤ 255
  pub clock_most : s.clock ≤ last_clock
  pub slot : (i : ℕ) → i < 64 → SlotSound s i
  pub one_slot : (i j : ℕ) → i < 64 → j < 64 → is_filled (slot_at s i).content ≡ true → is_filled (slot_at s j).content ≡ true
      → page_in (slot_at s i).content ≡ page_in (slot_at s j).content → i ≡ j
  pub row : Rows
  pub order : Order
  pub held : (i r : ℕ) → i < 64 → r < 32 → holds s i r ≡ true → Held s i r
  pub unheld : (i r : ℕ) → i < 64 → r < 32 → holds s i r ≡ false → holding_at s i r ≡ empty_holding
  pub no_conflict : (i r q : ℕ) → i < 64 → r < 32 → q < 32 → (r ≡ q → ⊥) → conflict (holding_at s i r).pin (holding_at s i q).pin ≡ false

abbrev pub Sound : State → Type 0
Sound s = Facts (RowsSound s) (OrderSound s) s
