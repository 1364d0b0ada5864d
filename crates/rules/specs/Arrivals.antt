-- Document 01, "The calls", request, steps 3 and 4: when a page arrives that the requester does not see, and which pages of a row have arrived, where it is told ready or found idle.
use Rattle.std.specs.Prelude.{◌≡◌, true, ℕ, ◌+◌, ◌<◌, ◌≤◌, Option}
use Rattle.model.specs.declared.Answer.TheVariants.{Fetch, Wait}
use Rattle.model.specs.declared.Condition.TheVariants.{Fetching}
use Rattle.model.specs.declared.Mode.{Mode}
use Rattle.model.specs.declared.Outcome.{Outcome}
use Rattle.model.specs.declared.State.{State}
use Rattle.model.specs.State.{row_at, slot_at, holding_at}
use Rattle.model.specs.Words.{has_page, arrival_in, pin_of, strength, holds}

-- the row waits, or its page is charged as one that is read from disk, whether a slot has it or not: it is due at clock + delay, and the row is fetching until then
pub data Charged (s : State) (row : ℕ) (o : Outcome) : Type 0 where
  waits : o.answer ≡ Wait → Charged s row o
  fetches : (slot : ℕ) (back : Option ℕ) → o.answer ≡ Fetch (s.clock + s.delay) slot back → (row_at o.state row).condition ≡ Fetching (s.clock + s.delay)
      → (holding_at o.state slot row).arrival ≡ s.clock + s.delay → Charged s row o

-- every page that the row holds has arrived: the holding and the slot
abbrev pub AllArrived : State → ℕ → Type 0
AllArrived s row = (slot : ℕ) → slot < 64 → holds s slot row ≡ true → ((holding_at s slot row).arrival ≤ s.clock) × (arrival_in (slot_at s slot).content ≤ s.clock)

-- the row holds the slot of the page with the pin asked for or a stronger one, and holding and page have arrived
pub record PinnedAndArrived (s : State) (row page : ℕ) (mode : Mode) (slot : ℕ) : Type 0 where
  pub slot_is : slot < 64
  pub has_it : has_page page (slot_at s slot).content ≡ true
  pub pinned : strength (pin_of mode) ≤ strength (holding_at s slot row).pin
  pub holding_arrived : (holding_at s slot row).arrival ≤ s.clock
  pub slot_arrived : arrival_in (slot_at s slot).content ≤ s.clock
