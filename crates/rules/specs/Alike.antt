-- What a clearance up to 2 can learn of a state, as a relation of two states: by pages, and not by slots; and of two outcomes.
use Rattle.std.specs.Prelude.{◌≡◌, ℕ, ◌<◌, ◌≤◌}
use Rattle.seq.specs.Below.{at_found}
use Rattle.model.specs.declared.Holding.{Holding}
use Rattle.model.specs.declared.Outcome.{Outcome}
use Rattle.model.specs.declared.State.{State}
use Rattle.model.specs.Parties.{level_of}
use Rattle.model.specs.State.{empty_holding, row_at, holding_at, place_at}
use Rattle.model.specs.Words.{slot_of}
use Rattle.rules.specs.Answers.{told}

-- the holding of a row on a page, empty where the page is in no slot
unfoldable pub holding_on : State → ℕ → ℕ → Holding
holding_on s page row = at_found (slot_of s page) (λ slot. holding_at s slot row) empty_holding

pub record Alike (L : ℕ) (s t : State) : Type 0 where
  pub size : s.size ≡ t.size
  pub delay : s.delay ≡ t.delay
  pub clock : s.clock ≡ t.clock
  pub row : (r : ℕ) → r < 32 → level_of r ≤ L → row_at s r ≡ row_at t r
  pub place : (r : ℕ) → r < 32 → level_of r ≤ L → place_at s r ≡ place_at t r
  pub holding : (page r : ℕ) → r < 32 → level_of r ≤ L → holding_on s page r ≡ holding_on t page r

-- two outcomes that L cannot tell apart
abbrev pub Same : ℕ → Outcome → Outcome → Type 0
Same L o p = (told o.answer ≡ told p.answer) × Alike L o.state p.state
