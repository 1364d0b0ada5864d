-- Document 01, "The calls", request and look, and document 02, T-04: which calls ask for a page, of which row, and which requests are served in the course of a call.
use Rattle.std.specs.Prelude.{◌≡◌, true, ◌||◌, List, [], ◌∷◌, ◌⊎◌, ℕ, ◌≤◌}
use Rattle.model.specs.declared.Call.{Call}
use Rattle.model.specs.declared.Call.TheVariants.{Tick}
use Rattle.model.specs.declared.Condition.TheVariants.{Waiting}
use Rattle.model.specs.declared.Mode.{Mode}
use Rattle.model.specs.declared.State.{State}
use Rattle.model.specs.Parties.{mode_of}
use Rattle.model.specs.State.{row_at}
use Rattle.rules.specs.Calls.{three_steps, served}
use Rattle.rules.specs.Content.{fields, row_named, is_request, is_look}
use Rattle.rules.specs.Refusals.{tick_refusal}
use Rattle.rules.specs.Run.{outcome}
use Rattle.rules.specs.Tries.{try_row, waiters}

-- the call is a request of the row for the page and mode
pub record Asks (c : Call) (row page : ℕ) (mode : Mode) : Type 0 where
  pub level_most : (fields c).level ≤ 3
  pub number_most : (fields c).number ≤ 7
  pub row_is : row ≡ row_named c
  pub kind : is_request c ≡ true
  pub page_is : page ≡ (fields c).page
  pub mode_is : mode ≡ mode_of (fields c).mode

-- the call is a request or a look of the row
pub record Names (c : Call) (row : ℕ) : Type 0 where
  pub kind : is_request c || is_look c ≡ true
  pub row_is : row ≡ row_named c

-- of some rows that are tried in turn on s, row is tried on u
abbrev pub TriedOn : List ℕ → State → State → ℕ → Type 0
TriedOn [] s u row = ⊥
TriedOn (r ∷ rows) s u row = ((u ≡ s) × (row ≡ r)) ⊎ TriedOn rows (try_row (row_at s r).condition s r).state u row

-- in the course of the call on s a request of the row for the page and mode is served, on u: the call's own, or by an accepted tick the stored one of a row that is tried
pub data Serves (s : State) (c : Call) (u : State) (row page : ℕ) (mode : Mode) : Type 0 where
  own : u ≡ s → Asks c row page mode → outcome s c ≡ served s row page mode → Serves s c u row page mode
  stored : (room : ℕ) → c ≡ Tick room → tick_refusal s room ≡ 0 → TriedOn (waiters (three_steps s)) (three_steps s) u row → (row_at u row).condition ≡ Waiting page mode
      → Serves s c u row page mode
