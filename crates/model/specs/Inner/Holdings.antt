-- For the code: the 32 holdings of one slot, by row.
use Rattle.std.specs.Prelude.{List, ℕ, replicate}
use Rattle.seq.specs.Each.{each}
use Rattle.model.specs.declared.Holding.{Holding}
use Rattle.model.specs.declared.State.{State}
use Rattle.model.specs.State.{empty_holding, holding_at}

unfoldable pub holdings_on : State → ℕ → List Holding
holdings_on s slot = each (λ row _. holding_at s slot row) (replicate 32 empty_holding)
