use Rattle.model.proofs.InPlace.{Replaced, rows_dropping}
use Rattle.model.proofs.drop_rows.Given as goal

abbrev pub invariant-loop-r : goal.invariant-loop-r
invariant-loop-r l = Replaced (rows_dropping l.gone l.r) l.initial.holdings l.holdings
