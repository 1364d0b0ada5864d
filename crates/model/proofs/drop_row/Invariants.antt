use Rattle.model.proofs.InPlace.{Replaced, row_dropping}
use Rattle.model.proofs.drop_row.Given as goal

abbrev pub invariant-loop-i : goal.invariant-loop-i
invariant-loop-i l = Replaced (row_dropping l.row l.i) l.initial.holdings l.holdings
