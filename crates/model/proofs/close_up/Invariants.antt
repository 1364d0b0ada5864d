use Rattle.model.specs.Changes.{moved_up}
use Rattle.model.proofs.ElementLaws.{Turned}
use Rattle.model.proofs.close_up.Given as goal

abbrev pub invariant-loop-r : goal.invariant-loop-r
invariant-loop-r l = Turned (moved_up l.row l.place) l.r 32 0 l.fn.places l.p-items
