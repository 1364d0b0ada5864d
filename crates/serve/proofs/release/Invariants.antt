use Rattle.serve.proofs.DirtyLaws.{Released}
use Rattle.serve.proofs.release.Given as goal

abbrev pub invariant-loop-r : goal.invariant-loop-r
invariant-loop-r l = Released l.s l.gone l.r l.slots
