use Rattle.record.specs.Inner.Put.{Put}
use Rattle.record.proofs.TextLaws.{first_fills}
use Rattle.record.proofs.Sheet.fills.Given as goal

abbrev pub invariant-loop-i : goal.invariant-loop-i
invariant-loop-i l = Put l.initial.self (first_fills l.number l.list l.i) l.self
