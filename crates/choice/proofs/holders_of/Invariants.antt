use mathlib.Core.Path.{◌≡◌}
use Rattle.choice.specs.Inner.Summary.{holders_below}
use Rattle.choice.proofs.holders_of.Given as goal

abbrev pub invariant-loop-r : goal.invariant-loop-r
invariant-loop-r l = l.holders ≡ holders_below l.s l.slot l.r
