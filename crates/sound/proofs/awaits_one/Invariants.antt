use mathlib.Core.Path.{◌≡◌}
use mathlib.Core.Bool.{true, ◌||◌}
use Rattle.seq.specs.Below.{all_below, count_below}
use Rattle.rules.specs.Sound.{arrived, awaits}
use Rattle.sound.proofs.awaits_one.Given as goal

abbrev pub invariant-loop-slot : goal.invariant-loop-slot
invariant-loop-slot l = (all_below l.slot (λ slot. arrived l.s slot l.row || awaits l.s l.row l.due slot) ≡ true) × (l.number ≡ count_below l.slot (awaits l.s l.row l.due))
