use mathlib.Core.Bool.{cond}
use Rattle.model.specs.State.{empty_slot, with_clock}
use Rattle.model.specs.Changes.{dirtied, wrote_slot}
use Rattle.model.specs.Inner.Changed.{marked}
use Rattle.model.proofs.ElementLaws.{Turned}
use Rattle.model.proofs.dirty_slots.Given as goal

abbrev pub invariant-loop-i : goal.invariant-loop-i
invariant-loop-i l = Turned (λ slot x. cond (wrote_slot (marked l.marks) (with_clock l.s l.clock) slot) (dirtied x) x) l.i 64 empty_slot l.s.slots l.x-items
