use native.Mathlib.Omega.{arith}
use Rattle.std.proofs.Common.{rules}
use Rattle.model.specs.State.{empty_slot}
use Rattle.model.specs.Changes.{released}
use Rattle.model.proofs.ElementLaws.{turned_all}
use Rattle.model.proofs.dirty_slots.Goals as goal

pub returns : goal.returns
unfolding released
returns c = turned_all _ c.loop-i.i 64 empty_slot c.args.s.slots c.loop-i.x-items (search rules) c.loop-i-test.array_long (omega arith) c.loop-i.invariant
