use mathlib.Core.Path.{◌∙◌}
use native.Mathlib.Omega.{arith}
use Rattle.seq.proofs.EachLaws.{each_below_none, each_below_turn, each_below_all}
use Rattle.model.specs.State.{empty_slot}
use Rattle.serve.specs.Inner.SlotHoldings.{row_dirtied}
use Rattle.serve.proofs.mark_written.Goals as goal

pub loop-i-init : goal.loop-i-init
loop-i-init c = each_below_none (row_dirtied c.args.s.now c.args.row) c.args.slots.now

pub loop-i-preserved : goal.loop-i-preserved
loop-i-preserved c =
    let w = c.loop-i in
    each_below_turn (row_dirtied c.args.s.now c.args.row) c.args.slots.now w.i empty_slot w.slots c.marked_slot.result (omega arith) w.invariant
    (rw (← c.is_written-wrote.ensures) c.marked_slot.ensures)

pub returns : goal.returns
returns c = c.loop-i.invariant ∙ each_below_all (row_dirtied c.args.s.now c.args.row) c.args.slots.now c.loop-i.i empty_slot (omega arith)
