use mathlib.Core.Path.{◌≡◌, ◌∙◌, ap}
use Prim.Native.Nat.{◌+◌}
use native.Mathlib.Omega.{arith}
use Rattle.std.proofs.lemmas.Grind.{common_steps}
use Rattle.model.specs.Inner.Changed.{changed}
use Rattle.model.proofs.Ranges.{state_ok}
use Rattle.rules.specs.Calls.{three_steps}
use Rattle.rules.specs.Refusals.{tick_refusal}
use Rattle.rules.specs.Sound.{sound}
use Rattle.rules.proofs.Stays.StaysSound.{steps_sound}
use Rattle.tries.proofs.QueueLaws.{waiters_in_lem}
use Rattle.calls.proofs.MarkLaws.{late_marked}
use Rattle.calls.proofs.TickLaws.{steps_made, steps_leave, tick_made}
use Rattle.calls.proofs.tick.Goals as goal
use Rattle.calls.proofs.tick.Goals.{After-drop_holdings-c}

-- the change is that of the three steps
stepped : (c : After-drop_holdings-c) → changed c.args.s c.drop_holdings-c.result ≡ three_steps c.args.s
stepped c =
    steps_made c.args.s (state_ok c.args.s _ c.well_formed.0).sized c.deliver_rows-delivered.result c.kill_rows-live.result c.late_rows-late.result c.released_slots-slots.result c.drop_holdings-c.result
    c.deliver_rows-delivered.ensures (λ row h. rw c.late_rows-late.ensures (late_marked (c.args.s.clock + 1) c.deliver_rows-delivered.result row h)) c.kill_rows-live.ensures c.released_slots-slots.ensures c.drop_holdings-c.ensures

pub change_state-requires : goal.change_state-requires
change_state-requires c = steps_leave c.args.s c.drop_holdings-c.result (stepped ((goal.at.change_state-requires c).After-drop_holdings-c))

pub try_rows-requires : goal.try_rows-requires
unfolding tick_refusal
try_rows-requires c =
    let w = c.waiting_rows-queue in
    let e = c.change_state.ensures ∙ (stepped ((goal.at.try_rows-requires c).After-drop_holdings-c)) in
    let h = c.in_default.ensures.within in
    (ap sound e ∙ steps_sound c.args.s c.requires.0 h, w.ensures.0, w.ensures.1 ∙ waiters_in_lem c.change_state.new.s, grind (arith, common_steps))

pub returns : goal.returns
unfolding tick_refusal
returns c =
    let t = c.try_rows in
    let e = c.change_state.ensures ∙ (stepped ((goal.at.returns c).After-drop_holdings-c)) in
    let k : tick_refusal c.args.s c.args.room ≡ 0 = grind (arith, common_steps) in
    tick_made c.args.s c.args.room c.args.list.now k t.new.s _ (rw e at t.ensures.0) (rw e at t.ensures.1)
