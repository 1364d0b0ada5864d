use Rattle.calls.proofs.SlotLaws.{view_pin, view_dormant, view_none}
use Rattle.calls.proofs.view_slot.Goals as goal

pub returns-then-see : goal.returns-then-see
returns-then-see c = view_pin c.args.s.now c.args.level c.args.slot c.held_on-held.result c.held_on-held.ensures c.see.result c.see.ensures c.strongest_pin-p.result c.least_arrival-least.result c.pin_answer.result c.if-see.true c.strongest_pin-p.ensures c.least_arrival-least.ensures c.pin_answer.ensures

pub returns-then-see_dormant : goal.returns-then-see_dormant
returns-then-see_dormant c = view_dormant c.args.s.now c.args.level c.args.slot c.held_on-held.result c.held_on-held.ensures c.see.result c.see.ensures c.see_dormant.result c.arrival_in.result c.if-see.false c.see_dormant.ensures c.if-see_dormant.true c.arrival_in.ensures

pub returns : goal.returns
returns c = view_none c.args.s.now c.args.level c.args.slot c.held_on-held.result c.held_on-held.ensures c.see.result c.see.ensures c.see_dormant.result c.if-see.false c.see_dormant.ensures c.if-see_dormant.false
