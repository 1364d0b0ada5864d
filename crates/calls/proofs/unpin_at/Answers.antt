use mathlib.Core.Path.{◌∙◌}
use Rattle.model.specs.declared.Answer.TheVariants.{Unpinned}
use Rattle.model.specs.Inner.Changed.{outcome_of}
use Rattle.model.specs.Ranges.{Sized}
use Rattle.calls.proofs.UnpinLaws.{pin_is, unpin_changed}
use Rattle.calls.proofs.unpin_at.Goals as goal

pub returns-then-not-is_pin : goal.returns-then-not-is_pin
returns-then-not-is_pin c =
    let a = c.args in
    rw (pin_is a.s.now a.row a.slot c.requires.0 c.held_on-held.result c.is_pin.result c.held_on-held.ensures c.is_pin.ensures, c.if-not-is_pin.true)

pub returns : goal.returns
unfolding outcome_of
returns c =
    let a = c.args in
    let on = c.held_on-held in
    let p = c.type_inv.s in
    let z : Sized a.s.now = record { rows = p.1.1.1.0.1.0.1; places = p.1.1.1.1.0.1.0.1; slots = p.1.1.1.1.1.0.1.0.1; holdings = p.1.1.1.1.1.1.0.1.0.1 } in
    (λ j. record { state = unpin_changed a.s.now z a.row a.slot c.requires.0 c.requires.1 on.result c.is_written.result c.marked_slot.result on.ensures c.is_written.ensures c.marked_slot.ensures j; answer = Unpinned })
    ∙ rw (pin_is a.s.now a.row a.slot c.requires.0 on.result c.is_pin.result on.ensures c.is_pin.ensures, c.if-not-is_pin.false)
