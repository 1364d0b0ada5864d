use mathlib.Core.Path.{◌≡◌, refl, sym, ◌∙◌, ap}
use mathlib.Core.Bool.{true}
use Prim.Native.Nat.{ℕ}
use native.Mathlib.Omega.{arith}
use Rattle.seq.specs.Below.{all_below}
use Rattle.seq.proofs.BelowLaws.{fail_all}
use Rattle.model.specs.State.{holding_at}
use Rattle.rules.specs.Sound.{sound_holding}
use Rattle.sound.specs.Inner.Tests.{weight_below}
use Rattle.sound.proofs.ElementLaws.{all_next}
use Rattle.sound.proofs.PinLaws.{weight_turn, weight_at_most, pins_end}
use Rattle.sound.proofs.are_slot_holdings_sound.Goals as goal

pub loop-row-init : goal.loop-row-init
unfolding all_below weight_below
loop-row-init c = (refl, refl)

pub returns-then-not-is_holding_sound : goal.returns-then-not-is_holding_sound
returns-then-not-is_holding_sound c = let p = sound_holding c.args.s.now c.args.slot in
    rw (fail_all p 32 c.loop-row.row (omega arith) (sym c.is_holding_sound.ensures ∙ c.if-not-is_holding_sound.true))

pub overflow_add-weight : goal.overflow_add-weight
overflow_add-weight c = omega (arith, c.pin_weight-weight.ensures.1, c.loop-row.invariant.1, weight_at_most (λ row. (holding_at c.args.s.now c.args.slot row).pin) c.loop-row.row)

pub loop-row-preserved : goal.loop-row-preserved
loop-row-preserved c = let s = c.args.s.now in
    let w = c.loop-row in (
      all_next (sound_holding s c.args.slot) w.row w.invariant.0 (sym c.is_holding_sound.ensures ∙ c.if-not-is_holding_sound.false),
      weight_turn (λ row. (holding_at s c.args.slot row).pin) w.row w.weight c.pin_weight-weight.result w.invariant.1 c.pin_weight-weight.ensures.0,
    )

pub returns : goal.returns
returns c = let s = c.args.s.now in
    let w = c.loop-row in
    let e : c.loop-row.row ≡ 32 = omega arith in
    let f : all_below 32 (sound_holding s c.args.slot) ≡ true = ap (λ (n : ℕ). all_below n (sound_holding s c.args.slot)) (sym e) ∙ w.invariant.0 in
    rw f (pins_end s c.args.slot w.row w.weight e w.invariant.1)
