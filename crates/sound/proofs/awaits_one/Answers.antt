use mathlib.Core.Path.{◌≡◌, refl, sym}
use mathlib.Core.Bool.{Bool, true, false, ◌||◌}
use Prim.Native.Nat.{ℕ}
use native.Mathlib.Omega.{arith}
use Rattle.seq.specs.Below.{all_below, count_below}
use Rattle.seq.proofs.Tests.{and_false_right}
use Rattle.seq.proofs.BelowLaws.{count_at_most, count_more, fail_all}
use Rattle.rules.specs.Sound.{arrived, awaits}
use Rattle.sound.proofs.ElementLaws.{all_next, byte_is, byte_at_most}
use Rattle.sound.proofs.awaits_one.Goals as goal

pub loop-slot-init : goal.loop-slot-init
unfolding all_below count_below
loop-slot-init c = (refl, refl)

pub returns-then-not-has_arrived-awaited : goal.returns-then-not-has_arrived-awaited
unfolding arrived awaits
returns-then-not-has_arrived-awaited c = let s = c.args.s.now in
    let r = c.args.row in
    let p : ℕ → Bool = λ slot. arrived s slot r || awaits s r c.args.due slot in
    let e : p c.loop-slot.slot ≡ false = simp (c.has_arrived.ensures, c.is_pin.ensures) at c.if-not-has_arrived-awaited.true in
    sym (and_false_right _ (all_below 64 p) (fail_all p 64 c.loop-slot.slot (omega arith) e))

pub overflow_add-number : goal.overflow_add-number
overflow_add-number c = omega (arith, count_at_most (awaits c.args.s.now c.args.row c.args.due) c.loop-slot.slot, c.loop-slot.invariant.1, byte_at_most _ _ c.from-number.ensures)

pub loop-slot-preserved : goal.loop-slot-preserved
unfolding arrived awaits
loop-slot-preserved c = let s = c.args.s.now in
    let r = c.args.row in
    let due = c.args.due in
    let p : ℕ → Bool = λ slot. arrived s slot r || awaits s r due slot in
    let e : p c.loop-slot.slot ≡ true = simp (c.has_arrived.ensures, c.is_pin.ensures) at c.if-not-has_arrived-awaited.false in
    (all_next p c.loop-slot.slot c.loop-slot.invariant.0 e, rw (count_more (awaits s r due) c.loop-slot.slot, ← c.loop-slot.invariant.1, c.from-number.ensures, c.is_pin.ensures) (simp byte_is))
