use mathlib.Core.Path.{refl, sym, ◌∙◌, ap}
use mathlib.Core.Bool.{not}
use native.Mathlib.Omega.{arith}
use Rattle.seq.specs.Below.{all_below}
use Rattle.seq.proofs.BelowLaws.{fail_all}
use Rattle.sound.specs.Inner.Tests.{place_taken}
use Rattle.sound.proofs.ElementLaws.{all_next}
use Rattle.sound.proofs.PageLaws.{noted_none, noted_more, noted_taken}
use Rattle.sound.proofs.are_pages_apart.Goals as goal

pub loop-x-init : goal.loop-x-init
unfolding all_below
loop-x-init c = (refl, noted_none c.args.slots.now c.no_pages-seen.result c.no_pages-seen.ensures)

pub returns-then-seen-k : goal.returns-then-seen-k
returns-then-seen-k c = let slots = c.args.slots.now in
    let w = c.loop-x in
    let k = c.place_of-k in
    let t = noted_taken slots w.x-index k.result w.seen k.ensures.1 k.ensures.0 w.invariant.1 in
    sym (fail_all (λ slot. not (place_taken slots slot)) 64 w.x-index (omega arith) (ap not (sym t ∙ c.if-seen-k.true)))

pub loop-x-preserved : goal.loop-x-preserved
loop-x-preserved c = let slots = c.args.slots.now in
    let w = c.loop-x in
    let k = c.place_of-k in
    let t = noted_taken slots w.x-index k.result w.seen k.ensures.1 k.ensures.0 w.invariant.1 in
    (all_next (λ slot. not (place_taken slots slot)) w.x-index w.invariant.0 (ap not (sym t ∙ c.if-seen-k.false)), noted_more slots w.x-index k.result w.seen _ k.ensures.1 k.ensures.0 (grind arith) w.invariant.1)
