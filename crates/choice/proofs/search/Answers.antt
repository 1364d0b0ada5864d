use Rattle.std.proofs.Common.{◌≡◌, length, cond, refl, sym, ◌∙◌, arith}
use Rattle.seq.specs.declared.Found.TheVariants.{At}
use Rattle.seq.specs.Below.{pick_below}
use Rattle.choice.specs.Inner.Search.{pick_in}
use Rattle.choice.proofs.SearchLaws.{below, item_fails, item_first, item_beside}
use Rattle.choice.proofs.search.Goals as goal
use Rattle.choice.proofs.search.Goals.{then-before, else-before}

pub loop-i-init : goal.loop-i-init
unfolding pick_below
loop-i-init g c = (λ j e. cc, λ p q d t o. refl)

pub offset_bounds-items-j : goal.offset_bounds-items-j
offset_bounds-items-j g c = let h = c.loop-i.invariant.0 c.in-At.j c.in-At.is in omega arith

pub bounds-items-j : goal.bounds-items-j
bounds-items-j g c = c.loop-i.invariant.0 c.in-At.j c.in-At.is

pub loop-i-preserved-then-not-test : goal.loop-i-preserved-then-not-test
loop-i-preserved-then-not-test g c = (
  c.loop-i.invariant.0,
  λ p q d t o.
      item_fails c.args.items.now p q d c.loop-i.i c.index-items-i.result c.loop-i-test.true c.index-items-i.is c.loop-i.found (c.loop-i.invariant.1 p q d t o)
      (sym c.if-not-test.true ∙ t c.index-items-i.result c.test.result (record { shown = _; shows = refl; says = record { met = c.test.ensures } })),
)

pub loop-i-preserved-in_default : goal.loop-i-preserved-in_default
loop-i-preserved-in_default g c = (
  λ j e. let k : c.loop-i.i ≡ j = cc in let h = c.loop-i-test.true in omega arith,
  λ p q d t o.
      item_first c.args.items.now p q d c.loop-i.i c.index-items-i.result c.loop-i-test.true c.index-items-i.is c.loop-i.found (c.loop-i.invariant.1 p q d t o) c.in_default.is
      (sym c.if-not-test.false ∙ t c.index-items-i.result c.test.result (record { shown = _; shows = refl; says = record { met = c.test.ensures } })),
)

pub loop-i-preserved : goal.loop-i-preserved
loop-i-preserved g c =
    let next : c.if-before.found ≡ cond c.before-in-loop-i.result (At c.loop-i.i) (At c.in-At.j) =
    elim c.if-before.branch [ then-before w ↦ w.found-is ∙ rw w.if-before.true | else-before w ↦ w.found-is ∙ rw w.if-before.false ] in (
      λ j e. below c.loop-i.i c.in-At.j j (length c.args.items.now) c.before-in-loop-i.result c.loop-i-test.true (c.loop-i.invariant.0 c.in-At.j c.in-At.is) (sym next ∙ e),
      λ p q d t o.
          item_beside c.args.items.now p q d c.loop-i.i c.index-items-i.result c.loop-i-test.true c.index-items-i.is c.loop-i.found c.if-before.found c.in-At.j c.index-items-j.result c.before-in-loop-i.result
          (c.loop-i.invariant.1 p q d t o) c.in-At.is (c.loop-i.invariant.0 c.in-At.j c.in-At.is) c.index-items-j.is
          (sym c.if-not-test.false ∙ t c.index-items-i.result c.test.result (record { shown = _; shows = refl; says = record { met = c.test.ensures } }))
          (o c.index-items-i.result c.index-items-j.result c.before-in-loop-i.result (record { first = _; second = _; shows = (refl, refl); says = record { met = c.before-in-loop-i.ensures } }))
          next,
    )

pub returns : goal.returns
unfolding pick_in
returns g c = λ p q d t o. let e : c.loop-i.i ≡ length c.args.items.now = omega arith in rw (← e) (c.loop-i.invariant.1 p q d t o)
