use native.Mathlib.Omega.{arith}
use mathlib.Core.Path.{◌≡◌, refl, ◌∙◌}
use Rattle.model.specs.Inner.Changed.{marked}
use Rattle.area.specs.Inner.Writes.{rows_dropped}
use Rattle.area.proofs.LoopLaws.{drops_turn, skips_turn}
use Rattle.area.proofs.drop_rows.Goals as goal
use Rattle.area.proofs.drop_rows.Goals.{then-goes, else-goes}

pub loop-row-init : goal.loop-row-init
unfolding rows_dropped
loop-row-init c = (refl, refl)

pub loop-row-preserved : goal.loop-row-preserved
loop-row-preserved c = (
  omega arith,
  elim c.if-goes.branch [
    | then-goes w ↦ drops_turn (marked c.args.gone.now) c.loop-row.row c.args.a.now c.loop-row.a c.loop-row.invariant.1 c.if-goes.a w.if-goes.true (w.a-is ∙ w.drop_row.ensures)
    | else-goes w ↦ w.a-is ∙ skips_turn (marked c.args.gone.now) c.loop-row.row c.args.a.now c.loop-row.a c.loop-row.invariant.1 w.if-goes.false
  ],
)

pub returns : goal.returns
returns c = let e : c.loop-row.row ≡ 32 = omega arith in c.loop-row.invariant.1 ∙ rw e
