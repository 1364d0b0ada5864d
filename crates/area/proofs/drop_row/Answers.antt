use native.Mathlib.Omega.{arith}
use mathlib.Core.Path.{◌≡◌, refl, ◌∙◌}
use Rattle.area.specs.Inner.Writes.{row_dropped}
use Rattle.area.proofs.LoopLaws.{drop_turn}
use Rattle.area.proofs.drop_row.Goals as goal

pub loop-i-init : goal.loop-i-init
unfolding row_dropped
loop-i-init c = (refl, refl)

pub loop-i-preserved : goal.loop-i-preserved
loop-i-preserved c = (omega arith, drop_turn c.args.row c.loop-i.i c.args.a.now c.loop-i.a _ c.loop-i.invariant.1 c.put_zeros.ensures)

pub returns : goal.returns
returns c = let e : c.loop-i.i ≡ 64 = omega arith in c.loop-i.invariant.1 ∙ rw e
