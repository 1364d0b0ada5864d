use native.Mathlib.Omega.{arith}
use Rattle.serve.proofs.DirtyLaws.{released_none, released_more, released_same, released_all}
use Rattle.serve.proofs.release.Goals.{then-g, else-g}
use Rattle.serve.proofs.release.Goals as goal

pub loop-r-init : goal.loop-r-init
loop-r-init c = released_none c.args.s.now c.args.gone.now

pub loop-r-preserved : goal.loop-r-preserved
loop-r-preserved c =
    let l = c.loop-r in
    elim c.if-g.branch [
      | then-g w ↦ rw w.slots-is (released_more c.args.s.now c.args.gone.now l.r l.slots l.invariant w.mark_written.new.slots w.if-g.true w.mark_written.ensures)
      | else-g w ↦ rw w.slots-is (released_same c.args.s.now c.args.gone.now l.r l.slots l.invariant w.if-g.false)
    ]

pub returns : goal.returns
returns c = released_all c.args.s.now c.args.gone.now c.loop-r.r c.loop-r.slots (omega arith) c.loop-r.invariant
