use mathlib.Core.Path.{◌≡◌, refl}
use native.Mathlib.Omega.{arith}
use lib.ListN.{length}
use Rattle.words.specs.Bytes.{joined}
use Rattle.words.proofs.SpliceLaws.{spliced_none}
use Rattle.area.proofs.LoopLaws.{put_next}
use Rattle.area.proofs.put_all.Goals as goal

pub loop-i-init : goal.loop-i-init
unfolding joined
loop-i-init g c = record { long = refl; put = λ d. spliced_none c.args.a.now c.args.base }

pub loop-i-preserved : goal.loop-i-preserved
loop-i-preserved g c = record {
  long = omega arith;
  put = λ d. put_next g.T.Stored.words_of g.T.Stored.BYTES g.met.T.Stored.wide c.args.a.now c.loop-i.a c.put.new.a c.args.base c.loop-i.i c.BYTES.result c.args.xs.now c.index-xs-i.result d c.BYTES.ensures c.requires (omega arith) (c.loop-i.invariant.put d) c.index-xs-i.is c.put.ensures;
}

pub returns : goal.returns
returns g c = λ d. let e : c.loop-i.i ≡ length c.args.xs.now = omega arith in rw e at (c.loop-i.invariant.put d)
