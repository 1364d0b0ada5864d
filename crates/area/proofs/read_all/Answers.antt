use mathlib.Core.Path.{refl}
use native.Mathlib.Omega.{arith}
use Rattle.seq.specs.Below.{all_below}
use Rattle.seq.proofs.EachLaws.{each_below_none}
use Rattle.area.proofs.LoopLaws.{read_next, exact_next, read_end}
use Rattle.area.proofs.read_all.Goals as goal

pub loop-i-init : goal.loop-i-init
unfolding all_below
loop-i-init g c = record { read = each_below_none _ _; exact = refl }

pub loop-i-preserved : goal.loop-i-preserved
loop-i-preserved g c = record {
  read = read_next g.T.Stored.words_of g.T.Stored.from c.args.a.now c.args.base g.T.Stored.BYTES c.loop-i.i c.BYTES.result c.BYTES.ensures c.read-y.result c.read-y.ensures c.args.xs.now c.loop-i.xs (omega arith) c.loop-i.invariant.read;
  exact = exact_next g.T.Stored.words_of g.T.Stored.from c.args.a.now c.args.base g.T.Stored.BYTES c.loop-i.i c.BYTES.result c.BYTES.ensures c.read-y.result c.read-y.ensures c.loop-i.exact c.is_exact-exact.result c.loop-i.invariant.exact c.is_exact-exact.ensures;
}

pub returns-clause-read : goal.returns-clause-read
returns-clause-read g c = read_end _ c.args.xs.now c.loop-i.xs c.loop-i.i (omega arith) c.loop-i.invariant.read
