use mathlib.Core.Path.{refl}
use native.Mathlib.Omega.{arith}
use lib.ListN.{length-set}
use Rattle.words.proofs.WroteLaws.{wrote_one}
use Rattle.record.proofs.Sheet.byte.Goals as goal

pub returns : goal.returns
returns c =
    let s = c.args.self.now in
    record { same = refl; long = simp length-set; within = omega arith; wrote = wrote_one s.out.now s.end c.args.b c.requires }
