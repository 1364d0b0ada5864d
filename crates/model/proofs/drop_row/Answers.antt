use native.Mathlib.Omega.{arith}
use Rattle.std.proofs.Common.{rules}
use Rattle.std.proofs.lemmas.Grind.{common_steps}
use Rattle.model.specs.Inner.Changed.{row_dropped}
use Rattle.model.proofs.InPlace.{replaced_each}
use Rattle.model.proofs.drop_row.Goals as goal

pub returns : goal.returns
returns c =
    replaced_each (row_dropped c.args.row) c.args.holdings.now c.loop-i.holdings (search rules) (record {
      long = c.loop-i.invariant.long;
      at = λ k b. grind (arith, common_steps, c.loop-i.invariant.at k b);
    })
