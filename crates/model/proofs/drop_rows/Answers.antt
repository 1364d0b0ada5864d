use native.Mathlib.Omega.{arith}
use Rattle.std.proofs.Common.{rules}
use Rattle.std.proofs.lemmas.Grind.{common_steps}
use Rattle.model.specs.Inner.Changed.{row_dropped, rows_dropped}
use Rattle.model.proofs.InPlace.{replaced_each, each_replaced}
use Rattle.model.proofs.drop_rows.Goals as goal
use Rattle.model.proofs.drop_rows.Goals.{then-g, else-g}

pub loop-r-preserved : goal.loop-r-preserved
loop-r-preserved c =
    elim c.if-g.branch [
      | then-g w ↦
          let e = each_replaced (row_dropped c.loop-r.r) c.loop-r.holdings w.drop_row.new.holdings c.loop-r.invariant.long w.drop_row.ensures in
          record {
            long = grind (arith, common_steps, e.long);
            at = λ k b. grind (arith, common_steps, c.loop-r.invariant.at k b, e.at k b);
          }
      | else-g w ↦ record {
        long = grind (arith, common_steps);
        at = λ k b. grind (arith, common_steps, c.loop-r.invariant.at k b);
      }
    ]

pub returns : goal.returns
returns c =
    replaced_each (rows_dropped c.args.gone.now) c.args.holdings.now c.loop-r.holdings (search rules) (record {
      long = c.loop-r.invariant.long;
      at = λ k b. grind (arith, common_steps, c.loop-r.invariant.at k b);
    })
