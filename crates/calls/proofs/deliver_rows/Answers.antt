use mathlib.Core.Path.{◌≡◌, ◌∙◌}
use Prim.Native.Nat.{ℕ}
use native.Mathlib.Omega.{arith}
use lib.ListN.{length}
use Rattle.seq.proofs.EachLaws.{each_below_none, each_below_turn, each_below_all}
use Rattle.model.specs.declared.Row.{Row}
use Rattle.model.specs.State.{free_row}
use Rattle.rules.specs.Calls.{delivered_row}
use Rattle.calls.proofs.deliver_rows.Goals as goal

abbrev delivering : ℕ → ℕ → Row → Row
delivering clock row x = delivered_row clock x

pub loop-x-init : goal.loop-x-init
loop-x-init c = each_below_none (delivering c.args.clock) c.args.rows

pub loop-x-preserved : goal.loop-x-preserved
loop-x-preserved c =
    let l : length c.args.rows ≡ 32 = c.well_formed.0.1.0.1 in
    each_below_turn (delivering c.args.clock) c.args.rows c.loop-x.x-index free_row c.loop-x.x-items c.delivered_row.result (omega arith) c.loop-x.invariant c.delivered_row.ensures

pub returns : goal.returns
returns c = let l : length c.args.rows ≡ 32 = c.well_formed.0.1.0.1 in c.loop-x.invariant ∙ each_below_all (delivering c.args.clock) c.args.rows c.loop-x.x-index free_row (omega arith)
