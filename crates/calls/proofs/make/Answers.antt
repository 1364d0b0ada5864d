use native.Mathlib.Omega.{arith}
use Rattle.std.proofs.lemmas.Grind.{common_steps}
use Rattle.model.proofs.Ranges.{state_ok}
use Rattle.rules.specs.Run.{outcome}
use Rattle.calls.proofs.ReplyLaws.{left_after}
use Rattle.calls.proofs.make.Goals as goal

pub returns-in-Err : goal.returns-in-Err
unfolding outcome
returns-in-Err c =
    let t = left_after c.args.s (state_ok c.args.s _ c.well_formed.0).sized c.leave_holdings.result _ _ c.leave_holdings.ensures in
    grind (arith, common_steps)
