use native.Mathlib.Omega.{arith}
use Rattle.std.proofs.lemmas.Grind.{common_steps}
use Rattle.model.specs.declared.Setting.TheVariants.{Set}
use Rattle.model.specs.declared.Answer.TheVariants.{Bordered}
use Rattle.model.proofs.Ranges.{state_ok}
use Rattle.rules.specs.Refusals.{borders_refusal}
use Rattle.rules.specs.Calls.{bordered}
use Rattle.calls.proofs.ReplyLaws.{set_after}
use Rattle.calls.proofs.set_borders.Goals as goal

pub returns : goal.returns
unfolding bordered borders_refusal
returns c =
    let a = c.args in
    let t = set_after a.s (state_ok a.s _ c.well_formed.0).sized c.leave_holdings.result _ (Set a.lower a.middle a.upper) Bordered c.leave_holdings.ensures in
    grind (arith, common_steps)
