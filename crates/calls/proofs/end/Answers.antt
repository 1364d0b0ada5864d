use mathlib.Core.Path.{◌≡◌, ◌∙◌}
use native.Mathlib.Omega.{arith}
use Rattle.std.proofs.lemmas.Grind.{common_steps}
use Rattle.model.specs.declared.Answer.TheVariants.{Ended}
use Rattle.model.specs.declared.Setting.TheVariants as Setting
use Rattle.model.specs.Parties.{row_of}
use Rattle.model.specs.Changes.{released}
use Rattle.model.specs.Inner.Changed.{with_setting}
use Rattle.model.proofs.Ranges.{state_ok}
use Rattle.rules.specs.Refusals.{end_refusal}
use Rattle.rules.specs.Calls.{row_ended, ended}
use Rattle.calls.proofs.MarkLaws.{ended_row}
use Rattle.calls.proofs.ReplyLaws.{drop_after}
use Rattle.calls.proofs.end.Goals as goal

pub returns : goal.returns
unfolding ended end_refusal released
returns c =
    let a = c.args in
    let taken : record { state = row_ended a.s (row_of a.level a.number); answer = Ended } ≡ ended a.s a.level a.number = grind (arith, common_steps) in
    let e : c.in_ok-row.row ≡ row_of a.level a.number = grind (arith, common_steps) in
    let h = c.in_ok-row.ensures.within in
    let t = ended_row a.s _ _ c.default.result e (omega arith) (λ j. record { condition = c.default.ensures.0 j; deadline = c.default.ensures.1 j }) in
    drop_after a.s (state_ok a.s _ c.well_formed.0).sized c.drop_holdings-change.result a.s.clock _ c.released_slots-slots.result _ (Setting.Ended c.in_ok-row.row) Ended c.drop_holdings-change.ensures c.released_slots-slots.ensures
    ∙ (λ j. record { state = with_setting (t j) (Setting.Ended (e j)); answer = Ended }) ∙ taken
