use mathlib.Core.Path.{◌≡◌, ◌∙◌, ap}
use Prim.Native.Nat.{ℕ, ◌+◌, ◌≤◌}
use native.Mathlib.Omega.{arith}
use lib.ListN.{set}
use Rattle.std.proofs.lemmas.Grind.{common_steps}
use Rattle.model.specs.declared.Answer.TheVariants.{Begun}
use Rattle.model.specs.declared.Condition.TheVariants.{Idle}
use Rattle.model.specs.declared.Setting.TheVariants as Setting
use Rattle.model.specs.declared.State.{State}
use Rattle.model.specs.Parties.{row_of, level_of}
use Rattle.model.specs.State.{with_rows}
use Rattle.model.specs.Changes.{rows_not_free}
use Rattle.model.specs.Inner.Changed.{with_setting}
use Rattle.model.proofs.Ranges.{state_ok}
use Rattle.rules.specs.Refusals.{begin_refusal}
use Rattle.rules.specs.Calls.{row_begun, begun}
use Rattle.calls.proofs.ReplyLaws.{set_after}
use Rattle.calls.proofs.begin.Goals as goal

begun_is : (s : State) (level number deadline row place : ℕ) → row ≡ row_of level number → place ≡ rows_not_free s.rows level + 1 → number ≤ 7
    → with_setting (with_rows s (set s.rows row (record { condition = Idle; deadline = deadline }))) (Setting.Begun row place) ≡ row_begun s (row_of level number) deadline
begun_is s level number deadline row place e f h =
    let l : level_of (row_of level number) ≡ level = omega arith in
    rw (e, f, l)

pub returns : goal.returns
unfolding begun begin_refusal
returns c =
    let a = c.args in
    let row = c.in_ok-row.row in
    let n = c.rows_not_free-place in
    let taken : record { state = row_begun a.s (row_of a.level a.number) a.deadline; answer = Begun } ≡ begun a.s a.level a.number a.deadline = grind (arith, common_steps) in
    let e : row ≡ row_of a.level a.number = grind (arith, common_steps) in
    let t = begun_is a.s a.level a.number a.deadline row (n.result + 1) e (ap (λ (k : ℕ). k + 1) n.ensures.0) c.in_ok-row.ensures.within.1 in
    set_after a.s (state_ok a.s _ c.well_formed.0).sized c.leave_holdings.result _ (Setting.Begun row (n.result + 1)) Begun c.leave_holdings.ensures
    ∙ (λ j. record { state = t j; answer = Begun }) ∙ taken
