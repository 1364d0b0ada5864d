use Rattle.rules.specs.Answers.{slot_told}
use mathlib.Core.List.{◌++◌}
use lib.ListN.{drop, length}
use Rattle.model.specs.declared.State.{State}
use Rattle.area.specs.Layout.{encoded}
use native.Mathlib.Omega.{arith}
use mathlib.Core.Path.{refl, sym, ◌∙◌, ap}
use Rattle.sabre.proofs.CallLaws.{refused_1, refusal_positive, start_refused, start_accepted}
use borrow.Author.Tests.{lt-ltb}
use Rattle.model.specs.declared.Call.TheVariants.{Start}
use Rattle.calls.specs.Inner.Refused.{number_in}
use Rattle.sabre.specs.Lent.{unfit}
use Rattle.sabre.proofs.start.Goals as goal

pub returns-then-area-lt65536 : goal.returns-then-area-lt65536
unfolding unfit
returns-then-area-lt65536 c =
    let p = refused_1 c.args.area.now (Start c.args.slots c.args.delay) _ _ (lt-ltb (length c.args.area.now) 65536 c.if-area-lt65536.true) c.refuse.ensures.0 c.refuse.ensures.1 in
    record { returned = p.returned; told = p.told; left = p.left }

pub returns-in-Err : goal.returns-in-Err
returns-in-Err c =
    let n = ap number_in (sym c.in-Err.is) ∙ c.check_start.ensures in
    let p = start_refused c.args.area.now c.args.slots c.args.delay _ _ _ (omega arith) _ n (refusal_positive c.in-Err.e) c.refuse-in-Err.ensures.0 c.refuse-in-Err.ensures.1 refl in
    record { returned = p.returned; told = p.told; left = p.left }

pub tell-requires : goal.tell-requires
unfolding slot_told
tell-requires c = omega arith

pub returns : goal.returns
returns c =
    let n = ap number_in (sym c.in_default.is) ∙ c.check_start.ensures in
    let p = start_accepted c.args.area.now c.args.slots c.args.delay _ _ _ (omega arith) _ n refl c.tell.ensures.0 c.tell.ensures.1 (c.encode.ensures ∙ ap (λ (s : State). encoded s ++ drop 65536 c.args.area.now) c.fresh_state-s.ensures) in
    record { returned = p.returned; told = p.told; left = p.left }
