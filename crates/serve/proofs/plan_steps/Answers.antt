use mathlib.Core.Path.{◌≡◌}
use Rattle.std.proofs.Common.{rules, of_calls}
use borrow.Author.Tests.{tests}
use Rattle.serve.specs.Inner.SlotHoldings.{conflicting, marks_of}
use Rattle.serve.proofs.StepLaws.{plan_waits, plan_seen, plan_dormant, plan_unseen}
use Rattle.serve.proofs.plan_steps.Goals.{After-see}
use Rattle.serve.proofs.plan_steps.Goals as goal

marked : (c : After-see) → c.mark_rows-marks.result ≡ marks_of c.args.held.now (conflicting c.args.q.row c.args.q.mode)
marked c =
    c.mark_rows-marks.ensures (conflicting c.args.q.row c.args.q.mode) (λ r b h k. search (rules, of_calls, tests))

pub returns-then-must_wait : goal.returns-then-must_wait
returns-then-must_wait c =
    let a = c.args in
    plan_waits a.held.now a.s.now.rows a.s.now.places a.x a.q.row a.q.mode a.q.due c.mark_rows-marks.result (marked (goal.at.returns-then-must_wait c).After-see) c.see.result c.see.ensures
    c.if-see.true c.ranks-ranks.result c.ranks-ranks.ensures c.must_wait.result c.must_wait.ensures c.if-must_wait.true

pub returns-then-see : goal.returns-then-see
returns-then-see c =
    let a = c.args in
    plan_seen a.held.now a.s.now.rows a.s.now.places a.x a.q.row a.q.mode a.q.due c.mark_rows-marks.result (marked (goal.at.returns-then-see c).After-see) c.see.result c.see.ensures
    c.if-see.true c.ranks-ranks.result c.ranks-ranks.ensures c.must_wait.result c.must_wait.ensures c.if-must_wait.false c.least_arrival-arrival.result c.least_arrival-arrival.ensures

pub returns-then-see_dormant : goal.returns-then-see_dormant
returns-then-see_dormant c =
    let a = c.args in
    plan_dormant a.held.now a.s.now.rows a.s.now.places a.x a.q.row a.q.mode a.q.due c.mark_rows-marks.result (marked (goal.at.returns-then-see_dormant c).After-see) c.see.result c.see.ensures
    c.if-see.false c.see_dormant.result c.see_dormant.ensures c.if-see_dormant.true c.arrival_in.result c.arrival_in.ensures

pub returns : goal.returns
returns c =
    let a = c.args in
    plan_unseen a.held.now a.s.now.rows a.s.now.places a.x a.q.row a.q.mode a.q.due c.mark_rows-marks.result (marked (goal.at.returns c).After-see) c.see.result c.see.ensures
    c.if-see.false c.see_dormant.result c.see_dormant.ensures c.if-see_dormant.false
