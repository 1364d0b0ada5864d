use native.Mathlib.Omega.{arith}
use Rattle.model.proofs.Ranges.{state_ok}
use Rattle.serve.proofs.ReplyLaws.{taken_slot}
use Rattle.serve.proofs.ServeLaws.{found_at, chosen_at, serve_wait, serve_into, serve_plan_wait, serve_plan_grant}
use Rattle.serve.proofs.serve.Goals as goal

pub returns-in_default-choose : goal.returns-in_default-choose
returns-in_default-choose c =
    let a = c.args in
    let f = c.find_page in
    serve_wait a.s a.row a.page a.mode (state_ok a.s _ c.well_formed.0).sized c.requires.1
    f.result f.ensures c.in_default.is c.choose.result c.choose.ensures c.in_default-choose.is c.wait.result c.wait.ensures

pub into_slot-requires : goal.into_slot-requires
into_slot-requires c = let a = c.args in chosen_at a.s a.row a.page a.mode c.choose.result c.in-At-choose.chosen c.requires.0 c.choose.ensures c.in-At-choose.is

pub returns-in_default : goal.returns-in_default
returns-in_default c =
    let a = c.args in
    let f = c.find_page in
    let g = c.choose in
    let at = c.in-At-choose in
    serve_into a.s a.row a.page a.mode (state_ok a.s _ c.well_formed.0).sized c.requires.1
    f.result f.ensures c.in_default.is g.result g.ensures at.chosen at.is (chosen_at a.s a.row a.page a.mode g.result at.chosen c.requires.0 g.ensures at.is) c.into_slot.result c.into_slot.ensures

pub held_on-held-requires : goal.held_on-held-requires
held_on-held-requires c = let a = c.args in found_at a.s a.row a.page a.mode c.find_page.result c.in-At.slot c.requires.0 c.find_page.ensures c.in-At.is

pub offset_bounds-s-slot : goal.offset_bounds-s-slot
offset_bounds-s-slot c = let a = c.args in let h = found_at a.s a.row a.page a.mode c.find_page.result c.in-At.slot c.requires.0 c.find_page.ensures c.in-At.is in omega arith

pub bounds-s-slot : goal.bounds-s-slot
bounds-s-slot c = let a = c.args in found_at a.s a.row a.page a.mode c.find_page.result c.in-At.slot c.requires.0 c.find_page.ensures c.in-At.is

pub returns-in_default-plan_steps : goal.returns-in_default-plan_steps
returns-in_default-plan_steps c =
    let a = c.args in
    let f = c.find_page in
    let p = c.plan_steps in
    serve_plan_wait a.s a.row a.page a.mode (state_ok a.s _ c.well_formed.0).sized c.requires.1
    f.result f.ensures c.in-At.slot c.in-At.is c.held_on-held.result c.held_on-held.ensures p.result p.ensures c.in_default-plan_steps.is c.wait-in_default-plan_steps.result c.wait-in_default-plan_steps.ensures

pub grant-requires : goal.grant-requires
grant-requires c =
    let a = c.args in
    taken_slot a.s c.in-Some.plan.marks c.in-At.slot c.held_on-held.result c.take_rows-c.result c.take_rows-c.ensures
    (found_at a.s a.row a.page a.mode c.find_page.result c.in-At.slot c.requires.0 c.find_page.ensures c.in-At.is)

pub returns : goal.returns
returns c =
    let a = c.args in
    let f = c.find_page in
    let p = c.plan_steps in
    serve_plan_grant a.s a.row a.page a.mode (state_ok a.s _ c.well_formed.0).sized c.requires.1
    f.result f.ensures c.in-At.slot c.in-At.is c.held_on-held.result c.held_on-held.ensures p.result p.ensures
    c.in-Some.plan c.in-Some.is (found_at a.s a.row a.page a.mode f.result c.in-At.slot c.requires.0 f.ensures c.in-At.is)
    c.take_rows-c.result c.grant.result c.take_rows-c.ensures c.grant.ensures
