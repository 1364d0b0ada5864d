use native.Mathlib.Omega.{arith}
use Rattle.sabre.proofs.CallLaws.{told_narrow, told_refused, told_accepted}
use Rattle.sabre.proofs.tell.Goals as goal

pub overflow_cast-result : goal.overflow_cast-result
overflow_cast-result c =
    let h = told_narrow _ _ c.answer_numbers-numbers.ensures _ c.well_formed.1.0 c.if-numbers-eq0.true in
    omega (arith, h)

pub returns-then-numbers-eq0 : goal.returns-then-numbers-eq0
returns-then-numbers-eq0 c = (told_refused _ _ c.answer_numbers-numbers.ensures c.if-numbers-eq0.true, c.answer_numbers-numbers.ensures)

pub returns : goal.returns
returns c = (told_accepted _ _ c.answer_numbers-numbers.ensures c.if-numbers-eq0.false, c.answer_numbers-numbers.ensures)
