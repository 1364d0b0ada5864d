use Rattle.sabre.proofs.CallLaws.{told_word, finish_refused, finish_left}
use Rattle.sabre.proofs.finish.Goals as goal

pub returns-then-answer-eq0 : goal.returns-then-answer-eq0
returns-then-answer-eq0 c = (c.tell-n.ensures.0, c.tell-n.ensures.1, finish_refused c.args.r.answer _ _ _ (told_word _ _ c.tell-n.ensures.1) c.if-answer-eq0.true)

pub returns : goal.returns
returns c = (c.tell-n.ensures.0, c.tell-n.ensures.1, finish_left c.args.r.answer _ _ _ (told_word _ _ c.tell-n.ensures.1) _ c.if-answer-eq0.false c.amend.ensures)
