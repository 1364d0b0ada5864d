use Rattle.sabre.proofs.CallLaws.{told_word, finish_refused, finish_left}
use Rattle.sabre.proofs.settle.Goals as goal

pub returns-then-word-eq0 : goal.returns-then-word-eq0
returns-then-word-eq0 c =
    (c.tell-n.ensures.0, c.tell-n.ensures.1, finish_refused c.args.o.answer _ _ _ (told_word _ _ c.tell-n.ensures.1) c.if-word-eq0.true)

pub returns : goal.returns
returns c =
    (c.tell-n.ensures.0, c.tell-n.ensures.1, finish_left c.args.o.answer _ _ _ (told_word _ _ c.tell-n.ensures.1) _ c.if-word-eq0.false c.encode.ensures)
