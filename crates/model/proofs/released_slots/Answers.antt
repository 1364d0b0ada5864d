use Rattle.model.proofs.Releasing.{unmarked_slots}
use Rattle.model.proofs.released_slots.Goals as goal

pub returns-else-has_mark : goal.returns-else-has_mark
returns-else-has_mark c = unmarked_slots c.args.s c.args.clock c.args.marks c.has_mark.result c.has_mark.ensures c.if-has_mark.false
