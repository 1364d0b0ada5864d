use Rattle.std.proofs.Common.{rules}
use Rattle.model.proofs.StateLaws.{fresh_is}
use Rattle.model.proofs.fresh_state.Goals as goal

pub returns : goal.returns
returns c = fresh_is c.args.slots c.args.delay c.default.result c.default-2.result c.default-3.result (search rules) (search rules) (search rules)
