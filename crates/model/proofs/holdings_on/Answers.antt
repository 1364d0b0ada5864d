use Rattle.std.proofs.Common.{rules}
use native.Mathlib.Omega.{arith}
use Rattle.model.proofs.SlotHoldings.{part_is}
use Rattle.model.proofs.holdings_on.Goals as goal

pub returns : goal.returns
returns c = part_is c.args.s.now c.args.slot _ (search rules) c.requires (omega arith)
