use Rattle.std.proofs.Common.{rules}
use native.Mathlib.Omega.{arith}
use Rattle.model.proofs.ElementLaws.{turned_all}
use Rattle.model.proofs.replace_marked.Goals as goal

pub returns : goal.returns
returns g c = turned_all _ c.loop-row.row 32 c.args.x c.args.xs c.loop-row.y-items (search rules) c.loop-row.invariant.0 (omega arith) c.loop-row.invariant.1
