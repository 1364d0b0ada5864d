use native.Mathlib.Omega.{arith}
use Rattle.words.proofs.SpliceLaws.{zeros_put}
use Rattle.words.proofs.put_zeros.Goals as goal

pub returns : goal.returns
returns c = zeros_put c.args.a.now c.fill.new.self c.args.at c.args.n _ c.requires (omega arith) (c.fill.ensures.after (λ y h. h))
