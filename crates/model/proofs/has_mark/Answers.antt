use Rattle.std.proofs.Common.{rules}
use mathlib.Core.Bool.{Bool, false}
use Rattle.seq.proofs.Tests.{tests}
use Rattle.seq.proofs.IterLaws.{any_slice}
use Rattle.model.proofs.has_mark.Goals as goal

pub returns : goal.returns
returns c = any_slice c.args.marks.now 32 (search rules) false _ c.any.result _ (λ (b : Bool). b) (cc) (λ x b q k. search (rules, tests)) c.any.ensures.ran
