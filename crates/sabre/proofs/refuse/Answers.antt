use native.Mathlib.Omega.{arith}
use Rattle.rules.specs.Answers.{slot_told}
use Rattle.sabre.proofs.refuse.Goals as goal

pub tell-requires : goal.tell-requires
unfolding slot_told
tell-requires c = omega arith
