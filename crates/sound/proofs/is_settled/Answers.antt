use mathlib.Core.Path.{refl}
use Rattle.std.proofs.Common.{rules, tests}
use Rattle.rules.specs.Sound.{arrived}
use Rattle.sound.proofs.RangeLaws.{all_range}
use Rattle.sound.proofs.is_settled.Goals as goal

pub returns : goal.returns
unfolding arrived
returns c = all_range 64 (λ slot. arrived c.args.s.now slot c.args.row) _ c.all.result _ refl (λ x b q k. search (rules, tests)) c.all.ensures.ran
