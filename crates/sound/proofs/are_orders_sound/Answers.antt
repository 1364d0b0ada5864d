use mathlib.Core.Path.{refl}
use Rattle.std.proofs.Common.{rules, tests}
use Rattle.rules.specs.Sound.{sound_order}
use Rattle.sound.proofs.RangeLaws.{all_range}
use Rattle.sound.proofs.are_orders_sound.Goals as goal

pub returns : goal.returns
returns c = all_range 4 (sound_order c.args.s.now) _ c.all.result _ refl (λ x b q k. search (rules, tests)) c.all.ensures.ran
