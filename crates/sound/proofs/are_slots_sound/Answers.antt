use mathlib.Core.Path.{refl}
use Rattle.std.proofs.Common.{rules, tests}
use Rattle.rules.specs.Sound.{sound_slot}
use Rattle.sound.proofs.RangeLaws.{all_range}
use Rattle.sound.proofs.are_slots_sound.Goals as goal

pub returns : goal.returns
returns c = all_range 64 (sound_slot c.args.s.now) _ c.all.result _ refl (λ x b q k. search (rules, tests)) c.all.ensures.ran
