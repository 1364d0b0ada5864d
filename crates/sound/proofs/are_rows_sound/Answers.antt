use mathlib.Core.Path.{refl}
use Rattle.std.proofs.Common.{rules, tests}
use Rattle.rules.specs.Sound.{sound_row}
use Rattle.sound.proofs.RangeLaws.{all_range}
use Rattle.sound.proofs.are_rows_sound.Goals as goal

pub returns : goal.returns
returns c = all_range 32 (sound_row c.args.s.now) _ c.all.result _ refl (λ x b q k. search (rules, tests)) c.all.ensures.ran
