use mathlib.Core.Path.{refl}
use mathlib.Core.Bool.{◌&&◌}
use Rattle.std.proofs.Common.{rules, tests}
use Rattle.seq.specs.Below.{all_below}
use Rattle.rules.specs.Sound.{sound_holding, sound_pins}
use Rattle.sound.proofs.RangeLaws.{all_range}
use Rattle.sound.proofs.are_holdings_sound.Goals as goal

pub returns : goal.returns
returns c = let s = c.args.s.now in
    all_range 64 (λ slot. all_below 32 (sound_holding s slot) && sound_pins s slot) _ c.all.result _ refl (λ x b q k. search (rules, tests)) c.all.ensures.ran
