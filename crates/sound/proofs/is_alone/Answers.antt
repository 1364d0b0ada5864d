use mathlib.Core.Path.{refl}
use mathlib.Core.Bool.{not}
use Rattle.std.proofs.Common.{rules, tests}
use Rattle.rules.specs.Sound.{same_place}
use Rattle.sound.proofs.RangeLaws.{all_range}
use Rattle.sound.proofs.is_alone.Goals as goal

pub returns : goal.returns
unfolding same_place
returns c = let a = c.args in
    all_range a.number (λ other. not (same_place a.s.now a.level a.number other)) _ c.all.result _ refl (λ x b q k. search (rules, tests)) c.all.ensures.ran
