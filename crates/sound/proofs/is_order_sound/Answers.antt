use mathlib.Core.Path.{refl, ◌∙◌}
use mathlib.Core.Bool.{Bool, ◌&&◌, not}
use Prim.Native.Nat.{ℕ}
use Rattle.std.proofs.Common.{rules, tests}
use Rattle.seq.specs.Below.{all_below}
use Rattle.rules.specs.Sound.{sound_place, same_place, sound_order}
use Rattle.sound.proofs.ElementLaws.{all_both}
use Rattle.sound.proofs.RangeLaws.{all_range}
use Rattle.sound.proofs.is_order_sound.Goals as goal

pub returns : goal.returns
unfolding sound_order
returns c = let s = c.args.s.now in
    let level = c.args.level in
    let alone : ℕ → Bool = λ number. all_below number (λ other. not (same_place s level number other)) in
    all_range 8 (λ number. sound_place s level number && alone number) _ c.all.result _ refl (λ x b q k. search (rules, tests)) c.all.ensures.ran ∙ all_both (sound_place s level) alone 8
