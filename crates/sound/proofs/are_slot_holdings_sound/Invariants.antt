use mathlib.Core.Path.{◌≡◌}
use mathlib.Core.Bool.{true}
use Rattle.seq.specs.Below.{all_below}
use Rattle.model.specs.State.{holding_at}
use Rattle.rules.specs.Sound.{sound_holding}
use Rattle.sound.specs.Inner.Tests.{weight_below}
use Rattle.sound.proofs.are_slot_holdings_sound.Given as goal

abbrev pub invariant-loop-row : goal.invariant-loop-row
invariant-loop-row l = (all_below l.row (sound_holding l.s l.slot) ≡ true) × (l.weight ≡ weight_below l.row (λ row. (holding_at l.s l.slot row).pin))
