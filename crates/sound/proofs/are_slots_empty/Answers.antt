use mathlib.Core.Bool.{not}
use Rattle.std.proofs.Common.{rules, tests}
use Rattle.seq.proofs.IterLaws.{all_slice}
use Rattle.model.specs.State.{empty_slot}
use Rattle.model.specs.Words.{is_filled}
use Rattle.sound.proofs.are_slots_empty.Goals as goal

pub returns : goal.returns
returns c = all_slice c.args.slots.now 64 (search rules) empty_slot _ c.all.result _ (λ x. not (is_filled x.content)) (cc) (λ x b q k. search (rules, tests)) c.all.ensures.ran
