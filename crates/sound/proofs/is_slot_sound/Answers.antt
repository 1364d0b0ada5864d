use Rattle.rules.specs.Sound.{sound_slot}
use Rattle.sound.proofs.ElementLaws.{joins}
use Rattle.sound.proofs.is_slot_sound.Goals as goal

pub returns-in-Empty : goal.returns-in-Empty
unfolding sound_slot
returns-in-Empty c = simp (joins, c.in-Empty.is)

pub returns-in-Filled : goal.returns-in-Filled
unfolding sound_slot
returns-in-Filled c = simp (joins, ← c.may_arrive.ensures, c.in-Filled.is)
