use Rattle.rules.specs.Sound.{sound_holding}
use Rattle.sound.proofs.ElementLaws.{joins}
use Rattle.sound.proofs.is_holding_sound.Goals as goal

pub returns-then-not-is_held : goal.returns-then-not-is_held
unfolding sound_holding
returns-then-not-is_held c = simp (c.if-not-is_held.true, ← c.is_held.ensures)

pub returns-in-Empty : goal.returns-in-Empty
unfolding sound_holding
returns-in-Empty c = simp (joins, c.in-Empty.is, c.if-not-is_held.false, ← c.is_held.ensures)

pub returns-in-Filled : goal.returns-in-Filled
unfolding sound_holding
returns-in-Filled c = simp (joins, c.may_arrive.ensures, c.is_pin_allowed.ensures, c.is_live.ensures, c.requires.2, c.in-Filled.is, c.if-not-is_held.false, ← c.is_held.ensures)
