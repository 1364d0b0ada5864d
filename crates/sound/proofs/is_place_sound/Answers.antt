use Rattle.rules.specs.Sound.{sound_place}
use Rattle.sound.proofs.is_place_sound.Goals as goal

pub returns-then-is_free : goal.returns-then-is_free
unfolding sound_place
returns-then-is_free c = simp (c.if-is_free.true, ← c.is_free.ensures)

pub returns-else-is_free : goal.returns-else-is_free
unfolding sound_place
returns-else-is_free c = simp (c.if-is_free.false, ← c.is_free.ensures, c.requires.2)
