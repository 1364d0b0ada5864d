use Rattle.rules.specs.Sound.{sound_borders}
use Rattle.sound.proofs.are_borders_sound.Goals as goal

pub returns : goal.returns
unfolding sound_borders
returns c = simp (c.are_rows_free.ensures, c.are_slots_empty.ensures, c.are_borders.ensures)
