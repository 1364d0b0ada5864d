use Rattle.sabre.proofs.is_area_sound.Goals as goal

pub returns : goal.returns
returns c = rw (← c.version_of.ensures, ← c.is_known.ensures, c.if-exact-is_known.false)
