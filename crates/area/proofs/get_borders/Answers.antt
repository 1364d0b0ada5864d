use Rattle.area.specs.Layout.{borders_from}
use Rattle.area.proofs.get_borders.Goals as goal

pub returns : goal.returns
unfolding borders_from
returns c = simp (c.low-3.ensures, c.word-3.ensures, c.low-2.ensures, c.word-2.ensures, c.low.ensures, c.word.ensures)
