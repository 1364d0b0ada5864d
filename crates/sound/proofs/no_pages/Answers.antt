use mathlib.Core.Path.{refl}
use Rattle.sound.specs.Inner.Tests.{no_pages}
use Rattle.sound.proofs.no_pages.Goals as goal

pub returns : goal.returns
unfolding no_pages
returns c = refl
