use mathlib.Core.Path.{◌≡◌}
use mathlib.Core.Bool.{true, not}
use Rattle.seq.specs.Below.{all_below}
use Rattle.sound.specs.Inner.Tests.{place_taken}
use Rattle.sound.proofs.PageLaws.{Noted}
use Rattle.sound.proofs.are_pages_apart.Given as goal

abbrev pub invariant-loop-x : goal.invariant-loop-x
invariant-loop-x l = (all_below l.x-index (λ slot. not (place_taken l.slots slot)) ≡ true) × Noted l.slots l.x-index l.seen
