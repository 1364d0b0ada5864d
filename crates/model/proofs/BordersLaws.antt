-- What the order of borders says of each.
use mathlib.Core.Path.{◌≡◌}
use mathlib.Core.Bool.{true}
use Prim.Native.Nat.{◌≤◌}
use borrow.Author.Tests.{leb-true}
use Rattle.seq.proofs.Tests.{parts}
use Rattle.model.specs.declared.Borders.{Borders}
use Rattle.model.specs.Parties.{are_borders}

pub record InOrder (b : Borders) : Type 0 where
  pub first : b.first ≤ b.second
  pub second : b.second ≤ b.third
  pub third : b.third ≤ 4096

pub in_order : (b : Borders) → are_borders b ≡ true → InOrder b
unfolding are_borders
in_order b e = record {
  first = leb-true b.first b.second (search parts depth 20);
  second = leb-true b.second b.third (search parts depth 20);
  third = leb-true b.third 4096 (search parts depth 20);
}
