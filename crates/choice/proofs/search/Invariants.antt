use mathlib.Core.Path.{◌≡◌}
use mathlib.Core.Bool.{Bool}
use Prim.Native.Nat.{ℕ, ◌<◌}
use lib.ListN.{length}
use Rattle.seq.specs.declared.Found.TheVariants.{At}
use Rattle.choice.specs.Inner.Search.{Tests, Orders}
use Rattle.choice.proofs.SearchLaws.{picked}
use Rattle.choice.proofs.search.Given as goal

-- what is found is the place of an item, and the one picked so far
abbrev pub invariant-loop-i : goal.invariant-loop-i
invariant-loop-i g l =
    ((j : ℕ) → l.found ≡ At j → j < length l.items)
    × ((p : g.row.X.Denot → Bool) (q : g.row.X.Denot → g.row.X.Denot → Bool) (d : g.row.X.Denot) → Tests g.T.Fn l.test p → Orders g.B.Fn l.before q → l.found ≡ picked l.items p q d l.i)
