use mathlib.Core.Path.{◌∙◌, ap}
use Prim.Native.Nat.{ℕ}
use native.Mathlib.Omega.{arith}
use Rattle.std.proofs.Common.{rules}
use Rattle.seq.specs.Each.{each}
use Rattle.model.specs.Changes.{moved_up, closed_up}
use Rattle.model.proofs.ElementLaws.{turned_more, turned_all}
use Rattle.model.proofs.close_up.Goals as goal

pub loop-r-preserved : goal.loop-r-preserved
loop-r-preserved c =
    turned_more (moved_up c.args.row c.place_of-place.result) c.loop-r.r 32 0 c.args.places c.loop-r.p-items c.moved_up.result (search rules) c.loop-r-test.true c.loop-r.invariant c.moved_up.ensures

pub returns : goal.returns
unfolding closed_up
returns c =
    turned_all (moved_up c.args.row c.place_of-place.result) c.loop-r.r 32 0 c.args.places c.loop-r.p-items (search rules) c.loop-r-test.array_long (omega arith) c.loop-r.invariant
    ∙ ap (λ (place : ℕ). each (moved_up c.args.row place) c.args.places) c.place_of-place.ensures
