use mathlib.Core.Path.{◌≡◌}
use lib.ListN.{length}
use Rattle.std.proofs.Common.{rules}
use Rattle.sound.specs.Inner.Tests.{lengths_test}
use Rattle.sound.proofs.are_whole.Goals as goal

pub returns : goal.returns
unfolding lengths_test
returns c =
    let rows : length c.args.rows.now ≡ 32 = search rules in
    let slots : length c.args.slots.now ≡ 64 = search rules in
    let holdings : length c.args.holdings.now ≡ 2048 = search rules in
    let places : length c.args.places.now ≡ 32 = search rules in
    simp (rows, slots, holdings, places)
