use mathlib.Core.Path.{sym}
use Prim.Native.Nat.{◌<◌}
use Rattle.std.proofs.Common.{rules}
use Rattle.record.proofs.RecordLaws.{big_more, big_room}
use Rattle.record.proofs.number_at.Goals as goal

pub loop-b-preserved : goal.loop-b-preserved
loop-b-preserved c =
    let l = c.loop-b in
    let b : c.from.result < 256 = search rules in
    (rw (l.invariant.0, c.from.ensures) (sym (big_more 0 _ l.b-index c.loop-b-test.true)), big_room l.x l.b-index c.from.result l.invariant.1 b)
