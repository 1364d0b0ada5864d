use mathlib.Core.Path.{◌≡◌}
use Prim.Native.Nat.{◌^◌, ◌<◌}
use Rattle.record.specs.Record.{big_endian}
use lib.ListN.{take}
use Rattle.record.proofs.number_at.Given as goal

abbrev pub invariant-loop-b : goal.invariant-loop-b
invariant-loop-b l = (l.x ≡ big_endian 0 (take l.b-index l.b-items)) × (l.x < 256 ^ l.b-index)
