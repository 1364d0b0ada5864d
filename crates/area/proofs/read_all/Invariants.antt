use mathlib.Core.Path.{◌≡◌}
use Prim.Native.Nat.{◌+◌, ◌*◌}
use Rattle.seq.specs.Below.{all_below}
use Rattle.seq.specs.Each.{each_below}
use Rattle.words.specs.Bytes.{has_words}
use Rattle.area.proofs.read_all.Given as goal

abbrev pub invariant-loop-i : goal.invariant-loop-i
invariant-loop-i g l = record {
  read : l.xs ≡ each_below l.i (λ i _. g.T.Stored.from l.a (l.base + i * g.T.Stored.BYTES)) l.initial.xs;
  exact : l.exact ≡ all_below l.i (λ i. has_words l.a (l.base + i * g.T.Stored.BYTES) (g.T.Stored.words_of (g.T.Stored.from l.a (l.base + i * g.T.Stored.BYTES))));
}
