use mathlib.Core.Path.{◌≡◌}
use lib.ListN.{length, get_or}
use Rattle.words.specs.Bytes.{spliced, joined, word_bytes}
use Rattle.area.proofs.put_all.Given as goal

abbrev pub invariant-loop-i : goal.invariant-loop-i
invariant-loop-i g l = record {
  long : length l.a ≡ length l.initial.a;
  put : (d : _) → l.a ≡ spliced l.initial.a l.base (joined l.i (λ i. word_bytes (g.T.Stored.words_of (get_or l.xs i d))));
}
