use mathlib.Core.Path.{◌≡◌}
use lib.ListN.{length, take}
use Rattle.words.specs.Bytes.{word_bytes, spliced}
use Rattle.words.proofs.put_words.Given as goal

abbrev pub invariant-loop-j : goal.invariant-loop-j
invariant-loop-j l = (length l.a ≡ length l.initial.a) × (l.a ≡ spliced l.initial.a l.at (word_bytes (take l.j l.ws)))
