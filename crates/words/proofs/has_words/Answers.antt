use mathlib.Core.Path.{refl}
use Prim.Native.Nat.{◌+◌, ◌*◌}
use lib.Dec.{eqb}
use lib.ListN.{length}
use Rattle.std.proofs.Common.{rules, tests}
use Rattle.seq.proofs.IterLaws.{all_placed}
use Rattle.words.specs.Bytes.{word_at, has_words}
use Rattle.words.proofs.has_words.Goals as goal

pub returns : goal.returns
unfolding has_words
returns c = all_placed c.args.ws.now (length c.args.ws.now) refl 0 _ c.all.result _ (λ j w. eqb (word_at c.args.a.now (c.args.at + j * 8)) w) (cc) c.enumerate.ensures.count (λ x b q k. search (rules, tests)) c.all.ensures.ran
