use mathlib.Core.Path.{refl}
use native.Mathlib.Omega.{arith}
use Rattle.words.specs.Bytes.{word_bytes}
use Rattle.words.proofs.SpliceLaws.{spliced_none, words_turn}
use Rattle.words.proofs.put_words.Goals as goal

pub loop-j-init : goal.loop-j-init
unfolding word_bytes
loop-j-init c = (refl, spliced_none c.args.a.now c.args.at)

pub loop-j-preserved : goal.loop-j-preserved
loop-j-preserved c = (omega arith, words_turn _ c.loop-j.a _ _ _ c.loop-j.j (omega arith) (omega arith) c.loop-j.invariant.1 c.put_word.ensures)
