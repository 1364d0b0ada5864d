use mathlib.Core.Path.{refl}
use native.Mathlib.Omega.{arith}
use Rattle.std.proofs.Common.{rules}
use Rattle.words.proofs.SpliceLaws.{word_read}
use Rattle.words.proofs.word.Goals as goal

pub returns : goal.returns
returns c = word_read c.args.a.now c.unwrap.result c.args.at _ _ (omega arith) refl (search rules) c.from_le_bytes.ensures
