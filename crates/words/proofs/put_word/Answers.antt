use mathlib.Core.Path.{◌∙◌}
use native.Mathlib.Omega.{arith}
use Rattle.words.proofs.ByteLaws.{length_bytes}
use Rattle.words.proofs.SpliceLaws.{eight, part_put}
use Rattle.words.specs.Bytes.{bytes_of}
use Rattle.words.proofs.put_word.Goals as goal

pub returns : goal.returns
returns c = part_put c.args.a.now c.copy_from_slice.new.self (bytes_of 8 c.args.x) c.args.at _ (c.copy_from_slice.ensures.after ∙ c.to_le_bytes.ensures ∙ eight c.args.x) (omega (arith, length_bytes 8 c.args.x))
