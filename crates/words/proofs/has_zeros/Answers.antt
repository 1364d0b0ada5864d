use native.Mathlib.Omega.{arith}
use Prim.Native.Nat.{◌+◌, ◌-◌, ◌*◌, max}
use lib.ListN.{take, drop}
use Rattle.std.proofs.Common.{rules, tests}
use Rattle.std.proofs.lemmas.Iterator.{YieldsList-from_slice}
use Rattle.std.proofs.lemmas.Iterator.Consumers.{fold_from_yields_List}
use Rattle.words.proofs.ZeroLaws.{zero_words_read}
use Rattle.words.proofs.has_zeros.Goals as goal

pub returns : goal.returns
returns c = zero_words_read c.args.a.now c.args.at c.args.n (c.args.at + c.args.n * 8 - c.args.at) c.fold.result (λ i. omega (arith, c.type_inv.a i)) c.requires (omega arith)
    (fold_from_yields_List {all = take (c.args.at + c.args.n * 8 - c.args.at) (drop c.args.at c.args.a.now)} _ max 0 c.fold.result c.fold.ensures.ran (YieldsList-from_slice _ (cc)) (λ a x b q k. search (rules, tests)))
