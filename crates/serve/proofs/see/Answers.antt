use Rattle.std.proofs.Common.{rules}
use borrow.Author.Tests.{tests}
use Rattle.seq.proofs.IterLaws.{any_placed}
use Rattle.model.specs.State.{empty_holding}
use Rattle.serve.specs.Inner.SlotHoldings.{seen_test, seen_in}
use Rattle.serve.proofs.see.Goals as goal

pub returns : goal.returns
unfolding seen_in
returns c = any_placed c.args.held 32 (search rules) empty_holding _ c.any.result _ (λ row h. seen_test c.args.level row h) (cc) c.enumerate.ensures.count (λ x b q k. search (rules, tests)) c.any.ensures.ran
