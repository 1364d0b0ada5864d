use mathlib.Core.Path.{◌∙◌, ap}
use mathlib.Core.Bool.{not}
use Rattle.std.proofs.Common.{rules}
use borrow.Author.Tests.{tests}
use Rattle.seq.proofs.IterLaws.{any_placed}
use Rattle.model.specs.State.{empty_holding}
use Rattle.model.specs.Words.{is_open}
use Rattle.model.specs.Inner.Holdings.{holdings_on}
use Rattle.model.proofs.SlotHoldings.{long_lem}
use Rattle.serve.specs.Inner.SlotHoldings.{seen_test, seen_in}
use Rattle.serve.proofs.SlotLaws.{seen_in_lem}
use Rattle.calls.proofs.is_open.Goals as goal

pub returns : goal.returns
unfolding is_open seen_in
returns c =
    let a = c.args in
    ap not
    (any_placed (holdings_on a.s.now a.slot) 32 (long_lem a.s.now a.slot) empty_holding _ c.any.result _ (λ row h. seen_test a.level row h) (cc) c.enumerate.ensures.count (λ x b q k. search (rules, tests)) c.any.ensures.ran
    ∙ seen_in_lem a.s.now a.slot a.level)
