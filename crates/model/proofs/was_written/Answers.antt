use mathlib.Core.Path.{◌≡◌, ◌∙◌}
use mathlib.Core.Bool.{◌&&◌}
use Prim.Native.Nat.{ℕ}
use lib.ListN.{length}
use Rattle.std.proofs.Common.{rules}
use Rattle.std.proofs.iter.Serving.{serving}
use Rattle.seq.proofs.Tests.{tests}
use Rattle.seq.proofs.IterLaws.{any_placed}
use Rattle.model.specs.State.{empty_holding}
use Rattle.model.specs.declared.Holding.{Holding}
use Rattle.model.specs.Changes.{written}
use Rattle.model.specs.Inner.Changed.{marked}
use Rattle.model.proofs.SlotHoldings.{long_lem, wrote_lem}
use Rattle.model.proofs.was_written.Goals as goal

pub any-requires-clause-callable : goal.any-requires-clause-callable
any-requires-clause-callable c =
    let l : length c.holdings_on.result.now ≡ 32 = rw c.holdings_on.ensures (long_lem c.args.s.now c.args.slot) in
    grind serving

pub returns : goal.returns
returns c =
    let e = c.holdings_on.ensures in
    any_placed c.holdings_on.result.now 32 (rw e (long_lem c.args.s.now c.args.slot)) empty_holding _ c.any.result _ (λ (row : ℕ) (h : Holding). marked c.args.marks.now row && written c.args.clock h)
    (cc) c.enumerate.ensures.count (λ x b q k. search (rules, tests)) c.any.ensures.ran
    ∙ rw e (wrote_lem c.args.s.now c.args.slot c.args.clock (marked c.args.marks.now))
