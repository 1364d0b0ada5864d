use mathlib.Core.Path.{◌≡◌, ◌∙◌, ap}
use native.Mathlib.Omega.{arith}
use lib.ListN.{replicate}
use Rattle.std.proofs.Common.{rules}
use Rattle.seq.specs.Each.{each_below}
use Rattle.choice.specs.declared.Summary.{Summary}
use Rattle.choice.specs.Inner.Summary.{no_summary, summary_of, summaries_in}
use Rattle.choice.proofs.SummaryLaws.{filled_turn, filled_all}
use Rattle.choice.proofs.summaries.Goals as goal

pub loop-i-init : goal.loop-i-init
loop-i-init c = λ k h. absurd (omega arith)

pub loop-i-preserved : goal.loop-i-preserved
loop-i-preserved c = filled_turn (summary_of c.args.s.now c.args.requester) c.loop-i.x-items c.loop-i.i no_summary c.summary_of.result (omega arith) c.loop-i.invariant c.summary_of.ensures

pub returns : goal.returns
unfolding summaries_in
returns c =
    let none : c.default-all.result ≡ no_summary = search rules in
    filled_all (summary_of c.args.s.now c.args.requester) c.loop-i.x-items _ c.args.s.now.size c.loop-i.i no_summary c.requires.0 c.loop-i.auto.x-items c.loop-i-test.false c.loop-i.invariant
    ∙ ap (λ (x : Summary). each_below c.args.s.now.size (λ k _. summary_of c.args.s.now c.args.requester k) (replicate 64 x)) none
