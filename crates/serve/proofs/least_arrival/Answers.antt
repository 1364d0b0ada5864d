use mathlib.Core.Path.{◌∙◌, sym}
use Prim.Native.Nat.{ℕ}
use Rattle.std.proofs.Common.{rules}
use borrow.Author.Tests.{tests}
use Rattle.std.proofs.lemmas.Iterator.{YieldsList-from_slice, YieldsList-from_map}
use Rattle.std.proofs.lemmas.Iterator.Adapters.{option_map_id}
use Rattle.std.proofs.lemmas.Iterator.Consumers.{YieldsList-at, YieldsList-from_enumerate, YieldsList-from_filter, min_from_yields_List}
use Rattle.model.specs.declared.Holding.{Holding}
use Rattle.serve.specs.Inner.SlotHoldings.{seen_test}
use Rattle.serve.proofs.LeastLaws.{least_chain}
use Rattle.serve.proofs.least_arrival.Goals as goal

pub returns : goal.returns
returns c =
    let held = c.args.held in
    c.unwrap_or.ensures
    ∙ least_chain held c.args.level (search rules) c.min.result
    (sym (option_map_id c.min.result)
    ∙ min_from_yields_List c.map.result c.min.result c.min.ensures.ran
    (YieldsList-from_map _ (λ (p : ℕ × Holding). p.1.arrival)
    (YieldsList-at c.map.ensures.source
    (YieldsList-from_filter _ (λ (p : ℕ × Holding). seen_test c.args.level p.0 p.1)
    (YieldsList-at c.filter.ensures.source (YieldsList-from_enumerate (YieldsList-from_slice held (cc)) c.enumerate.ensures.count))
    c.filter.ensures.closure (λ x b q k. search (rules, tests))))
    c.map.ensures.closure (λ x r q k. search (rules, tests))))
