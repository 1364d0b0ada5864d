use Rattle.std.proofs.Common.{unwrap_or, ap, ◌∙◌, rules, tests}
use Rattle.std.specs.Prelude.{filter}
use Rattle.std.specs.List.{filter_map}
use Rattle.std.specs.Iterator.Adapters.{filter_source, filter_callee, filter_map_callee}
use Rattle.std.proofs.lemmas.Iterator.{YieldsList-from_slice, YieldsList-from_map}
use Rattle.std.proofs.lemmas.Iterator.Consumers.{reduce_from_yields_List, YieldsList-from_filter, YieldsList-from_filter_map}
use Rattle.std.proofs.lemmas.List.Folds.{max_of_map}
use Rattle.choice.specs.declared.Holders.{Holders}
use Rattle.choice.specs.declared.Summary.{Summary}
use Rattle.choice.specs.Inner.Summary.{above}
use Rattle.choice.specs.Inner.Search.{top_from}
use Rattle.choice.proofs.top_level.Goals as goal

pub returns : goal.returns
unfolding top_from
returns c =
    let m = c.args.m.now in
    c.unwrap_or.ensures ∙ ap (λ o. unwrap_or o 0)
    (reduce_from_yields_List _ c.map.result _ c.max.ensures.ran
    (YieldsList-from_map _ (λ (w : Holders). w.rank.level)
    (YieldsList-from_filter _ (above c.args.requester)
    (YieldsList-from_filter_map _ (λ (x : Summary). x.holders) (YieldsList-from_slice m cc)
    (ap filter_map_callee (ap filter_source c.map.ensures.source ∙ c.filter.ensures.source) ∙ c.filter_map.ensures.closure) (λ x r q k. search (rules, tests)))
    (ap filter_callee c.map.ensures.source ∙ c.filter.ensures.closure) (λ x b q k. search (rules, tests)))
    c.map.ensures.closure (λ x r q k. search (rules, tests))))
    ∙ max_of_map (λ (w : Holders). w.rank.level) (filter (above c.args.requester) (filter_map (λ (x : Summary). x.holders) m))
