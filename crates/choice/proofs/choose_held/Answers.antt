use Rattle.std.proofs.Common.{rules}
use Rattle.choice.specs.Inner.Summary.{no_summary}
use Rattle.choice.specs.Inner.Search.{in_step_c, in_step_d, in_step_e, in_step_f, held_before, held_from}
use Rattle.choice.proofs.choose_held.Goals as goal

pub returns-in-At : goal.returns-in-At
unfolding held_from
returns-in-At c = rw (
  ← c.top_level-top.ensures,
  ← c.search.ensures (in_step_c c.args.requester c.top_level-top.result) held_before no_summary (λ x r h. search rules) (λ x y r h. search rules),
  c.in-At.is,
)

pub returns-in-At-search : goal.returns-in-At-search
unfolding held_from
returns-in-At-search c = rw (
  ← c.top_level-top.ensures,
  ← c.search.ensures (in_step_c c.args.requester c.top_level-top.result) held_before no_summary (λ x r h. search rules) (λ x y r h. search rules),
  c.in_default.is,
  ← c.search-2.ensures (in_step_d c.args.requester c.top_level-top.result) held_before no_summary (λ x r h. search rules) (λ x y r h. search rules),
  c.in-At-search.is,
)

pub returns-in-At-search-2 : goal.returns-in-At-search-2
unfolding held_from
returns-in-At-search-2 c = rw (
  ← c.top_level-top.ensures,
  ← c.search.ensures (in_step_c c.args.requester c.top_level-top.result) held_before no_summary (λ x r h. search rules) (λ x y r h. search rules),
  c.in_default.is,
  ← c.search-2.ensures (in_step_d c.args.requester c.top_level-top.result) held_before no_summary (λ x r h. search rules) (λ x y r h. search rules),
  c.in_default-search.is,
  ← c.search-3.ensures (in_step_e c.args.requester) held_before no_summary (λ x r h. search rules) (λ x y r h. search rules),
  c.in-At-search-2.is,
)

pub returns : goal.returns
unfolding held_from
returns c = rw (
  ← c.top_level-top.ensures,
  ← c.search.ensures (in_step_c c.args.requester c.top_level-top.result) held_before no_summary (λ x r h. search rules) (λ x y r h. search rules),
  c.in_default.is,
  ← c.search-2.ensures (in_step_d c.args.requester c.top_level-top.result) held_before no_summary (λ x r h. search rules) (λ x y r h. search rules),
  c.in_default-search.is,
  ← c.search-3.ensures (in_step_e c.args.requester) held_before no_summary (λ x r h. search rules) (λ x y r h. search rules),
  c.in_default-search-2.is,
  ← c.search-4.ensures (in_step_f c.args.requester) held_before no_summary (λ x r h. search rules) (λ x y r h. search rules),
)
