use mathlib.Core.Path.{◌∙◌, sym}
use mathlib.Core.Bool.{false, not}
use native.Mathlib.Omega.{arith}
use Rattle.std.proofs.Common.{rules}
use Rattle.std.proofs.lemmas.List.{length-take}
use Rattle.model.specs.declared.Slot.{Slot}
use Rattle.model.specs.State.{empty_slot}
use Rattle.model.specs.Words.{is_filled}
use Rattle.rules.specs.Choice.{chosen}
use Rattle.choice.specs.declared.Summary.{Summary}
use Rattle.choice.specs.Inner.Summary.{no_summary}
use Rattle.choice.specs.Inner.Search.{is_dormant, dormant_before, dormant_in}
use Rattle.choice.proofs.ChoiceLaws.{empty_found, summaries_at, choice_made}
use Rattle.choice.proofs.choose.Goals as goal

pub returns-in-At : goal.returns-in-At
unfolding chosen
returns-in-At c = rw (
  ← empty_found c.args.s.now c.search-empty.result (omega (arith, length-take c.args.s.now.size c.args.s.now.slots))
      (c.search-empty.ensures (λ (x : Slot). not (is_filled x.content)) (λ x y. false) empty_slot (λ x r h. search rules) (λ x y r h. search rules)),
  c.in-At.is,
)

pub returns-in-At-search : goal.returns-in-At-search
unfolding dormant_in
returns-in-At-search c =
    let none = sym (empty_found c.args.s.now c.search-empty.result (omega (arith, length-take c.args.s.now.size c.args.s.now.slots))
    (c.search-empty.ensures (λ (x : Slot). not (is_filled x.content)) (λ x y. false) empty_slot (λ x r h. search rules) (λ x y r h. search rules))) ∙ c.in_default.is in
    let b = c.search.ensures is_dormant (λ (x y : Summary). dormant_before x.slot y.slot) no_summary (λ x r h. search rules) (λ x y r h. search rules) in
    rw (choice_made c.args.s.now c.args.row c.summaries-all.result c.requires.0 (summaries_at c.args.s.now c.args.row c.summaries-all.result c.requires.0 c.summaries-all.ensures) none, ← b, c.in-At-search.is)

pub returns : goal.returns
unfolding dormant_in
returns c =
    let none = sym (empty_found c.args.s.now c.search-empty.result (omega (arith, length-take c.args.s.now.size c.args.s.now.slots))
    (c.search-empty.ensures (λ (x : Slot). not (is_filled x.content)) (λ x y. false) empty_slot (λ x r h. search rules) (λ x y r h. search rules))) ∙ c.in_default.is in
    let b = c.search.ensures is_dormant (λ (x y : Summary). dormant_before x.slot y.slot) no_summary (λ x r h. search rules) (λ x y r h. search rules) in
    rw (choice_made c.args.s.now c.args.row c.summaries-all.result c.requires.0 (summaries_at c.args.s.now c.args.row c.summaries-all.result c.requires.0 c.summaries-all.ensures) none, ← b, c.in_default-search.is, ← c.rank_of.ensures) c.choose_held.ensures
