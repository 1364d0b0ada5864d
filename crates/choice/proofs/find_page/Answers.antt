use mathlib.Core.Path.{◌∙◌}
use mathlib.Core.Bool.{false}
use native.Mathlib.Omega.{arith}
use Rattle.std.proofs.Common.{rules}
use Rattle.model.specs.declared.Slot.{Slot}
use Rattle.model.specs.State.{empty_slot}
use Rattle.model.specs.Words.{has_page}
use Rattle.choice.proofs.SearchLaws.{pick_front}
use Rattle.choice.proofs.find_page.Goals as goal

pub returns : goal.returns
returns c =
    c.search.ensures (λ (x : Slot). has_page c.args.page x.content) (λ x y. false) empty_slot (λ x r h. search rules) (λ x y r h. search rules)
    ∙ pick_front c.args.slots (λ x. has_page c.args.page x.content) (λ x y. false) empty_slot c.args.size (omega arith)
