use Rattle.calls.proofs.SlotLaws.{found_below}
use Rattle.calls.proofs.view.Goals as goal

pub view_slot-requires : goal.view_slot-requires
view_slot-requires c = found_below c.args.s _ _ _ c.requires c.find_page.ensures c.in-At.is
