use native.Mathlib.Omega.{arith}
use Rattle.calls.proofs.SlotLaws.{found_below}
use Rattle.calls.proofs.unpin.Goals as goal

pub unpin_at-requires : goal.unpin_at-requires
unpin_at-requires c =
    let h = c.in_ok-row.ensures.within in
    (grind arith, found_below c.args.s _ _ _ c.requires c.find_page.ensures c.in-At.is)
