use mathlib.Core.Path.{◌≡◌}
use Prim.Native.Nat.{◌*◌, ◌<◌}
use native.Mathlib.Omega.{arith}
use Rattle.model.specs.State.{empty_holding}
use Rattle.choice.proofs.SummaryLaws.{holders_turn, holders_none, part_at, part_length}
use Rattle.choice.proofs.holders_of.Goals as goal

pub loop-r-init : goal.loop-r-init
loop-r-init c = holders_none c.args.s.now c.args.slot

pub loop-r-preserved : goal.loop-r-preserved
loop-r-preserved c =
    let e = part_length c.args.s.now.holdings (c.args.slot * 32) 32 (omega arith) in
    let h : c.loop-r.r < 32 = omega arith in
    holders_turn c.args.s.now c.args.slot c.loop-r.r c.args.ranks.now c.loop-r.holders c.holders_with-holders.result _ h c.requires.1
    (part_at c.args.s.now.holdings (c.args.slot * 32) 32 c.loop-r.r empty_holding h) c.loop-r.invariant c.holders_with-holders.ensures

pub returns : goal.returns
returns c =
    let h = part_length c.args.s.now.holdings (c.args.slot * 32) 32 (omega arith) in
    let e : c.loop-r.r ≡ 32 = omega arith in rw (← e) c.loop-r.invariant
