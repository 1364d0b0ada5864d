use Rattle.std.proofs.Common.{rules, of_calls}
use borrow.Author.Tests.{tests}
use Rattle.serve.specs.Inner.SlotHoldings.{pinning}
use Rattle.serve.proofs.ReplyLaws.{taken_slot, entered_lem}
use Rattle.serve.proofs.into_slot.Goals as goal

pub grant-requires : goal.grant-requires
grant-requires c = taken_slot c.args.s.now c.mark_rows-gone.result c.args.slot c.held_on-held.result c.take_rows-c.result c.take_rows-c.ensures c.requires

pub returns : goal.returns
returns c =
    let a = c.args in
    entered_lem a.s.now a.slot a.q.row a.q.page a.q.mode a.q.due c.held_on-held.result c.mark_rows-gone.result c.take_rows-c.result c.write_back-back.result c.default-c.result c.grant.result
    c.held_on-held.ensures
    (c.mark_rows-gone.ensures pinning (λ r b h k. search (rules, of_calls, tests)))
    c.take_rows-c.ensures c.write_back-back.ensures (search rules) c.grant.ensures
