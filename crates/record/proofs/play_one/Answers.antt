use mathlib.Core.Path.{refl, ◌∙◌}
use native.Mathlib.Omega.{arith}
use Rattle.record.specs.Play.{zero_list}
use Rattle.record.proofs.PlayLaws.{one_played}
use Rattle.record.proofs.RecordLaws.{admitted_room}
use Rattle.record.proofs.TextLaws.{line_most}
use Rattle.record.proofs.play_one.Goals as goal

pub make_call-requires : goal.make_call-requires
make_call-requires c = rw (c.admit-input.ensures, c.read_record.ensures) (admitted_room c.args.progress.started c.args.bytes.now)

pub put_fills-end-requires : goal.put_fills-end-requires
put_fills-end-requires c =
    let line = c.put_line-line_end in
    (omega (arith, line.ensures.ends, line.auto.out, line_most c.args.progress.number c.make_call.new.answer), omega (arith, c.make_call.auto.list))

pub returns-clause-text : goal.returns-clause-text
unfolding zero_list
returns-clause-text c =
    let made = c.make_call in
    let line = c.put_line-line_end in
    let fits = line_most c.args.progress.number made.new.answer in
    let played = one_played _ _ _ _ _ _ _ _ _ _ _ _ _ _ _ c.if-progress.false (c.admit-input.ensures ∙ rw c.read_record.ensures) made.ensures.told made.ensures.left refl made.ensures.listed line.ensures c.put_fills-end.ensures
    (omega (arith, line.ensures.ends)) c.next_progress.ensures in
    played.1.1
