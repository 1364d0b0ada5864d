use Rattle.std.proofs.Common.{arith, take, sym}
use Rattle.std.proofs.lemmas.List.{length-take-le}
use Rattle.record.proofs.PlayLaws.{Came}
use Rattle.record.proofs.RecordLaws.{widths}
use Rattle.record.specs.Play.{played, records_of}
use Rattle.stream.proofs.ReadLaws.{read_long}
use Rattle.stream.proofs.InputLaws.{none_read, one_read}
use Rattle.stream.proofs.play_next.Given as given
use Rattle.stream.proofs.play_next.Goals as goal
use Rattle.stream.proofs.play_next.Goals.{Then-read-eq0}

nothing : (g : given.Over) (c : Then-read-eq0 g) → Came (played c.args.progress c.args.area.now (records_of (take c.in_ok-read.read c.read_next.new.bytes))) c.args.progress c.args.area.now c.args.out.now c.args.at c.args.out.now c.args.at
nothing g c = none_read c.args.progress c.args.area.now c.read_next.new.bytes c.args.out.now c.args.at c.in_ok-read.read c.if-read-eq0.true

pub returns-then-read-eq0-clause-next : goal.returns-then-read-eq0-clause-next
returns-then-read-eq0-clause-next g c = (nothing g (goal.at.returns-then-read-eq0-clause-next g c).Then-read-eq0).0

pub returns-then-read-eq0-clause-left : goal.returns-then-read-eq0-clause-left
returns-then-read-eq0-clause-left g c = (nothing g (goal.at.returns-then-read-eq0-clause-left g c).Then-read-eq0).1.0

pub returns-then-read-eq0-clause-text : goal.returns-then-read-eq0-clause-text
returns-then-read-eq0-clause-text g c = (nothing g (goal.at.returns-then-read-eq0-clause-text g c).Then-read-eq0).1.1

pub slice_bounds-play_one-end : goal.slice_bounds-play_one-end
slice_bounds-play_one-end g c = omega (arith, c.in_ok-read.ensures.width, c.read_next.auto.bytes, (widths (take c.in_ok-read.read c.read_next.new.bytes)).1)

pub slice_bounds-play_one-end-2 : goal.slice_bounds-play_one-end-2
slice_bounds-play_one-end-2 g c = sym (length-take-le _ c.read_next.new.bytes (omega (arith, c.in_ok-read.ensures.width, c.read_next.auto.bytes, (widths (take c.in_ok-read.read c.read_next.new.bytes)).1)))

pub returns-clause-next : goal.returns-clause-next
returns-clause-next g c =
    let p = c.play_one-step in
    let long = read_long c.in_ok-read.read c.read_next.new.bytes c.args.bytes.now c.in_ok-read.ensures.width c.read_next.auto.bytes c.requires.0 in
    (one_read _ _ c.read_next.new.bytes _ _ _ c.in_ok-read.ensures.width long _ _ _ _ c.if-read-eq0.false (p.ensures.next, (p.ensures.left, p.ensures.text))).0

pub returns-clause-left : goal.returns-clause-left
returns-clause-left g c =
    let p = c.play_one-step in
    let long = read_long c.in_ok-read.read c.read_next.new.bytes c.args.bytes.now c.in_ok-read.ensures.width c.read_next.auto.bytes c.requires.0 in
    (one_read _ _ c.read_next.new.bytes _ _ _ c.in_ok-read.ensures.width long _ _ _ _ c.if-read-eq0.false (p.ensures.next, (p.ensures.left, p.ensures.text))).1.0

pub returns-clause-text : goal.returns-clause-text
returns-clause-text g c =
    let p = c.play_one-step in
    let long = read_long c.in_ok-read.read c.read_next.new.bytes c.args.bytes.now c.in_ok-read.ensures.width c.read_next.auto.bytes c.requires.0 in
    (one_read _ _ c.read_next.new.bytes _ _ _ c.in_ok-read.ensures.width long _ _ _ _ c.if-read-eq0.false (p.ensures.next, (p.ensures.left, p.ensures.text))).1.1
