use Rattle.std.proofs.Common.{◌≡◌, ◌+◌, ◌-◌, ◌≤◌, ◌++◌, arith, length, take, drop, subst, sym, ◌∙◌, length-append, length-drop, length-take-le}
use Rattle.std.specs.Io.KnownBytes.{Consumes}
use Rattle.std.proofs.KnownBytes.{Consumes-trans}
use borrow.Rule.Slice.PartMut.{mid_len, put_mid}
use lib.Seq.{take-append-le}
use Rattle.record.specs.Record.{long_width}
use Rattle.record.proofs.RecordLaws.{widths}
use Rattle.stream.proofs.ReadLaws.{few_read, short_read, more_read, joined_read}
use Rattle.stream.proofs.read_next.Goals as goal

pub returns-then-read-lt-SHORT_WIDTH-clause-width : goal.returns-then-read-lt-SHORT_WIDTH-clause-width
returns-then-read-lt-SHORT_WIDTH-clause-width g c = few_read c.in_ok-read.read _ (omega arith)

pub returns-then-record_width-eq-SHORT_WIDTH-clause-width : goal.returns-then-record_width-eq-SHORT_WIDTH-clause-width
returns-then-record_width-eq-SHORT_WIDTH-clause-width g c =
    few_read c.in_ok-read.read _ (omega (arith, c.in_ok-read.ensures.bound.0, c.read_full.auto.bytes, length-take-le 12 c.args.bytes.now (omega arith)))

pub returns-then-record_width-eq-SHORT_WIDTH-clause-end : goal.returns-then-record_width-eq-SHORT_WIDTH-clause-end
returns-then-record_width-eq-SHORT_WIDTH-clause-end g c = λ l.
    absurd (short_read c.in_ok-read.read (c.read_full.new.bytes ++ drop 12 c.args.bytes.now)
    (omega (arith, c.in_ok-read.ensures.bound.0, c.read_full.auto.bytes, length-take-le 12 c.args.bytes.now (omega arith)))
    (sym c.record_width.ensures ∙ c.if-record_width-eq-SHORT_WIDTH.true) l)

pub returns-clause-width : goal.returns-clause-width
returns-clause-width g c =
    let bytes = c.read_full.new.bytes ++ drop 12 c.args.bytes.now in
    let n = c.in_ok-read.read in
    let first : length c.read_full.new.bytes ≡ 12 = c.read_full.auto.bytes ∙ length-take-le 12 c.args.bytes.now (omega arith) in
    let whole : n ≡ 12 = omega (arith, c.in_ok-read.ensures.bound.0) in
    let all : length bytes ≡ long_width = rw (length-append, length-drop) (omega arith) in
    let rest = c.read_full-2.auto.bytes ∙ mid_len n (length bytes) bytes (omega arith) in
    more_read n c.in_ok-more.more bytes _ whole (omega arith) (omega (arith, c.in_ok-more.ensures.bound.0)) (λ e. c.if-record_width-eq-SHORT_WIDTH.false (c.record_width.ensures ∙ e))

pub returns-clause-bytes : goal.returns-clause-bytes
returns-clause-bytes g c =
    let bytes = c.read_full.new.bytes ++ drop 12 c.args.bytes.now in
    let n = c.in_ok-read.read in
    let l : n ≤ length bytes = omega (arith, c.in_ok-read.ensures.bound.0, length-append c.read_full.new.bytes (drop 12 c.args.bytes.now)) in
    let same : take n bytes ≡ take n c.read_full.new.bytes = take-append-le n c.read_full.new.bytes (drop 12 c.args.bytes.now) c.in_ok-read.ensures.bound.0 in
    subst (Consumes _ _) (joined_read n c.in_ok-more.more (length bytes - n) bytes c.read_full-2.new.bytes l c.in_ok-more.ensures.bound.0)
    (Consumes-trans _ _ _ _ _ (subst (Consumes _ _) (sym same) c.in_ok-read.ensures.bytes) c.in_ok-more.ensures.bytes)

pub returns-clause-end : goal.returns-clause-end
returns-clause-end g c = λ l.
    let bytes = c.read_full.new.bytes ++ drop 12 c.args.bytes.now in
    let n = c.in_ok-read.read in
    let first : length c.read_full.new.bytes ≡ 12 = c.read_full.auto.bytes ∙ length-take-le 12 c.args.bytes.now (omega arith) in
    let all : length bytes ≡ long_width = rw (length-append, length-drop) (omega arith) in
    let rest = c.read_full-2.auto.bytes ∙ mid_len n (length bytes) bytes (omega (arith, c.in_ok-read.ensures.bound.0)) in
    c.in_ok-more.ensures.end (omega (arith, l, rest, (widths (take (n + c.in_ok-more.more) (put_mid n (length bytes - n) bytes c.read_full-2.new.bytes))).1))
