-- What was read are whole records, and they were played and their text printed, but for the text that waits in `out`.
use Rattle.std.proofs.Common.{◌≡◌, ◌+◌, ◌≤◌, length}
use Rattle.record.specs.Record.{long_width}
use Rattle.record.specs.Text.{most_text}
use Rattle.stream.specs.Left.{most_records}
use Rattle.stream.proofs.InputLaws.{Run}
use Rattle.stream.proofs.play_input.Given as goal

abbrev pub invariant-loop : goal.invariant-loop
invariant-loop g l = (l.counter ≤ most_records) × (length l.area ≡ length l.fn.area) × (65536 ≡ length l.out) × (long_width ≡ length l.bytes) × (l.at + most_text ≤ 65536) × (l.progress.number ≤ l.counter + 1)
    × Run l.fn.started l.fn.area (g.R.Read.remaining l.fn.reader) (g.R.Read.remaining l.reader) (g.W.Write.contents l.fn.writer) (g.W.Write.contents l.writer) l.progress l.area l.out l.at l.counter
