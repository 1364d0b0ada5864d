use Rattle.record.specs.Text.{line_of}
use Rattle.record.proofs.SheetLaws.{put_more}
use Rattle.record.proofs.Sheet.line.Goals as goal

pub returns : goal.returns
unfolding line_of
returns c = put_more c.head.ensures c.tail.ensures
