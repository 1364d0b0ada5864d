use Rattle.record.specs.Text.{tail_text}
use Rattle.record.proofs.SheetLaws.{put_more}
use Rattle.record.proofs.Sheet.tail.Goals as goal

pub returns : goal.returns
unfolding tail_text
returns c = put_more (put_more (put_more (put_more c.text.ensures c.or_dash.ensures) c.byte.ensures) c.or_dash-2.ensures) c.byte-2.ensures
