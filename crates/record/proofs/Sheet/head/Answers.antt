use Rattle.record.specs.Text.{head_text}
use Rattle.record.proofs.SheetLaws.{put_more}
use Rattle.record.proofs.Sheet.head.Goals as goal

pub returns : goal.returns
unfolding head_text
returns c = put_more (put_more (put_more (put_more c.number.ensures c.byte.ensures) (rw c.word_text.ensures at c.text.ensures)) c.byte-2.ensures) c.number-2.ensures
