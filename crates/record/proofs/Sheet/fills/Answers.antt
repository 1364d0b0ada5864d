use mathlib.Core.Path.{◌≡◌}
use native.Mathlib.Numerals.{add-one}
use native.Mathlib.Omega.{arith}
use Rattle.words.specs.Bytes.{joined}
use Rattle.record.specs.Text.{fill_lines}
use Rattle.record.proofs.TextLaws.{first_most}
use Rattle.record.proofs.SheetLaws.{put_none, put_more}
use Rattle.record.proofs.Sheet.fills.Goals as goal

pub loop-i-init : goal.loop-i-init
unfolding joined
loop-i-init c = put_none _ (omega arith)

pub fill-requires : goal.fill-requires
fill-requires c =
    let l = c.loop-i in
    (omega (arith, l.invariant.long, l.invariant.wrote.ends, first_most c.args.number c.args.list.now l.i), omega arith)

pub loop-i-preserved : goal.loop-i-preserved
unfolding joined
loop-i-preserved c = rw (add-one c.loop-i.i) (put_more c.loop-i.invariant c.fill.ensures)

pub returns : goal.returns
unfolding fill_lines
returns c =
    let all : c.loop-i.i ≡ 32 = omega arith in
    rw all at c.loop-i.invariant
