use native.Mathlib.Omega.{arith}
use Rattle.record.specs.Text.{digits}
use Rattle.record.proofs.TextLaws.{one_digit, more_digits}
use Rattle.record.proofs.SheetLaws.{put_none, put_more}
use Rattle.record.proofs.Sheet.+digits.Goals as goal
use Rattle.record.proofs.Sheet.+digits.Goals.{then-n-ge10, else-n-ge10}

pub returns-then-most-eq0 : goal.returns-then-most-eq0
unfolding digits
returns-then-most-eq0 t c = rw c.if-most-eq0.true (put_none c.args.self.now (omega arith))

pub returns : goal.returns
returns t c =
    let a = c.args in
    elim c.if-n-ge10.branch [
      | then-n-ge10 w ↦ rw (more_digits a.most a.n c.if-most-eq0.false w.if-n-ge10.true) (put_more w.digits.ensures (rw w.self-is at c.byte.ensures))
      | else-n-ge10 w ↦ rw (one_digit a.most a.n c.if-most-eq0.false w.if-n-ge10.false) (rw w.self-is at c.byte.ensures)
    ]
