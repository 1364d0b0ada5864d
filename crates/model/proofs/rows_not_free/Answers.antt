use mathlib.Core.Path.{◌≡◌, ◌∙◌}
use mathlib.Core.Bool.{not}
use Prim.Native.Nat.{◌-◌, ◌+◌, ◌*◌}
use native.Mathlib.Omega.{arith}
use borrow.Rule.Slice.PartMut.{mid_of}
use Rattle.std.proofs.Common.{rules}
use Rattle.std.specs.List.{count_by}
use Rattle.model.specs.Words.{is_free}
use Rattle.model.proofs.PlaceLaws.{not_free_in}
use Rattle.model.proofs.rows_not_free.Goals as goal

pub returns : goal.returns
returns c =
    let level = c.args.level in
    let n : c.count.result ≡ count_by (λ x. not (is_free x.condition)) (mid_of (level * 8) (level * 8 + 8 - level * 8) c.args.rows) = search rules in
    let e = not_free_in c.args.rows level (level * 8 + 8 - level * 8) (search rules) c.requires (omega arith) in
    (n ∙ e.0, rw (n, e.0) e.1)
