use mathlib.Core.Path.{refl, ◌≡◌, ◌∙◌}
use lib.ListN.{drop, length}
use Rattle.std.proofs.Common.{rules}
use Rattle.model.specs.State.{free_row, empty_slot, empty_holding}
use Rattle.area.specs.Layout.{version_in, decoded}
use Rattle.area.proofs.Elements.{decoded_sized}
use Rattle.area.proofs.RoundTrip.{exact_area}
use Rattle.area.proofs.Amends.{amended, amended_rows}
use Rattle.area.proofs.amend.Goals as goal

pub returns-then-c-lt64 : goal.returns-then-c-lt64
unfolding decoded
returns-then-c-lt64 c =
    let a = c.args.a.now in
    let d = c.args.c in
    let n1 : length d.rows ≡ 32 = search rules in
    let n2 : length d.slots ≡ 64 = search rules in
    let n3 : length d.held ≡ 32 = search rules in
    amended (version_in a) (decoded a) (decoded_sized a).holdings d (drop 65536 a) a _ _ _ _ _ _ (exact_area (version_in a) a c.requires) refl c.put_order.ensures
    c.put_header.ensures c.put_setting.ensures (c.put_all.ensures free_row ∙ rw n1) (c.put_all-2.ensures empty_slot ∙ rw n2) c.drop_rows.ensures _ c.if-c-lt64.true (c.put_all-then-c-lt64.ensures empty_holding ∙ rw n3)

pub returns-else-c-lt64 : goal.returns-else-c-lt64
unfolding decoded
returns-else-c-lt64 c =
    let a = c.args.a.now in
    let d = c.args.c in
    let n1 : length d.rows ≡ 32 = search rules in
    let n2 : length d.slots ≡ 64 = search rules in
    amended_rows (version_in a) (decoded a) (decoded_sized a).holdings d (drop 65536 a) a _ _ _ _ _ _ (exact_area (version_in a) a c.requires) refl c.put_order.ensures
    c.put_header.ensures c.put_setting.ensures (c.put_all.ensures free_row ∙ rw n1) (c.put_all-2.ensures empty_slot ∙ rw n2) c.drop_rows.ensures c.if-c-lt64.false
