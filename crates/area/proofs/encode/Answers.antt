use mathlib.Core.Path.{◌≡◌, ◌∙◌}
use lib.ListN.{length}
use Rattle.std.proofs.Common.{rules}
use Rattle.model.specs.State.{free_row, empty_slot, empty_holding}
use Rattle.area.proofs.AreaSteps.{encode_steps}
use Rattle.area.proofs.encode.Goals as goal

pub returns : goal.returns
returns c =
    let s = c.args.s in
    let n1 : length s.places ≡ 32 = search rules in
    let n2 : length s.rows ≡ 32 = search rules in
    let n3 : length s.slots ≡ 64 = search rules in
    let n4 : length s.holdings ≡ 2048 = search rules in
    encode_steps s c.args.a.now _ _ _ _ _ _ _ c.header_words.result c.requires c.header_words.ensures c.put_words.ensures
    (c.put_all.ensures 0 ∙ rw n1) c.put_zeros.ensures (c.put_all-2.ensures free_row ∙ rw n2) (c.put_all-3.ensures empty_slot ∙ rw n3) (c.put_all-4.ensures empty_holding ∙ rw n4) c.put_zeros-2.ensures
