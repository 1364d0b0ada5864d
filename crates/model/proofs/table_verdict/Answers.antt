use native.Mathlib.Omega.{arith}
use Rattle.model.specs.Parties.{access_table, table_entry}
use Rattle.model.proofs.AccessLaws.{mode_number_small, table_same}
use Rattle.model.proofs.table_verdict.Goals as goal

pub overflow_add-at-2 : goal.overflow_add-at-2
overflow_add-at-2 c = omega (arith, mode_number_small c.args.mode, c.mode_number.ensures)

-- the array of the code is the table
pub returns : goal.returns
unfolding access_table table_entry
returns c =
    let a = c.args in
    let e = table_same a.level a.class a.mode c.requires.0 c.requires.1 in
    record { value = rw c.mode_number.ensures e; table = rw c.mode_number.ensures }
