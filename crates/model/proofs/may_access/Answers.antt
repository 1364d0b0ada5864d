use mathlib.Core.Path.{refl, sym}
use native.Mathlib.Omega.{arith}
use Rattle.model.specs.declared.Mode.TheVariants.{Read, Write}
use Rattle.model.specs.Parties.{allowed}
use Rattle.model.proofs.AccessLaws.{table_same}
use Rattle.model.proofs.may_access.Goals as goal

pub returns-in-Read : goal.returns-in-Read
unfolding allowed
returns-in-Read c =
    let a = c.args in
    rw c.in-Read.is (record { value = refl; table = λ l k. sym (table_same a.level a.class Read (omega (arith, l)) (omega (arith, k))) })

pub returns-in-Write : goal.returns-in-Write
unfolding allowed
returns-in-Write c =
    let a = c.args in
    rw c.in-Write.is (record { value = refl; table = λ l k. sym (table_same a.level a.class Write (omega (arith, l)) (omega (arith, k))) })
