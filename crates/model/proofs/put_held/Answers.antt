use native.Mathlib.Omega.{arith}
use Rattle.std.proofs.Common.{rules}
use Rattle.std.proofs.lemmas.Grind.{common_steps}
use Rattle.model.specs.Inner.Changed.{held_put}
use Rattle.model.proofs.InPlace.{replaced_each}
use Rattle.model.proofs.put_held.Goals as goal

pub returns-then-slot-lt64 : goal.returns-then-slot-lt64
returns-then-slot-lt64 c =
    replaced_each (held_put c.args.slot c.args.held.now) c.args.holdings.now _ (search rules) (record {
      long = grind (arith, common_steps);
      at = λ k b. grind (arith, common_steps);
    })

pub returns-else-slot-lt64 : goal.returns-else-slot-lt64
returns-else-slot-lt64 c =
    replaced_each (held_put c.args.slot c.args.held.now) c.args.holdings.now c.args.holdings.now (search rules) (record {
      long = search rules;
      at = λ k b. grind (arith, common_steps);
    })
