use Rattle.model.proofs.InPlace.{changed_is}
use Rattle.model.proofs.change_state.Goals as goal

pub returns : goal.returns
returns c = changed_is c.args.s.now c.args.c.now _ _ c.requires c.drop_rows.ensures c.put_held.ensures
