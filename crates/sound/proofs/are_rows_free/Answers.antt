use Rattle.std.proofs.Common.{rules, tests}
use Rattle.seq.proofs.IterLaws.{all_slice}
use Rattle.model.specs.State.{free_row}
use Rattle.model.specs.Words.{is_free}
use Rattle.sound.proofs.are_rows_free.Goals as goal

pub returns : goal.returns
returns c = all_slice c.args.rows.now 32 (search rules) free_row _ c.all.result _ (λ x. is_free x.condition) (cc) (λ x b q k. search (rules, tests)) c.all.ensures.ran
