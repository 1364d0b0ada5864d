use Rattle.std.proofs.Common.{rules}
use Rattle.choice.specs.Inner.Summary.{no_rank, rank_in, ranks_of}
use Rattle.choice.proofs.SummaryLaws.{made_each}
use Rattle.choice.proofs.ranks.Goals as goal

pub returns : goal.returns
unfolding ranks_of
returns c = made_each _ (rank_in c.args.rows c.args.places) (λ i y q k. search rules) 32 no_rank c.from_fn.result c.from_fn.ensures.items
