use Rattle.model_laws.proofs.Counting.{reaping_counts_one_less}
use Rattle.model_laws.proofs.counts.reaping_counts_one_less.Goals as goal

pub returns : goal.returns
returns c = reaping_counts_one_less
