use Rattle.std.proofs.Common.{rules}
use Rattle.kept_table.proofs.kept.Kept.cut_to.Goals as goal

pub returns-then-not-cut_first-clause-cut : goal.returns-then-not-cut_first-clause-cut
returns-then-not-cut_first-clause-cut c = search rules

pub returns-else-not-cut_first-clause-cut : goal.returns-else-not-cut_first-clause-cut
returns-else-not-cut_first-clause-cut c = search rules

pub returns-then-len-keep-clause-cut : goal.returns-then-len-keep-clause-cut
returns-then-len-keep-clause-cut c = search rules

pub returns-then-len-keep-clause-bound : goal.returns-then-len-keep-clause-bound
returns-then-len-keep-clause-bound c = search rules
