use Rattle.std.proofs.Common.{rules}
use Rattle.worker_jobs.proofs.replies.is_same_call.Goals as goal

pub returns-clause-yes : goal.returns-clause-yes
returns-clause-yes c = search rules

pub returns-clause-no : goal.returns-clause-no
returns-clause-no c = search rules
