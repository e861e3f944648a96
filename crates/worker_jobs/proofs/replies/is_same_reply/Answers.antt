use Rattle.std.proofs.Common.{rules}
use Rattle.worker_jobs.proofs.replies.is_same_reply.Goals as goal

pub returns-in-Refused-matches-clause-yes : goal.returns-in-Refused-matches-clause-yes
returns-in-Refused-matches-clause-yes c = search rules
