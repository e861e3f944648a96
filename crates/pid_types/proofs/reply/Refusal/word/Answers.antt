use Rattle.std.proofs.Common.{rules}
use Rattle.pid_types.proofs.reply.Refusal.word.Goals as goal

pub returns-in-IsLeader-clause-word : goal.returns-in-IsLeader-clause-word
returns-in-IsLeader-clause-word c = search rules
