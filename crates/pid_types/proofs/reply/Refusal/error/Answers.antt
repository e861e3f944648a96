use Rattle.std.proofs.Common.{rules}
use Rattle.pid_types.proofs.reply.Refusal.error.Goals as goal

pub returns-in-SpaceFallen : goal.returns-in-SpaceFallen
returns-in-SpaceFallen c = search rules
