use Rattle.std.proofs.Common.{rules}
use Rattle.pid_types.proofs.config.Config.default_values.Goals as goal

pub returns-clause-pid_max : goal.returns-clause-pid_max
returns-clause-pid_max c = search rules
