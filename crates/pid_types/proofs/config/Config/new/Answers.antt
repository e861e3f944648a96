use Rattle.std.proofs.Common.{rules}
use Rattle.pid_types.proofs.config.Config.new.Goals as goal

pub returns-then-first_stamp-eq0-clause-bad_first : goal.returns-then-first_stamp-eq0-clause-bad_first
returns-then-first_stamp-eq0-clause-bad_first c = search rules
