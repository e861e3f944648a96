use Rattle.std.proofs.Common.{rules}
use Rattle.pid_workers.proofs.one_seat.OneSeat.new.Goals as goal

pub returns-clause-present : goal.returns-clause-present
returns-clause-present g c = search rules
