use Rattle.std.proofs.Common.{rules}
use Rattle.pid_types.specs.Queries.{get_pgid}
use Rattle.translate.proofs.queries.get_pgid.Goals as goal

pub returns : goal.returns
unfolding get_pgid
returns c = search rules
