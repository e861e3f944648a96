use Rattle.std.proofs.Common.{rules}
use Rattle.script_session.proofs.session.count_call.Goals as goal

pub returns-in-Err-NoMemory-clause-starved : goal.returns-in-Err-NoMemory-clause-starved
returns-in-Err-NoMemory-clause-starved c = search rules
