use Rattle.std.proofs.Common.{arith}
use Rattle.sound_store.proofs.spaces.check_space.Goals as goal

pub returns-clause-ok : goal.returns-clause-ok
returns-clause-ok c = grind arith
