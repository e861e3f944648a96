use Rattle.std.proofs.Common.{arith}
use Rattle.sound_store.proofs.spaces.has_init.Goals as goal

pub returns-in-None : goal.returns-in-None
returns-in-None c = grind arith

pub returns-else-found-space : goal.returns-else-found-space
returns-else-found-space c = grind arith

pub returns-then-found-space : goal.returns-then-found-space
returns-then-found-space c = grind arith
