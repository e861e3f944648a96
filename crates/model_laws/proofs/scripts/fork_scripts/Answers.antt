-- The script's end is computed.
use Rattle.std.proofs.Common.{refl, arith}
use Rattle.model_laws.proofs.Computed.{computed}
use Rattle.model_laws.proofs.StepKept.{ends_sound}
use Rattle.model_laws.proofs.scripts.fork_scripts.Goals as goal

pub returns-clause-fork_into_new_space_end : goal.returns-clause-fork_into_new_space_end
unfolding computed
returns-clause-fork_into_new_space_end c = ends_sound 32768 (omega arith, omega arith) _ _ refl
