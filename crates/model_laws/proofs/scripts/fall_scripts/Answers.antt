-- Each answer is computed.
use Rattle.std.proofs.Common.{refl, arith}
use Rattle.model_laws.proofs.Computed.{computed}
use Rattle.model_laws.proofs.StepKept.{ends_sound}
use Rattle.model_laws.proofs.scripts.fall_scripts.Goals as goal

pub returns : goal.returns
unfolding computed
returns c = record {
  fall_takes_members = refl;
  fall_takes_members_end = ends_sound 32768 (omega arith, omega arith) _ _ refl;
  group_keeps_space = refl;
  group_keeps_space_end = ends_sound 32768 (omega arith, omega arith) _ _ refl;
  group_lets_space_go = refl;
  group_lets_space_go_end = ends_sound 32768 (omega arith, omega arith) _ _ refl;
  fall_uncharges = refl;
}
