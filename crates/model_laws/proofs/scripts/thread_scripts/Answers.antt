-- Each answer is computed.
use Rattle.std.proofs.Common.{refl, arith}
use Rattle.model_laws.proofs.Computed.{computed}
use Rattle.model_laws.proofs.StepKept.{any_ends_sound}
use Rattle.model_laws.proofs.scripts.thread_scripts.Goals as goal

pub returns : goal.returns
unfolding computed
returns c = record {
  threads_have_numbers = refl;
  last_thread_ends = refl;
  first_thread_ends = refl;
  exec_takes_threads = refl;
  threads_are_charged = refl;
  last_of_init_falls = refl;
  last_thread_ends_end = any_ends_sound 32768 (omega arith, omega arith) _ _ refl;
}
