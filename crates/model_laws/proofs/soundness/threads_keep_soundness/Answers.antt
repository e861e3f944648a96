use Rattle.model_laws.proofs.StepKept.{thread_calls_keep, any_run_keeps}
use Rattle.model_laws.proofs.Bounds.{thread_step_bound}
use Rattle.model_laws.proofs.soundness.threads_keep_soundness.Goals as goal

pub returns : goal.returns
returns c = record { call = thread_calls_keep; run = any_run_keeps; bound = thread_step_bound }
