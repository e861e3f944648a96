use Rattle.model_laws.proofs.StepKept.{step_keeps, plain_calls_make_no_id, run_keeps}
use Rattle.model_laws.proofs.soundness.soundness_is_kept.Goals as goal

pub returns : goal.returns
returns c = record { step = step_keeps; plain = plain_calls_make_no_id; run = run_keeps }
