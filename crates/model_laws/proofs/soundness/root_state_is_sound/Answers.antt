use Rattle.model_laws.proofs.StepKept.{root_state_sound, root_state_below}
use Rattle.model_laws.proofs.soundness.root_state_is_sound.Goals as goal

pub returns : goal.returns
returns c pid_max first good above = (root_state_sound pid_max good, root_state_below pid_max first above)
