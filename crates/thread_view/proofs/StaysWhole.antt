-- What is whole with threads stays so by every call that makes nothing with an id.
use Rattle.std.proofs.Common.{◌≡◌, false, sym, subst}
use Rattle.pid_types.specs.declared.call.Call.{Call}
use Rattle.pid_types.specs.Sound.{IsSound}
use Rattle.pid_types.specs.Step.{makes_id, step}
use Rattle.model_laws.proofs.Refusals.{step_comes}
use Rattle.model_laws.proofs.StepKept.{plain_keeps}
use Rattle.task_table.specs.Store.{Store}
use Rattle.task_table.specs.Whole.{HasParents}
use Rattle.thread_view.specs.Calling.{HasProcesses, IsWholeWithThreads}
use Rattle.thread_view.specs.Full.{full_state}

pub stays-whole : (s s' : Store) (call : Call) → makes_id call ≡ false → IsWholeWithThreads s → full_state s' ≡ (step (full_state s) 0 call).state
    → HasParents s' → HasProcesses s' → IsWholeWithThreads s'
stays-whole s s' call plain whole state parents processes = record {
  sound = subst IsSound (sym state) (plain_keeps (full_state s) 0 call (step (full_state s) 0 call) (step_comes (full_state s) 0 call) plain whole.sound).0;
  parents = parents;
  processes = processes;
}
