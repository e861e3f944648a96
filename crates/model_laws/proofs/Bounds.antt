-- No call changes the bound of all numbers.
use Rattle.model_laws.proofs.Words.{◌≡◌, ℕ, ◌+◌, List, [], ◌∷◌, refl, ◌∙◌, Call, State, Outcome, sweep, with_cursors, fall, handed_over, without_thread, after_exec, with_home, without_row, with_row, with_control, without_control, with_limit, step, state_after, ThreadCall, without_first}
use Rattle.model_laws.proofs.Calls.{Comes, still, ComesOfThreads, still_threads}
use Rattle.model_laws.proofs.Refusals.{step_comes, thread_step_comes}
use Rattle.model_laws.specs.StepLaws.{ThreadsKeepBound}

-- whatever a call comes to
comes_bound : (state : State) (stamp : ℕ) (call : Call) (o : Outcome) → Comes state stamp call o → o.state.pid_max ≡ state.pid_max
unfolding sweep with_cursors fall handed_over after_exec with_home without_row with_row with_control without_control with_limit
comes_bound state stamp call o (still _ reply answer) = refl
comes_bound state stamp call o _ = refl

-- one call
pub step_bound : (state : State) (stamp : ℕ) (call : Call) → (step state stamp call).state.pid_max ≡ state.pid_max
step_bound state stamp call = comes_bound state stamp call _ (step_comes state stamp call)

-- one about threads
comes_bound_threads : (state : State) (call : ThreadCall) (o : Outcome) → ComesOfThreads state call o → o.state.pid_max ≡ state.pid_max
unfolding sweep with_cursors fall handed_over without_thread without_first
comes_bound_threads state call o (still_threads _ reply answer) = refl
comes_bound_threads state call o _ = refl

pub thread_step_bound : ThreadsKeepBound
thread_step_bound state call = comes_bound_threads state call _ (thread_step_comes state call)

-- a run of calls
pub run_bound : (opening : State) (first : ℕ) (calls : List Call) → (state_after opening first calls).pid_max ≡ opening.pid_max
run_bound opening first [] = refl
run_bound opening first (call ∷ calls) = run_bound (step opening first call).state (first + 1) calls ∙ step_bound opening first call
