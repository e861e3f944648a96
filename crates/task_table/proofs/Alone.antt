-- A state without threads: each process is its first thread.
use Rattle.std.proofs.Common.{◌≡◌, ℕ, [], refl}
use Rattle.pid_types.specs.State.{State}
use Rattle.pid_types.specs.Names.{in_use, names_in_use, live_row, task_numbered}
use Rattle.pid_types.specs.Threads.{caller_of, process_numbered}

module _ (state : State) (threads : state.threads ≡ []) where
  -- the names in use are those that rows use
  pub in_use-rows : in_use state ≡ names_in_use state.rows
  in_use-rows = rw threads refl

  -- who has a number has it as a process
  pub process-task : (s n : ℕ) → process_numbered state s n ≡ task_numbered state s n
  unfolding process_numbered task_numbered
  process-task s n = rw threads refl

  -- and calls by its own number
  pub caller-live : state.left ≡ [] → (n : ℕ) → caller_of state n ≡ live_row state.rows n
  caller-live left n = rw (threads, left) refl
