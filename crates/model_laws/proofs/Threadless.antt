-- In a state without threads each call does what it did before there were threads: the definitions compute to the text of before.
use Rattle.model_laws.proofs.Words.{◌≡◌, ℕ, pos, negsuc, List, [], Row, Space, Control, refl, sym, subst, Call, Fork, GetPid, NsPid, Exec, Exit, Wait, GetPpid, SetPgid, SetSid, MakeControl, RemoveControl, SetLimit, Move, Count, GetPgid, GetSid, Next, Join, SetSubreaper, State, taken, count, Outcome, sweep, with_cursors, with_row, rows_after_exit, rows_after_fall, handed_over, fall, exit, wait, without_row, set_pgid, set_sid, get_pid, get_ppid, get_pgid, get_sid, ns_pid, next, after_exec, exec, is_busy, without_control, remove_control, with_home, move_task, join, set_subreaper, with_control, with_limit, process_numbered, task_numbered, step, fork, arith}
use Rattle.model_laws.specs.Before.{IsThreadless, as_before, taken_before, count_before, DoesAsBefore, CountsAsBefore, StaysThreadless}
use Rattle.model_laws.proofs.Calls.{Comes, joined_other}
use Rattle.model_laws.proofs.Refusals.{step_comes}

-- the state with these parts, and without threads
abbrev alone : List Row → List Space → List Control → ℕ → State
alone rows spaces controls pid_max =
    record { rows = rows; threads = []; left = []; spaces = spaces; controls = controls; pid_max = pid_max }

module _ (rows : List Row) (spaces : List Space) (controls : List Control) (pid_max : ℕ) where
  abbrev s : State
  s = alone rows spaces controls pid_max

  -- each call does what it did
  does : (stamp : ℕ) (call : Call) → step s stamp call ≡ as_before s stamp call
  unfolding step fork exit wait set_pgid set_sid get_pid get_ppid get_pgid get_sid ns_pid next exec remove_control move_task join set_subreaper handed_over rows_after_exit rows_after_fall fall after_exec with_home with_row is_busy process_numbered task_numbered
  does stamp (SetPgid n (pos pid) pgid) = refl
  does stamp (SetPgid n (negsuc pid) pgid) = refl
  does stamp (Fork n new_space) = refl
  does stamp (GetPid n) = refl
  does stamp (NsPid n target) = refl
  does stamp (Exec n) = refl
  does stamp (Exit n status) = refl
  does stamp (Wait n which) = refl
  does stamp (GetPpid n) = refl
  does stamp (SetSid n) = refl
  does stamp (MakeControl parent) = refl
  does stamp (RemoveControl id) = refl
  does stamp (SetLimit id limit) = refl
  does stamp (Move n id) = refl
  does stamp (Count id) = refl
  does stamp (GetPgid n pid) = refl
  does stamp (GetSid n pid) = refl
  does stamp (Next n kind from) = refl
  does stamp (Join n target) = refl
  does stamp (SetSubreaper n on) = refl

  -- the numbers taken and the counts are what they were
  taken_same : (x : ℕ) → taken s x ≡ taken_before s x
  unfolding taken
  taken_same x = refl

  count_same : (c : ℕ) → count s c ≡ count_before s c
  unfolding count
  count_same c = omega arith

  -- no call makes a thread
  stays : (stamp : ℕ) (call : Call) (o : Outcome) → Comes s stamp call o → IsThreadless o.state
  unfolding sweep with_cursors with_row handed_over rows_after_exit fall rows_after_fall without_row after_exec with_control without_control with_limit with_home
  stays stamp call o (joined_other n target caller row t found there live at) = absurd (cc)
  stays stamp call o _ = record { threads = refl; left = refl }

-- a state without threads is such a state
parts : (state : State) → IsThreadless state → alone state.rows state.spaces state.controls state.pid_max ≡ state
parts state none = λ i. record state { threads = sym none.threads i; left = sym none.left i }

-- in a state without threads each call does what it did
pub does_as_before : DoesAsBefore
does_as_before state stamp call none =
    subst (λ x. step x stamp call ≡ as_before x stamp call) (parts state none) (does state.rows state.spaces state.controls state.pid_max stamp call)

-- and counts what it did
pub counts_as_before : CountsAsBefore
counts_as_before state none = (
  λ x. subst (λ y. taken y x ≡ taken_before y x) (parts state none) (taken_same state.rows state.spaces state.controls state.pid_max x),
  λ c. subst (λ y. count y c ≡ count_before y c) (parts state none) (count_same state.rows state.spaces state.controls state.pid_max c),
)

-- and leaves such a state
pub stays_threadless : StaysThreadless
stays_threadless state stamp call none =
    subst (λ x. IsThreadless (step x stamp call).state) (parts state none)
    (stays state.rows state.spaces state.controls state.pid_max stamp call _ (step_comes (alone state.rows state.spaces state.controls state.pid_max) stamp call))
