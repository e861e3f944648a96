-- What a new thread comes to.
use Rattle.std.specs.Prelude.{◌≡◌, ℕ, true, Some, Result, OnOk, OnErr}
use Rattle.pid_types.specs.Outcome.{Outcome, unless_found}
use Rattle.pid_types.specs.Fork.{no_room}
use Rattle.pid_types.specs.Clone.{threaded}
use Rattle.pid_numbers.specs.Numbering.{id_at}
use Rattle.pids_charge.specs.Charges.{stands}
use Rattle.task_tree.specs.declared.Task.{Task}
use Rattle.task_tree.specs.Tree.{task_at, has_live}
use Rattle.task_table.specs.Store.{Store}
use Rattle.task_table.specs.View.{name_at, row_of}
use Rattle.thread_view.specs.declared.Calling.{Calling}
use Rattle.thread_view.specs.Full.{full_state}

-- the process lives, the namespace is its own, its children go there, and its control group stands
pub record MayClone (s : Store) (calling : Calling) (task : Task) : Type 0 where
  pub live : has_live (task_at s.tree calling.process) ≡ true
  pub space : id_at s.numbering calling.space ≡ Some task.children_space
  pub own : (name_at s.numbering calling.process).space ≡ task.children_space
  pub home : stands s.charges task.home ≡ true

-- the process's new thread, or why there can be none
abbrev pub thread_there : Store → ℕ → Task → Outcome
thread_there s process task =
    let row = row_of s process task in
    unless_found (full_state s) (no_room (full_state s) row row.name.space) (λ r. r) (threaded (full_state s) row)

-- the store with its threads is as the outcome leaves it, unless memory was wanting
abbrev pub LeavesThreads : {A E : Type 0} → Result A E → Store → Outcome → Type 0
LeavesThreads result s outcome = OnOk result (full_state s ≡ outcome.state)

-- and then it is as it was
abbrev pub StaysSameWithThreads : {A E : Type 0} → Result A E → Store → Store → Type 0
StaysSameWithThreads result old new = OnErr result (full_state new ≡ full_state old)
