-- The states that a planned fork and a planned thread make.
use Rattle.std.specs.Prelude.{◌++◌, map, option_to_list}
use Rattle.pid_types.specs.State.{State}
use Rattle.pid_types.specs.Fork.{insert_row}
use Rattle.pid_types.specs.Clone.{insert_thread}
use Rattle.plain_table.specs.Moved.{moved_by}
use Rattle.plain_table.specs.declared.fork.ForkPlan.{ForkPlan}
use Rattle.plain_table.specs.declared.threads.ThreadPlan.{ThreadPlan}

-- the state with the child, and with the cursors moved
abbrev pub with_planned : State → ForkPlan → State
with_planned state plan = record state {
  rows = insert_row plan.child state.rows;
  spaces = map (moved_by plan.path.items plan.cursors.items) state.spaces;
}

-- the same with the namespace that the plan adds
abbrev pub after_plan : State → ForkPlan → State
after_plan state plan = with_planned (record state { spaces = state.spaces ++ option_to_list plan.added }) plan

-- the state with the thread, and with the cursors moved
abbrev pub with_thread_planned : State → ThreadPlan → State
with_thread_planned state plan = record state {
  threads = insert_thread plan.thread state.threads;
  spaces = map (moved_by plan.path.items plan.cursors.items) state.spaces;
}
