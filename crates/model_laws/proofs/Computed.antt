-- One name for all that a computed script unfolds.
use Rattle.model_laws.proofs.Words.{ℕ, climb, path_up, level, number, numbers_from, task_numbered, taken, with_row, least_free, cyclic_draw, draw, control_path, count, passed_limit, sweep, drawn, with_cursors, no_room, fork, new_parent, rows_after_exit, rows_after_fall, fall, exit, matching, without_row, wait, session_group, set_group_of, set_pgid, set_sid, get_pid, get_ppid, get_pgid, get_sid, ns_pid, next, exec, with_control, make_control, is_busy, without_control, remove_control, with_limit, set_limit, move_task, count_tasks, join, set_subreaper, sight, step, process_numbered, handed_over, thread, without_thread, leave, after_exec, with_home, get_tid, get_tgid, next_thread, thread_step, without_first}

-- a proof that unfolds this unfolds every call
unfoldable pub computed : ℕ
unfolding with_row climb path_up level number numbers_from task_numbered taken least_free cyclic_draw draw control_path count passed_limit sweep drawn with_cursors no_room fork new_parent rows_after_exit rows_after_fall fall exit matching without_row wait session_group set_group_of set_pgid set_sid get_pid get_ppid get_pgid get_sid ns_pid next exec with_control make_control is_busy without_control remove_control with_limit set_limit move_task count_tasks join set_subreaper sight step process_numbered handed_over thread without_thread leave after_exec with_home get_tid get_tgid next_thread thread_step without_first
computed = 0
