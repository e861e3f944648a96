-- The words of the library and of the model that the lemmas cite, passed on from one place. Declares nothing.
pub use Rattle.std.proofs.Common.{◌≡◌, ℕ, zero, suc, ◌+◌, ◌-◌, ◌<◌, ◌≤◌, Bool, true, false, not, ◌==◌, List, [], ◌∷◌, ◌++◌, map, reverse, length, Option, Some, None, refl, sym, ap, ◌∙◌, subst, inl, inr, arith, filter, option_map, option_and_then, slice_index, ℤ, ◌&&◌, ◌||◌, find, is_none, nat_lt, nat_le, ◌⊎◌, length-append, if◌then◌else◌, max, cond, is_some, IfSome, unwrap_or, filter_map, pos, negsuc, ◌↔◌, drop, slice_get, flat_map, Decides, IsTrue, take, add-one}
pub use Rattle.std.proofs.lemmas.Bool.{eq-eqb, ne_eqb, not_from_false, not_from_true, cond_both, eqb-true, eqb-false, ltb-false, not-true, false_from_ne_true, ltb-true, or_cases, or_from, or_parts, or_left, or_right, cases_eq, and_left, leb-false, lt-ltb, and_parts, cases_Bool, le-ltb, and_from, leb-true, le-leb, not-false, and_right}
pub use Rattle.std.proofs.lemmas.List.{length-map, reverse-append, length-reverse, map-id, map-append, append_assoc, length-take-le}
pub use Rattle.std.specs.Option.{option_map_or, option_eq}
pub use Rattle.std.proofs.lemmas.Bool.Decides.{Decides-at, not_from_Decides, same_from_decides, nat_tests, Decides-eqb, Decides-ltb, Decides-and, Decides-or, Decides-not, Decides-like}
pub use Rattle.std.proofs.lemmas.Option.{option_and_then_some, slice_get_within}
pub use Rattle.std.proofs.Math.Path.{fun_ext}
pub use Rattle.std.specs.List.{list_any}
pub use Rattle.std.specs.Cmp.Lexicographic.{pointwise}
pub use Rattle.std.proofs.lemmas.Slice.Eq.{bytes_eq-Decides}
pub use Rattle.pid_types.specs.declared.plain.Name.{Name}
pub use Rattle.pid_types.specs.declared.plain.Row.{Row}
pub use Rattle.pid_types.specs.declared.plain.Space.{Space}
pub use Rattle.pid_types.specs.Chains.{least_of, contains}
unfoldable pub use Rattle.pid_types.specs.Chains.{climb}
pub use Rattle.pid_types.specs.declared.plain.Thread.{Thread}
pub use Rattle.pid_types.specs.State.{State, root_state, root_init, root_name}
pub use Rattle.pid_types.specs.Names.{parent_space, beside, root_number, is_live, row_at, number_or_zero, same_name, is_parent, live_row, on_row, is_within, is_member, is_numbered, names_in_use, in_use, space_at, beside_from}
pub use Rattle.pid_types.specs.Threads.{is_thread_of, has_left, has_thread, running, without_threads, thread_at, caller_of, as_thread, process_at, thread_numbered}
unfoldable pub use Rattle.pid_types.specs.Threads.{process_numbered}
unfoldable pub use Rattle.pid_types.specs.Names.{path_up, number, with_row, level, task_numbered, numbers_from, taken}
pub use Rattle.pid_types.specs.Exit.{parent_number, is_init, goes_in_fall, row_after_exit, row_after_fall, is_of, ends, has_parent_within, fallen_below, ancestors, is_subreaper_in, nearest_subreaper}
unfoldable pub use Rattle.pid_types.specs.Exit.{fall, rows_after_exit, handed_over, exit, new_parent, rows_after_fall}
pub use Rattle.pid_types.specs.Membership.{IsIn}
pub use Rattle.pid_types.specs.Sound.{IsWellNumbered, IsTreeOfSpaces, IsCoherent, IsTreeOfControls, HasGoodLimit, IsSound, IsBelow, IsRising, IsGoodParent, HasGoodParents, HasGoodChildrenSpace, IsTree, HasLiveInit, IsEmptied, RootStands, HasGoodGroups, HasDistinctNumbers, HasLiveProcess, IsGoodThread, IsGoodMark}
pub use Rattle.pid_types.specs.declared.call.Call.{Call}
pub use Rattle.pid_types.specs.Outcome.{Outcome, answered, changed, for_found, unless_found, refuse_if, is_dead, by_caller, by_thread}
unfoldable pub use Rattle.pid_types.specs.Outcome.{sweep}
pub use Rattle.pid_types.specs.Fork.{forked, with_space, is_gone, insert_by, insert_row, moved_cursor, new_name, child_of, with_child}
pub use Rattle.pid_types.specs.Clone.{insert_thread, thread_of, with_thread, threaded}
unfoldable pub use Rattle.pid_types.specs.Clone.{thread}
pub use Rattle.pid_types.specs.Leave.{without_caller}
unfoldable pub use Rattle.pid_types.specs.Leave.{without_thread, without_first, leave}
unfoldable pub use Rattle.pid_types.specs.Fork.{with_cursors, fork, no_room, drawn}
pub use Rattle.pid_types.specs.Wait.{least_row, end_of, ended_children, is_selected}
unfoldable pub use Rattle.pid_types.specs.Wait.{without_row, wait, matching}
pub use Rattle.pid_types.specs.Changes.{set_executed, set_home, set_thread_home, set_children_space, set_thread_space, with_children_space, set_mark, rehome, limited, on_control}
unfoldable pub use Rattle.pid_types.specs.Changes.{with_control, without_control, with_limit, after_exec, with_home, exec, make_control, is_busy, remove_control, set_limit, move_task, count_tasks, join, set_subreaper}
pub use Rattle.pid_types.specs.Step.{makes_id}
unfoldable pub use Rattle.pid_types.specs.Step.{step}
pub use Rattle.pid_types.specs.Replay.{state_after, calls_of, Along, RepliesAsOne, Replays}
pub use Rattle.pid_types.specs.Bounds.{greatest_limit, deepest_space, deepest_control}
pub use Rattle.pid_types.specs.declared.call.Call.TheVariants.{Fork, GetPid, NsPid, Exec, Exit, Wait, GetPpid, SetPgid, SetSid, MakeControl, RemoveControl, SetLimit, Move, Count, GetPgid, GetSid, Next, Join, SetSubreaper}
pub use Rattle.pid_types.specs.declared.call.ThreadCall.{ThreadCall}
pub use Rattle.pid_types.specs.declared.call.ThreadCall.TheVariants.{NewThread, Leave, GetTid, GetTgid, NextThread}
pub use Rattle.pid_types.specs.ThreadStep.{AnyCall, of_table, of_threads, any_step, state_after_any}
unfoldable pub use Rattle.pid_types.specs.ThreadStep.{thread_step}
pub use Rattle.pid_types.specs.declared.call.Which.{Which}
pub use Rattle.pid_types.specs.declared.plain.Control.{Control}
pub use Rattle.pid_types.specs.declared.reply.Reply.{Reply}
pub use Rattle.pid_types.specs.declared.reply.Reply.TheVariants.{Forked, Done, Number, Reaped, NoneYet, Counted, Control as ControlMade, End, Refused, Levels as LevelList}
pub use Rattle.pid_types.specs.declared.reply.Refusal.{Refusal}
pub use Rattle.pid_types.specs.declared.reply.Refusal.TheVariants.{NoCaller, NoTask, NoChild, NoNumber, PidsLimit, SpaceFallen, TooDeep, Elsewhere, BadGroup, OtherSession, IsLeader, NoGroup, Executed, RootInit, NoControl, ControlBusy, RootControl, BadLimit, ControlDepth}
pub use Rattle.pid_types.specs.Draw.{restart, cursor_of}
unfoldable pub use Rattle.pid_types.specs.Draw.{draw, least_free, cyclic_draw}
pub use Rattle.pid_types.specs.Controls.{control_at, parent_control, is_below, is_limited_below}
unfoldable pub use Rattle.pid_types.specs.Controls.{control_path, count, passed_limit}
pub use Rattle.pid_types.specs.Groups.{is_negative, is_no_leader, target_of, group_for, set_group, has_members, start_session}
unfoldable pub use Rattle.pid_types.specs.Groups.{set_group_of, set_pgid, set_sid, session_group}
pub use Rattle.pid_types.specs.Queries.{self_or_task, levels_to, numbers_by, of_task, name_by, asked_by}
unfoldable pub use Rattle.pid_types.specs.Queries.{get_pid, get_tid, get_tgid, get_ppid, get_pgid, get_sid, ns_pid, next, next_thread}
pub use Rattle.pid_types.specs.Sight.{Glimpse, ThreadGlimpse, is_seen, glimpse_of, thread_glimpse, thread_sight, glimpse_at, thread_glimpse_at, process_seen, self_or_glimpse, number_by, of_glimpse, levels_seen}
unfoldable pub use Rattle.pid_types.specs.Sight.{sight, seen}
pub use Rattle.pid_types.specs.declared.plain.Ended.{Ended}
pub use Rattle.pid_types.specs.declared.plain.Ended.TheVariants.{Exited, Killed}
pub use Rattle.pid_types.specs.declared.plain.Life.{Life}
pub use Rattle.pid_types.specs.declared.plain.Life.TheVariants.{Zombie}
pub use Rattle.pid_types.specs.declared.call.Kind.{Kind}
pub use Rattle.pid_types.specs.declared.entry.Entry.{Entry}
pub use Rattle.pid_types.specs.Limits.{ForkedWithinLimits, ForksStayWithinLimits}
pub use Rattle.pid_types.specs.Settings.{HasGoodPidMax}
pub use Rattle.pid_types.specs.declared.plain.ControlRow.{ControlRow}
pub use Rattle.pid_types.specs.Shown.{with_count}
