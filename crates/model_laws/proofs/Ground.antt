-- The lemmas of the ground, passed on from one place. Declares nothing.
pub use Rattle.model_laws.proofs.Lists.{IsIn-append_right, IsIn-filter, IsIn-from_contains, IsIn-from_filter, IsIn-from_map, IsIn-map, IsIn-reverse, IsIn-to_reverse, contains-from_IsIn, each_of_map, each_pushed, filter-all, filter-same, find-None, find-Some, find-filter, find-none, find-only, length-IsIn, list_any-from_one, no_element, only, option_both, some_passes}
pub use Rattle.model_laws.proofs.Rising.{IsRising-filter, find-key, roots-map, row_at-map, unique_key}
pub use Rattle.model_laws.proofs.Names.{IsIn-names_in_use, IsIn-taken, Uses, group_in_use, is_numbered-from, is_numbered-true, is_parent-from, is_parent-true, number-off_path, number-on_path, number-same_path, number-within, on_row-both, on_row-keeps, option_eq-true, own_in_use, used_by_row, thread_in_use, in_use_cases, own_name_in_use, same_name-refl, same_name-true, session_in_use, user_of_name, user_of_number}
pub use Rattle.model_laws.proofs.Chains.{Climbs, in_climb, climb_in, IsIn-climb_first, IsIn-climb_more, IsIn-climb_parent, Stops, Stops-at_root, climb-None, climb-Some, climb-same, climb-stopped, climb_cases, climb_child, climb_suffix, climb_trans, length-climb}
pub use Rattle.model_laws.proofs.Forests.{IsIn-chain_new, IsTree-map, IsTree-push, at-listed, at-map, at-push_new, at-push_none, at-push_old, chain-map, chain-new_cases, chain-push, not_there, chain_listed}
pub use Rattle.model_laws.proofs.Trees.{IsOnTree, IsOnTree-listed, IsOnTree-name, control_at-Some, control_to_root, live_row-Some, caller_of-Some, process_at-Some, process_numbered-Some, path_antisym, path_first, path_listed, path_trans, root_control_parent, root_space_parent, row_at-Some, row_at-listed, same_row, space_at-Some, space_at-listed, task_at-own, has_thread-true, has_thread-from, thread_space}
