-- The words of std and of specs that the lemmas cite, passed on from one place. Declares nothing.
pub use Rattle.std.proofs.Common.{Bool, IfErr, IfSome, IsSome, List, MatchOption, None, OnOk, Option, Some, [], ap, arith, drop, false, find, get_or}
pub use Rattle.std.proofs.Common.{if◌then◌else◌, is_none, is_some, length, map, option_and_then, option_map, refl, rules, set, subst, suc, sym, take, true}
pub use Rattle.std.proofs.Common.{unwrap_or, zero, ℕ, ◌&&◌, ◌++◌, ◌+◌, ◌-◌, ◌<◌, ◌==◌, ◌||◌, ◌∙◌, ◌∷◌, ◌≡◌, ◌≢◌, ◌≤◌}
pub use Rattle.std.proofs.lemmas.Bool.{and_parts, both_ways, cases_eq, cases_lt, cond_both, eq-eqb, false_from_ne_true, false≢true, ltb-true, ne_eqb}
pub use Rattle.std.proofs.lemmas.Bool.{not_from_false, or_cases, or_left, or_parts, or_right, true_from_ne_false, true≢false}
pub use Rattle.std.proofs.lemmas.Bool.Decides.{nat_tests}
pub use Rattle.std.proofs.lemmas.List.{drop_more, get_or-drop, get_or-set_same, get_or_past, length-map, length-reverse, length-set, map-append, reverse-append}
pub use Rattle.std.proofs.lemmas.Option.{cond_some, none-some, option_and_then_some, same_Some, slice_get_past, slice_get_read, slice_get_within}
pub use Rattle.std.specs.List.{AllByRecursion, cons_option, filter}
pub use Rattle.std.specs.Option.{option_map_or}
pub use Rattle.std.specs.Prelude.{MatchBool, filter_map, nat_lt, reverse, slice_get, slice_index_or, slice_set, vec_capacity}
pub use Rattle.cyclic_ids.proofs.Draws.{cyclic_draw-same}
pub use Rattle.cyclic_ids.specs.Ids.{Ids, planned}
pub use Rattle.index_array.proofs.Indexes.{contains_indexes}
pub use Rattle.index_array.specs.Place.{Entry, IsLeastIndex, Place, entry_at, indexes, is_marked, is_prepared, is_unmarked, with_mark}
pub use Rattle.ns_tree.proofs.Paths.{contains_at, distinct-path, everywhere, place_of}
pub use Rattle.ns_tree.specs.Tree.{AreListed, IsDistinct, IsPath, IsPathTree, Node, TreeOfSpaces, fell, felled_within, grown, id_in, new_node, node_in, way}
pub use Rattle.pid_numbers.specs.Vacancy.{AreVacant}
pub use Rattle.pid_types.proofs.LeastFree.{draw-Some, least_free-found}
pub use Rattle.pid_types.specs.Chains.{contains}
unfoldable pub use Rattle.pid_types.specs.Chains.{climb}
pub use Rattle.pid_types.specs.Draw.{cursor_of, least_free}
unfoldable pub use Rattle.pid_types.specs.Draw.{cyclic_draw, draw}
pub use Rattle.pid_types.specs.Names.{beside, beside_from, in_use, parent_space}
unfoldable pub use Rattle.pid_types.specs.Names.{number, path_up, taken}
pub use Rattle.pid_types.specs.declared.call.Kind.{Kind}
pub use Rattle.pid_types.specs.declared.call.Kind.TheVariants.{Group, Session, Task}
pub use Rattle.pid_numbers.specs.Numbering.{HasOwnTask, Identifier, IsNextThread, IsNextUsed, Namespace, Numbering, cursor_put, draw_in, fallen_within}
pub use Rattle.pid_numbers.specs.Numbering.{has_fallen_at, id_at, identifier_at, is_there, is_thread, is_used, is_used_as, less, levels_of, more, moved, left_of}
pub use Rattle.pid_numbers.specs.Numbering.{namespace_at, new_identifier, number_in, number_of, path_at, swept_at, uses, with_uses}
unfoldable pub use Rattle.pid_numbers.specs.Numbering.{taken_in}
pub use Rattle.pid_numbers.specs.Slabs.{AreAround, AreFallen, AreFreed, AreIn, AreSwept, HaveNumbersInRange, AreMarked, ArePlanned, AreReady, IsNumberTable, IsNumbering, IsTied, IsConsistent}
pub use Rattle.pid_numbers.specs.Slabs.{bound_on, cursor_on, dead_on, empty_on, entry_on, given_to, leads, mark_of, use_marks, namespace_of}
pub use Rattle.pid_numbers.specs.Slabs.{numbering_of, plan_on, ready, stepped, touched, namespaces_with}
pub use Rattle.pid_numbers.specs.Table.{ChangesPlace, IsTable, Table, get, identifier_of, ident_at, shown}
pub use Rattle.pid_numbers.specs.declared.idents.Ident.{Ident}
