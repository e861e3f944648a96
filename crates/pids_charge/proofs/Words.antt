-- The words of std and of specs that the lemmas cite, passed on from one place. Declares nothing.
pub use Rattle.std.proofs.Common.{List, None, Option, Some, [], ap, arith, false, get_or, inl, inr, is_some, length, map, not, option_and_then, option_map}
pub use Rattle.std.proofs.Common.{refl, set, subst, suc, sym, true, zero, ℕ, ◌++◌, ◌+◌, ◌-◌, ◌<◌, ◌==◌, ◌∙◌, ◌∷◌, ◌≡◌, ◌≢◌, ◌≤◌, if◌then◌else◌, rules, ◌⊎◌}
pub use Rattle.std.proofs.Math.Path.{fun_ext}
pub use Rattle.std.proofs.lemmas.Bool.{cases_eq, cases_lt, eq-eqb, eqb-true, false_from_ne_true, le-leb, le-ltb, lt-leb, lt-ltb, or_from, or_right}
pub use Rattle.std.proofs.lemmas.List.{get_or-set_other, get_or-set_same, get_or_past, get_or_read, length-map, length-set}
pub use Rattle.std.proofs.lemmas.List.Sums.{length-filter, sum_by-cons}
pub use Rattle.std.specs.List.{AllByRecursion, count_by, filter, list_any, sum_by}
pub use Rattle.std.specs.Option.{option_eq, option_map_or}
pub use Rattle.std.specs.Prelude.{find}
pub use Rattle.id_slab.proofs.Keys.{entry_of, key_of-new, key_of-push}
pub use Rattle.id_slab.specs.Ids.{AreBelow, key_of, without}
pub use Rattle.member_lists.specs.Owners.{owner_of}
pub use Rattle.pid_types.specs.Chains.{contains}
unfoldable pub use Rattle.pid_types.specs.Chains.{climb}
pub use Rattle.pid_types.specs.Changes.{limited}
pub use Rattle.pid_types.specs.Controls.{control_at, is_below, parent_control}
unfoldable pub use Rattle.pid_types.specs.Controls.{control_path}
pub use Rattle.pid_types.specs.declared.plain.Control.{Control}
pub use Rattle.pid_types.specs.declared.reply.Refusal.TheVariants.{BadLimit, ControlBusy, PidsLimit, RootControl}
pub use Rattle.slab.proofs.SlabLemmas.{ContainsKey-within, Updates-with_value}
pub use Rattle.slab.specs.Slab.{ContainsKey, Slab, Updates, get}
pub use Rattle.pids_charge.specs.Charges.{ChangesHome, Charges, Home, all_tasks, charge_refusal, charged_count, handed_on, home_at, home_id, is_occupied, is_full, kept}
pub use Rattle.pids_charge.specs.Charges.{control_limit, limit_refusal, live_at, after_move, remove_refusal, stands, tasks_below, tasks_of, zombies_at}
pub use Rattle.pids_charge.specs.Kept.{AreLinked, ChangesTasks, DropsEmpty, AreTotals, IsKeyOfId, IsChargeTree, IsCounterOf, IsListed, charges_of, listed_parent, control_in}
pub use Rattle.pids_charge.specs.Kept.{counter_at, each, first_full, is_at_limit, limit_in, nearest, home_of_node, standing_key, total_at}
pub use Rattle.pids_charge.specs.Nodes.{HasLevels, IsNodeTree, TreeOfNodes, all_in, is_under, left, live_in, reaches, tasks_in, total_in, tree_of, weight, zombies_in}
pub use Rattle.pids_charge.specs.Sums.{sum_below}
pub use Rattle.pids_charge.specs.declared.counter.Counter.{Counter}
pub use Rattle.pids_charge.specs.declared.node.Node.{Node}
