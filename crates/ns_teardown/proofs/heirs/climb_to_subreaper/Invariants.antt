use Rattle.std.proofs.Common.{◌≡◌, length, Some, IsSome, option_map}
use Rattle.pid_types.specs.Chains.{climb}
use Rattle.pid_numbers.specs.Numbering.{Identifier, identifier_at}
use Rattle.task_tree.specs.Tree.{task_at, parent_of}
use Rattle.ns_teardown.specs.Heirs.{is_subreaper_of, nearest_subreaper_key}
use Rattle.pid_types.proofs.Ancestors.{found_above}
use Rattle.ns_teardown.proofs.heirs.climb_to_subreaper.Given as goal

abbrev pub invariant-loop-parent : goal.invariant-loop-parent
invariant-loop-parent l = record {
  found : found_above (parent_of l.store.tree) (is_subreaper_of l.store l.space) (length l.store.tree.tasks) l.at ≡ nearest_subreaper_key l.store l.space l.key;
  there : IsSome (task_at l.store.tree l.at);
  own : option_map (λ (u : Identifier). u.space) (identifier_at l.store.numbering l.at) ≡ Some l.space;
}

abbrev pub decreases-loop-parent : goal.decreases-loop-parent
decreases-loop-parent l = length (climb (parent_of l.store.tree) (length l.store.tree.tasks) l.at)
