use Rattle.std.proofs.Common.{◌≡◌, ℕ, Some}
use Rattle.std.specs.List.{AllByRecursion}
use Rattle.member_lists.specs.Owners.{times}
use Rattle.task_tree.specs.Tree.{parent_of}
use Rattle.groups_sessions.specs.Membership.{group_of}
use Rattle.wait_calls.proofs.walk.has_match.Given as goal

abbrev pub invariant-loop : goal.invariant-loop
invariant-loop l = record {
  children : AllByRecursion (λ k. parent_of l.store.tree k ≡ Some l.caller) l.children;
  left : (k : ℕ) → group_of l.store.members k ≡ Some l.group → times k l.children ≡ times k l.initial.children;
}
