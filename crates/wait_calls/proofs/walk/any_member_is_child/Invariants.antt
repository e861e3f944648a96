use Rattle.std.proofs.Common.{◌≡◌, ℕ, Some}
use Rattle.std.specs.List.{AllByRecursion}
use Rattle.member_lists.specs.Owners.{owner_of, times}
use Rattle.task_tree.specs.Tree.{parent_of}
use Rattle.groups_sessions.specs.Membership.{groups_of}
use Rattle.wait_calls.proofs.walk.any_member_is_child.Given as goal

abbrev pub invariant-loop-member : goal.invariant-loop-member
invariant-loop-member l = record {
  members : AllByRecursion (λ k. owner_of (groups_of l.store.members) k ≡ Some l.group) l.member-iterator;
  left : (k : ℕ) → parent_of l.store.tree k ≡ Some l.caller → times k l.member-iterator ≡ times k l.initial.member-iterator;
}
