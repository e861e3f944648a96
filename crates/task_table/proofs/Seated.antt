-- The groups and sessions of a store's tasks, by keys.
use Rattle.std.proofs.Common.{◌≡◌, ℕ, Some, IsSome, is_some, sym, ap, ◌∙◌, option_map}
use Rattle.std.specs.Option.{option_map_or}
use Rattle.std.proofs.lemmas.Bool.{eqb-true}
use Rattle.pid_types.proofs.General.{held}
use Rattle.pid_types.specs.State.{root_name}
use Rattle.model_laws.proofs.Names.{same_name-refl}
use Rattle.pid_numbers.specs.Numbering.{identifier_at}
use Rattle.task_tree.specs.declared.Task.{Task}
use Rattle.task_tree.specs.Tree.{task_at}
use Rattle.groups_sessions.specs.Membership.{Membership, membership_at}
use Rattle.task_table.specs.Store.{Store}
use Rattle.task_table.specs.View.{name_at, row_of}
use Rattle.task_table.specs.Lawful.{IsLawful}
use Rattle.task_table.proofs.LookUps.{same-name}

module _ (s : Store) (l : IsLawful s) where
  -- the names of a row's group and session
  pub group-name : (k : ℕ) (t : Task) (m : Membership) → membership_at s.members k ≡ Some m → (row_of s k t).group ≡ name_at s.numbering m.group
  group-name k t m at = ap (λ o. option_map_or (name_at s.numbering) (option_map (λ (i : Membership). i.group) o) root_name) at

  pub session-name : (k : ℕ) (t : Task) (m : Membership) → membership_at s.members k ≡ Some m → (row_of s k t).session ≡ name_at s.numbering m.session
  session-name k t m at = ap (λ o. option_map_or (name_at s.numbering) (option_map (λ (i : Membership). i.session) o) root_name) at

  -- who is in a group is a task
  pub who : (k : ℕ) (m : Membership) → membership_at s.members k ≡ Some m → (t : Task) × (task_at s.tree k ≡ Some t)
  who k m at = held (task_at s.tree k) (sym (l.agree.members k) ∙ ap is_some at)

  -- one name has one key
  pub one-key : (j k : ℕ) → IsSome (identifier_at s.numbering j) → IsSome (identifier_at s.numbering k) → name_at s.numbering j ≡ name_at s.numbering k → j ≡ k
  one-key j k at_j at_k e = eqb-true j k (sym (same-name s l j k at_j at_k) ∙ same_name-refl (name_at s.numbering j) (name_at s.numbering k) e)
