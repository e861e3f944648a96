-- What the model's state becomes when a task goes to another group of its session.
use Rattle.std.proofs.Common.{◌≡◌, ℕ, Some, sym, ap, ◌∙◌}
use Rattle.pid_types.specs.Names.{with_row}
use Rattle.pid_types.specs.Outcome.{sweep}
use Rattle.pid_types.specs.Groups.{set_group}
use Rattle.task_tree.specs.declared.Task.{Task}
use Rattle.task_tree.specs.Tree.{task_at}
use Rattle.groups_sessions.specs.Membership.{Membership, membership_at}
use Rattle.task_table.specs.Store.{Store, HasNoThreads}
use Rattle.task_table.specs.View.{name_at, row_of, state_of}
use Rattle.task_table.specs.Lawful.{IsLawful}
use Rattle.task_table.specs.Whole.{HasParents}
use Rattle.task_table.proofs.Regrouped.{IsRegrouped, regrouped}
use Rattle.task_table.proofs.Seated.{session-name}

module _ (s s' : Store) (l : IsLawful s) (l' : IsLawful s') (parents : HasParents s) (k : ℕ) (t : Task) (at : task_at s.tree k ≡ Some t) (m : Membership) (r : IsRegrouped s s' k m) where
  -- its session is the one that it had
  pub joined : HasNoThreads s'.threads → (v : Membership) → membership_at s.members k ≡ Some v → m.session ≡ v.session → sweep (with_row (state_of s) (name_at s.numbering k) (set_group (name_at s.numbering m.group))) ≡ state_of s'
  joined alone v is same =
      let session : (row_of s k t).session ≡ name_at s.numbering m.session = session-name s l k t v is ∙ ap (name_at s.numbering) (sym same) in
      regrouped s s' l l' parents k t at m r alone (set_group (name_at s.numbering m.group)) (λ i. record (row_of s k t) { group = name_at s.numbering m.group; session = session i })
