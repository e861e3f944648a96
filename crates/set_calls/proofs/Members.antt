-- The groups and sessions of a store's rows, by keys.
use Rattle.std.proofs.Common.{◌≡◌, ◌≢◌, ℕ, Bool, true, false, Some, is_some, refl, sym, ap, ◌∙◌, option_map}
use Rattle.pid_types.specs.declared.plain.Row.{Row}
use Rattle.pid_types.specs.Names.{same_name}
use Rattle.pid_types.specs.Groups.{has_members}
use Rattle.model_laws.proofs.Names.{same_name-true, same_name-refl}
use Rattle.model_laws.proofs.Lists.{some_passes, list_any-from_one}
use Rattle.task_tree.specs.declared.Task.{Task}
use Rattle.task_tree.specs.Tree.{task_at}
use Rattle.groups_sessions.specs.Membership.{Membership, group_of, HasMembers}
use Rattle.task_table.specs.Store.{Store}
use Rattle.task_table.proofs.Groups.{in_group}
use Rattle.task_table.specs.View.{name_at, row_of, state_of}
use Rattle.task_table.specs.Lawful.{IsLawful}
use Rattle.task_table.proofs.LookUps.{named, group-named, in-rows, rows-in}
use Rattle.task_table.proofs.InUse.{member}
use Rattle.task_table.proofs.Seated.{group-name, who, one-key}

module _ (s : Store) (l : IsLawful s) where
  -- whether somebody is in a task's group
  module _ (k : ℕ) (t : Task) (at : task_at s.tree k ≡ Some t) where
    pub some-members : HasMembers s.members k → has_members (state_of s) (name_at s.numbering k) ≡ true
    some-members some =
        let m = in_group s.members some.0 k some.1 in
        let v = who s l some.0 m.0 m.1 in
        list_any-from_one (λ row. same_name row.group (name_at s.numbering k)) (state_of s).rows (row_of s some.0 v.0) (rows-in s l some.0 v.0 v.1)
        (same_name-refl (row_of s some.0 v.0).group (name_at s.numbering k) (group-name s l some.0 v.0 m.0 m.1 ∙ ap (name_at s.numbering) m.2))

    pub no-members : ((j : ℕ) → group_of s.members j ≢ Some k) → has_members (state_of s) (name_at s.numbering k) ≡ false
    no-members none = go (has_members (state_of s) (name_at s.numbering k)) refl
      where
        go : (b : Bool) → has_members (state_of s) (name_at s.numbering k) ≡ b → b ≡ false
        go false e = refl
        go true e =
            let r = some_passes (λ row. same_name row.group (name_at s.numbering k)) (state_of s).rows e in
            let f = in-rows s l r.0 r.1 in
            let m = member s l f.0 f.1 f.2 in
            let g = group-named s l f.0 m.0 m.1 in
            let u = named s l k t at in
            let names : name_at s.numbering m.0.group ≡ name_at s.numbering k =
            sym (ap (λ (row : Row). row.group) f.3 ∙ group-name s l f.0 f.1 m.0 m.1) ∙ same_name-true (r.0).group (name_at s.numbering k) r.2 in
            let same : m.0.group ≡ k = one-key s l m.0.group k (ap is_some g.1) (ap is_some u.1) names in
            absurd (none f.0 (ap (option_map (λ (i : Membership). i.group)) m.1 ∙ ap Some same))
