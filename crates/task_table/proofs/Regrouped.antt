-- What a store becomes when a task goes to another group or session.
use Rattle.std.proofs.Common.{◌≡◌, ◌≢◌, ℕ, map, get_or, Option, Some, None, is_some, refl, sym, ap, ◌∙◌, option_map}
use Rattle.std.specs.Prelude.{slice_set}
use Rattle.std.specs.Option.{option_map_or}
use Rattle.std.proofs.lemmas.List.{get_or-set_same, get_or-set_other}
use Rattle.pid_types.specs.declared.plain.Row.{Row}
use Rattle.pid_types.specs.State.{root_name}
use Rattle.pid_types.specs.Names.{with_row, on_row}
use Rattle.pid_types.specs.Outcome.{sweep}
use Rattle.pids_charge.specs.Charges.{home_id}
use Rattle.task_tree.specs.declared.Task.{Task}
use Rattle.task_tree.specs.Tree.{task_at, parent_of}
use Rattle.groups_sessions.specs.Membership.{Membership, membership_at}
use Rattle.task_table.specs.Store.{Store, IsLess, HasNoThreads}
use Rattle.task_table.proofs.Changes.{in_range}
use Rattle.task_table.proofs.Less.{number-less}
use Rattle.task_table.specs.View.{name_at, row_of, row_with, state_of}
use Rattle.task_table.specs.Lawful.{IsLawful}
use Rattle.task_table.specs.Whole.{HasParents}
use Rattle.task_table.proofs.LookUps.{named}
use Rattle.task_table.proofs.InUse.{member}
use Rattle.task_table.proofs.Rows.{rows-on}
use Rattle.task_table.proofs.Sweeps.{name-less}
use Rattle.task_table.proofs.Changed.{swept, row-left}

-- one task is in another group or session, and uses went
pub record IsRegrouped (s s' : Store) (k : ℕ) (m : Membership) : Type 0 where
  pub members : s'.members ≡ slice_set s.members k (Some m)
  pub numbers : IsLess s.numbering s'.numbering
  pub tree : s'.tree ≡ s.tree
  pub charges : s'.charges ≡ s.charges

module _ (s s' : Store) (l : IsLawful s) (l' : IsLawful s') (parents : HasParents s) (k : ℕ) (t : Task) (at : task_at s.tree k ≡ Some t) (m : Membership) (r : IsRegrouped s s' k m) where
  -- parents are tasks as before
  pub parents-regrouped : HasParents s'
  parents-regrouped j p e = ap (λ x. is_some (task_at x p)) r.tree ∙ parents j p (sym (ap (λ x. parent_of x j) r.tree) ∙ e)

  -- the store before, with the members after
  abbrev between : Store
  between = record s { members = s'.members }

  row_left : (j : ℕ) (v : Task) → task_at s'.tree j ≡ Some v → row_of s' j v ≡ row_of between j v
  row_left j v e =
      row-left between s' l' (name-less s.numbering s'.numbering l.numbering r.numbers) j v e (ap (λ x. parent_of x j) r.tree) (λ p f. parents-regrouped j p f) refl
      (ap (λ c. home_id c v.home) r.charges)

  pub member_set : membership_at s'.members k ≡ Some m
  member_set = ap (λ ms. get_or ms k None) r.members ∙ get_or-set_same s.members k (Some m) None (in_range s.members k (let i = member s l k t at in ap is_some i.1))

  -- its row, and those of the others
  pub here : row_with s' k ≡ Some (record (row_of s k t) { group = name_at s.numbering m.group; session = name_at s.numbering m.session })
  here =
      let there : task_at s'.tree k ≡ Some t = ap (λ x. task_at x k) r.tree ∙ at in
      ap (option_map (row_of s' k)) there ∙ ap Some (row_left k t there)
      ∙ ap (λ o. Some (record (row_of s k t) {
        group = option_map_or (name_at s.numbering) (option_map (λ (i : Membership). i.group) o) root_name;
        session = option_map_or (name_at s.numbering) (option_map (λ (i : Membership). i.session) o) root_name;
      })) member_set

  pub others : (j : ℕ) → j ≢ k → row_with s' j ≡ row_with s j
  others j differs = go (task_at s.tree j) refl
    where
      same_member : membership_at s'.members j ≡ membership_at s.members j
      same_member = ap (λ ms. get_or ms j None) r.members ∙ get_or-set_other s.members k j (Some m) None differs

      go : (o : Option Task) → task_at s.tree j ≡ o → row_with s' j ≡ row_with s j
      go None e = ap (option_map (row_of s' j)) (ap (λ x. task_at x j) r.tree ∙ e) ∙ sym (ap (option_map (row_of s j)) e)
      go (Some v) e =
          let there : task_at s'.tree j ≡ Some v = ap (λ x. task_at x j) r.tree ∙ e in
          ap (option_map (row_of s' j)) there ∙ ap Some (row_left j v there)
          ∙ ap (λ o. Some (record (row_of s j v) {
            group = option_map_or (name_at s.numbering) (option_map (λ (i : Membership). i.group) o) root_name;
            session = option_map_or (name_at s.numbering) (option_map (λ (i : Membership). i.session) o) root_name;
          })) same_member
          ∙ sym (ap (option_map (row_of s j)) e)

  -- the model's row of the task has the group and the session, and what nothing uses any more is swept
  pub regrouped : HasNoThreads s'.threads → (h : Row → Row) → h (row_of s k t) ≡ record (row_of s k t) { group = name_at s.numbering m.group; session = name_at s.numbering m.session }
      → sweep (with_row (state_of s) (name_at s.numbering k) h) ≡ state_of s'
  unfolding with_row
  regrouped alone h changes =
      swept s.numbering l.numbering s' l' alone r.numbers (record (state_of s) { rows = map (on_row (name_at s.numbering k) h) (state_of s).rows })
      (sym (rows-on s s' l l' r.numbers.bound
      (λ j v e. let u = named s' l' j v e in number-less s.numbering l.numbering.full l.numbering.own s'.numbering r.numbers j u.0 u.1 0) k t h at (here ∙ ap Some (sym changes)) others))
      refl refl refl (sym (ap (λ c. c.controls) r.charges)) (sym r.numbers.bound)
