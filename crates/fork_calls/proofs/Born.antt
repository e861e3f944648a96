-- What a new task makes of the model's state.
use Rattle.std.proofs.Common.{◌≡◌, inl, inr, ℕ, false, List, [], map, Some, IsSome, is_some, refl, sym, ap, subst, ◌∙◌, option_map, unwrap_or}
use Rattle.std.specs.Option.{option_map_or}
use Rattle.std.proofs.lemmas.Bool.{cases_eq}
use Rattle.pid_types.specs.declared.plain.Life.TheVariants.{Live}
use Rattle.pid_types.specs.declared.plain.Name.{Name}
use Rattle.pid_types.specs.declared.plain.Space.{Space}
use Rattle.pid_types.specs.State.{State, root_name}
use Rattle.pid_types.specs.Names.{path_up, root_number, number_or_zero}
use Rattle.pid_types.specs.Outcome.{sweep}
use Rattle.pid_types.specs.Fork.{drawn, child_of, with_child, with_cursors, moved_cursor, insert_row}
use Rattle.pid_types.specs.declared.reply.Reply.TheVariants.{Forked}
use Rattle.model_laws.proofs.SpaceMaps.{number-map_spaces}
use Rattle.pid_numbers.specs.Numbering.{id_at, new_identifier}
use Rattle.task_tree.specs.declared.Task.{Task}
use Rattle.task_tree.specs.Tree.{task_at, parent_of}
use Rattle.pids_charge.specs.Charges.{home_id}
use Rattle.task_table.specs.Store.{Store, HasNoThreads, Begins}
use Rattle.task_table.specs.View.{name_of, name_at, row_of, spaces_of, state_of}
use Rattle.task_table.specs.Lawful.{IsLawful}
use Rattle.task_table.specs.Whole.{HasParents}
use Rattle.task_table.proofs.LookUps.{named}
use Rattle.task_table.proofs.InUse.{member}
use Rattle.task_table.proofs.Rows.{row-ext, rows-insert}
use Rattle.task_table.proofs.Newborn.{KeepsNamespaces, Comes, some_of, named_in, group_in, session_in, name-kept, root_kept, home_kept, group_name, session_name, other_rows, born}
use Rattle.task_table.proofs.Changed.{IsLess-same, swept}

-- the numbers of a new name are seen as before the cursors moved
pub reply-drawn : (planned : State) (path : List ℕ) (spaces : List Space) → with_cursors planned path ≡ spaces → (name new : Name) → name ≡ new → (i : ℕ)
    → Forked (number_or_zero spaces name i) (root_number name) ≡ Forked (number_or_zero planned.spaces new i) (root_number new)
unfolding with_cursors
reply-drawn planned path spaces moved name new same i =
    ap (λ l. Forked (number_or_zero l name i) (root_number name)) (sym moved)
    ∙ ap (λ o. Forked (unwrap_or o 0) (root_number name)) (number-map_spaces planned.spaces (moved_cursor planned path) (λ x. refl) (λ x. refl) name i)
    ∙ ap (λ n. Forked (number_or_zero planned.spaces n i) (root_number n)) same

module _ (s s' : Store) (l : IsLawful s) (l' : IsLawful s') (kin : HasParents s) (key from : ℕ) (task : Task) (space : ℕ) (numbers : List ℕ)
    (begun : Begins s s' key (Some from) task (new_identifier space numbers)) (keeps : KeepsNamespaces s.numbering s'.numbering) where
  comes : Comes s s' key (Some from) task space numbers
  comes = record { before = l; after = l'; kin = kin; begun = begun; keeps = keeps }

  module _ (caller : Task) (at : task_at s.tree from ≡ Some caller) (t : ℕ) (id : id_at s'.numbering space ≡ Some t) (planned : State)
      (drew : numbers ≡ map (drawn planned) (path_up planned.spaces t))
      (made : task ≡ record { children_space = t; home = caller.home; executed = false; subreaper = false; life = Live }) where
    pub name-born : name_at s'.numbering key ≡ (child_of planned (row_of s from caller) t).name
    name-born =
        let v = born comes in
        ap (λ o. option_map_or (name_of s'.numbering) o root_name) v.1
        ∙ ap (λ q. named_in (unwrap_or (id_at s'.numbering q) 0) v.0.numbers) v.2 ∙ ap (λ o. named_in (unwrap_or o 0) v.0.numbers) id
        ∙ ap (named_in t) (v.3 ∙ drew)

    row_born : row_of s' key task ≡ child_of planned (row_of s from caller) t
    row_born =
        let m = member s l from caller at in
        let u = named s l from caller at in
        row-ext (row_of s' key task) (child_of planned (row_of s from caller) t) name-born
        (ap (option_map (name_at s'.numbering)) begun.parent ∙ ap Some (name-kept comes from u.0 u.1))
        (ap (group_in s'.numbering) (begun.member ∙ m.1) ∙ group_name comes from m.0 m.1 ∙ sym (ap (group_in s.numbering) m.1))
        (ap (session_in s'.numbering) (begun.member ∙ m.1) ∙ session_name comes from m.0 m.1 ∙ sym (ap (session_in s.numbering) m.1))
        (ap (λ (x : Task). x.executed) made) (ap (λ (x : Task). x.life) made)
        (home_kept comes task.home ∙ ap (λ (x : Task). home_id s.charges x.home) made)
        (ap (λ (x : Task). x.children_space) made) (ap (λ (x : Task). x.subreaper) made)

    -- the state with the child
    pub state-born : HasNoThreads s.threads → planned.rows ≡ (state_of s).rows → planned.threads ≡ [] → planned.left ≡ [] → planned.controls ≡ s.charges.controls → planned.pid_max ≡ s.numbering.pid_max
        → with_cursors planned (path_up planned.spaces t) ≡ spaces_of s'.numbering
        → sweep (with_child planned (child_of planned (row_of s from caller) t) (path_up planned.spaces t)) ≡ state_of s'
    state-born alone rows threads left controls bound spaces =
        swept s'.numbering l'.numbering s' l' (subst HasNoThreads (sym begun.threads) alone) (IsLess-same s'.numbering l'.numbering) (with_child planned (child_of planned (row_of s from caller) t) (path_up planned.spaces t))
        (ap (insert_row (child_of planned (row_of s from caller) t)) rows ∙ ap (λ r. insert_row r (state_of s).rows) (sym row_born)
        ∙ sym (rows-insert s s' l l' begun.bound key task begun.fresh.0 begun.fresh.1 begun.begun (root_kept comes) (other_rows comes)))
        threads left spaces (controls ∙ sym begun.home.controls) (bound ∙ sym begun.bound)

    -- and the reply
    pub reply-born : with_cursors planned (path_up planned.spaces t) ≡ spaces_of s'.numbering → (i : ℕ)
        → Forked (number_or_zero (spaces_of s'.numbering) (name_at s'.numbering key) i) (root_number (name_at s'.numbering key))
        ≡ Forked (number_or_zero planned.spaces (child_of planned (row_of s from caller) t).name i) (root_number (child_of planned (row_of s from caller) t).name)
    reply-born spaces i = reply-drawn planned (path_up planned.spaces t) (spaces_of s'.numbering) spaces (name_at s'.numbering key) (child_of planned (row_of s from caller) t).name name-born i

  -- parents are tasks as before
  pub parents-born : IsSome (task_at s.tree from) → HasParents s'
  parents-born there k p e = elim (cases_eq k key) [
    | inl same ↦ (let z : Some from ≡ Some p = sym begun.parent ∙ ap (parent_of s'.tree) (sym same) ∙ e in alive p (subst (λ q. IsSome (task_at s.tree q)) (some_of from p z) there))
    | inr differs ↦ alive p (kin k p (sym (begun.parents k differs) ∙ e))
  ]
    where
      alive : (p : ℕ) → IsSome (task_at s.tree p) → IsSome (task_at s'.tree p)
      alive p h = elim (cases_eq p key) [
        | inl same ↦ ap is_some (ap (task_at s'.tree) same ∙ begun.begun)
        | inr differs ↦ ap is_some (begun.tasks p differs) ∙ h
      ]
