-- What is left in the model when a task has ended and its children have gone to another.
use Rattle.std.proofs.Common.{◌≡◌, ◌≢◌, inl, inr, ℕ, ◌==◌, Bool, true, false, map, get_or, Option, Some, None, is_some, if◌then◌else◌, refl, sym, ap, ◌∙◌, option_map}
use Rattle.std.specs.Prelude.{slice_set}
use Rattle.std.specs.Option.{option_map_or, option_eq}
use Rattle.std.proofs.lemmas.Bool.{cases_eq, eq-eqb, ne_eqb}
use Rattle.std.proofs.lemmas.List.{get_or-set_same, get_or-set_other}
use Rattle.pid_types.proofs.General.{held}
use Rattle.pid_types.specs.declared.plain.Name.{Name}
use Rattle.pid_types.specs.declared.plain.Row.{Row}
use Rattle.pid_types.specs.declared.plain.Life.{Life}
use Rattle.pid_types.specs.declared.plain.Life.TheVariants.{Zombie}
use Rattle.pid_types.specs.declared.plain.Ended.TheVariants.{Exited}
use Rattle.pid_types.specs.State.{root_name}
use Rattle.pid_types.specs.Names.{same_name, task_numbered}
use Rattle.pid_types.specs.Exit.{handed_over, new_parent, row_after_exit, rows_after_exit}
use Rattle.pid_types.specs.Outcome.{sweep}
use Rattle.pid_numbers.specs.Numbering.{Identifier, identifier_at, number_of}
use Rattle.task_tree.specs.declared.Task.{Task}
use Rattle.task_tree.specs.Tree.{task_at, parent_of, lives, handed}
use Rattle.groups_sessions.specs.Membership.{group_of, session_of}
use Rattle.task_table.specs.Store.{Store, IsLess, IsThreaded}
use Rattle.task_table.specs.View.{name_at, row_of, row_with, state_of}
use Rattle.task_table.specs.Lawful.{IsLawful}
use Rattle.task_table.specs.Whole.{HasParents}
use Rattle.task_table.proofs.Changed.{KeepsNames, row-left}
use Rattle.task_table.proofs.Changes.{in_range}
use Rattle.task_table.proofs.InUse.{homed}
use Rattle.task_table.proofs.Less.{number-less}
use Rattle.task_table.proofs.LookUps.{named, same-name}
use Rattle.task_table.proofs.Rows.{row-ext, rows-map}
use Rattle.task_table.proofs.Sweeps.{name-less}
use Rattle.thread_view.specs.Calling.{HasProcesses, IsWholeWithThreads}
use Rattle.thread_view.specs.Full.{full_state}
use Rattle.thread_view.proofs.Named.{swept-full}
use Rattle.thread_ends.specs.Ending.{EndsProcesses, KeepsHomes}
use Rattle.thread_ends.proofs.Endings.{owners-left}
use Rattle.thread_ends.proofs.Ended.{KeepsRoots, same-id, threads-left, marks-left}
use Rattle.ns_teardown.specs.Heirs.{IsHeir}
use Rattle.ns_teardown.proofs.Inheritors.{new_parent-is}

-- a process has ended by its exit with its threads, and its children have a new parent
pub record HasEnded (s s' : Store) (key heir : ℕ) (t : Task) (status : ℕ) : Type 0 where
  pub tasks : s'.tree.tasks ≡ slice_set s.tree.tasks key (Some (record t { life = Zombie (Exited status) }))
  pub parents : (k : ℕ) → parent_of s'.tree k ≡ option_map (handed key heir) (parent_of s.tree k)
  pub numbers : IsLess s.numbering s'.numbering
  pub homes : KeepsHomes s.charges s'.charges
  pub members : s'.members ≡ s.members
  pub threads : EndsProcesses (λ p. p == key) s.threads s'.threads
  pub tree : HasParents s'

module _ (s s' : Store) (l : IsLawful s) (l' : IsLawful s') (w : IsWholeWithThreads s) (key heir : ℕ) (t : Task) (status : ℕ) (at : task_at s.tree key ≡ Some t) (e : HasEnded s s' key heir t status) where
  abbrev after : Row → Row
  after = row_after_exit (row_of s key t) (Some (name_at s.numbering heir)) (Exited status)

  -- names are one if their keys are
  name_is : (k : ℕ) (v : Task) → task_at s.tree k ≡ Some v → same_name (name_at s.numbering k) (name_at s.numbering key) ≡ (k == key)
  name_is k v is = same-name s l k key (ap is_some (named s l k v is).1) (ap is_some (named s l key t at).1)

  names_kept : KeepsNames s.numbering s'.numbering
  names_kept = name-less s.numbering s'.numbering l.numbering e.numbers

  roots : KeepsRoots s s'
  roots k v is = number-less s.numbering l.numbering.full l.numbering.own s'.numbering e.numbers k v is 0

  parent_is : (k : ℕ) (o : Option ℕ) → parent_of s.tree k ≡ o
      → option_map (name_at s.numbering) (option_map (handed key heir) o) ≡ (if option_eq same_name (option_map (name_at s.numbering) o) (Some (name_at s.numbering key)) then Some (name_at s.numbering heir) else option_map (name_at s.numbering) o)
  parent_is k None is = refl
  parent_is k (Some p) is =
      let v = held (task_at s.tree p) (w.parents k p is) in
      each (p == key) ∙ ap (λ b. if b then Some (name_at s.numbering heir) else Some (name_at s.numbering p)) (sym (name_is p v.0 v.1))
    where
      each : (b : Bool) → Some (name_at s.numbering (if b then heir else p)) ≡ (if b then Some (name_at s.numbering heir) else Some (name_at s.numbering p))
      each true = refl
      each false = refl

  -- the store before with the tree after: names and control groups are those before
  abbrev with_tree : Store
  with_tree = record s { tree = s'.tree; members = s'.members }

  -- a task's row after the end
  row_is : (k : ℕ) (v : Task) (life : Life) → task_at s'.tree k ≡ Some (record v { life = life })
      → life ≡ (if same_name (name_at s.numbering k) (name_at s.numbering key) then Zombie (Exited status) else v.life)
      → row_of s' k (record v { life = life }) ≡ after (row_of s k v)
  row_is k v life there ends =
      let h = homed s' l' k (record v { life = life }) there in
      row-left with_tree s' l' names_kept k (record v { life = life }) there refl (e.tree k) refl (same-id s.charges s'.charges e.homes v.home h.0 h.1)
      ∙ row-ext (row_of with_tree k (record v { life = life })) (after (row_of s k v))
      refl
      (ap (option_map (name_at s.numbering)) (e.parents k) ∙ parent_is k (parent_of s.tree k) refl)
      (ap (λ ms. option_map_or (name_at s.numbering) (group_of ms k) root_name) e.members)
      (ap (λ ms. option_map_or (name_at s.numbering) (session_of ms k) root_name) e.members)
      refl ends refl refl refl

  here : task_at s'.tree key ≡ Some (record t { life = Zombie (Exited status) })
  here = ap (λ ts. get_or ts key None) e.tasks ∙ get_or-set_same s.tree.tasks key (Some (record t { life = Zombie (Exited status) })) None (in_range s.tree.tasks key (ap is_some at))

  others : (k : ℕ) → k ≢ key → task_at s'.tree k ≡ task_at s.tree k
  others k m = ap (λ ts. get_or ts k None) e.tasks ∙ get_or-set_other s.tree.tasks key k (Some (record t { life = Zombie (Exited status) })) None m

  each_row : (k : ℕ) → row_with s' k ≡ option_map after (row_with s k)
  each_row k = elim (cases_eq k key) [
    | inl same ↦
        ap (row_with s') same ∙ ap (option_map (row_of s' key)) here
        ∙ ap Some (row_is key t (Zombie (Exited status)) here (ap (λ b. if b then Zombie (Exited status) else t.life) (sym (name_is key t at ∙ eq-eqb key key refl))))
        ∙ sym (ap (option_map after) (ap (row_with s) same ∙ ap (option_map (row_of s key)) at))
    | inr differs ↦ ap (option_map (row_of s' k)) (others k differs) ∙ other differs (task_at s.tree k) refl
  ]
    where
      other : k ≢ key → (o : Option Task) → task_at s.tree k ≡ o → option_map (row_of s' k) o ≡ option_map after (option_map (row_of s k) (task_at s.tree k))
      other differs None is = sym (ap (λ o. option_map after (option_map (row_of s k) o)) is)
      other differs (Some v) is =
          ap Some (row_is k v v.life (others k differs ∙ is) (ap (λ b. if b then Zombie (Exited status) else v.life) (sym (name_is k v is ∙ ne_eqb k key differs))))
          ∙ sym (ap (λ o. option_map after (option_map (row_of s k) o)) is)

  rows_are : lives t ≡ true → ((u : Identifier) → identifier_at s.numbering key ≡ Some u → number_of s.numbering key u.space ≢ Some 1) → IsHeir s key heir
      → rows_after_exit (full_state s) (row_of s key t) status ≡ (state_of s').rows
  unfolding rows_after_exit new_parent task_numbered
  rows_are live inner h =
      ap (λ o. map (row_after_exit (row_of s key t) o (Exited status)) (state_of s).rows) (new_parent-is s l w key t at heir live inner h)
      ∙ sym (rows-map s s' l l' e.numbers.bound (λ k v is. let u = named s' l' k v is in roots k u.0 u.1) after each_row)

  -- whose process has ended is known by its name
  abbrev its : Name → Bool
  its name = same_name name (name_at s.numbering key)

  -- the processes of the threads that are left live as before
  pub processes-left : HasProcesses s'
  processes-left = owners-left s s' key w.processes e.threads others

  -- the model's state after the end
  pub ended : IsThreaded s.numbering s.threads → IsThreaded s'.numbering s'.threads → lives t ≡ true
      → ((u : Identifier) → identifier_at s.numbering key ≡ Some u → number_of s.numbering key u.space ≢ Some 1) → IsHeir s key heir
      → sweep (handed_over (full_state s) (row_of s key t) status) ≡ full_state s'
  unfolding handed_over
  ended i i' live inner h =
      swept-full s.numbering l.numbering s' l' i' e.numbers (handed_over (full_state s) (row_of s key t) status)
      (rows_are live inner h)
      (sym (threads-left s s' l l' i i' w.processes processes-left e.numbers.bound names_kept roots e.homes (λ p. p == key) e.threads its (λ x. its x.process) name_is (λ k x is. refl)))
      (sym (marks-left s s' l l' i i' w.processes processes-left e.numbers.bound names_kept roots e.homes (λ p. p == key) e.threads its (λ x. its x.process) name_is (λ k x is. refl)))
      refl (sym e.homes.controls) (sym e.numbers.bound)
