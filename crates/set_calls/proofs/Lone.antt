-- What the state with threads becomes when a process goes on as another task, without its other threads.
use Rattle.std.proofs.Common.{◌≡◌, ◌≢◌, inl, inr, ℕ, ◌==◌, Bool, map, get_or, Option, Some, None, is_some, refl, sym, ap, ◌∙◌, option_map}
use Rattle.std.specs.Prelude.{slice_index_or, slice_set}
use Rattle.std.proofs.lemmas.Bool.{cases_eq}
use Rattle.std.proofs.lemmas.List.{get_or-set_same, get_or-set_other}
use Rattle.pid_types.specs.declared.plain.Name.{Name}
use Rattle.pid_types.specs.declared.plain.Row.{Row}
use Rattle.pid_types.specs.Names.{same_name, with_row, on_row}
use Rattle.pid_types.specs.Outcome.{sweep}
use Rattle.pid_types.specs.Threads.{without_threads}
use Rattle.task_tree.specs.declared.Task.{Task}
use Rattle.task_tree.specs.Tree.{task_at, parent_of}
use Rattle.task_table.specs.Store.{Store, IsLess, IsThreaded}
use Rattle.task_table.specs.View.{name_at, row_of, row_with, state_of}
use Rattle.task_table.specs.Lawful.{IsLawful}
use Rattle.task_table.specs.Whole.{HasParents}
use Rattle.task_table.proofs.Changed.{KeepsNames, row-left}
use Rattle.task_table.proofs.Changes.{in_range}
use Rattle.task_table.proofs.InUse.{homed}
use Rattle.task_table.proofs.Less.{number-less}
use Rattle.task_table.proofs.LookUps.{named, same-name}
use Rattle.task_table.proofs.Rows.{rows-on}
use Rattle.task_table.proofs.Sweeps.{name-less}
use Rattle.thread_view.specs.Calling.{HasProcesses, IsWholeWithThreads}
use Rattle.thread_view.specs.Full.{full_state}
use Rattle.thread_view.proofs.Named.{swept-full}
use Rattle.thread_ends.specs.Ending.{EndsProcesses, KeepsHomes}
use Rattle.thread_ends.proofs.Endings.{owners-left}
use Rattle.thread_ends.proofs.Ended.{KeepsRoots, same-id, threads-left, marks-left}

-- the process with the key is this task now, and its other threads are gone
pub record GoesOn (s s' : Store) (key : ℕ) (now : Task) : Type 0 where
  pub tasks : s'.tree.tasks ≡ slice_set s.tree.tasks key (Some now)
  pub parents : s'.tree.parents ≡ s.tree.parents
  pub members : s'.members ≡ s.members
  pub numbers : IsLess s.numbering s'.numbering
  pub homes : KeepsHomes s.charges s'.charges
  pub threads : EndsProcesses (λ p. p == key) s.threads s'.threads

module _ (s s' : Store) (l : IsLawful s) (l' : IsLawful s') (i : IsThreaded s.numbering s.threads) (i' : IsThreaded s'.numbering s'.threads) (w : IsWholeWithThreads s)
    (key : ℕ) (was now : Task) (at : task_at s.tree key ≡ Some was) (g : GoesOn s s' key now) where
  here : task_at s'.tree key ≡ Some now
  here = ap (λ ts. get_or ts key None) g.tasks ∙ get_or-set_same s.tree.tasks key (Some now) None (in_range s.tree.tasks key (ap is_some at))

  others : (j : ℕ) → j ≢ key → task_at s'.tree j ≡ task_at s.tree j
  others j m = ap (λ ts. get_or ts j None) g.tasks ∙ get_or-set_other s.tree.tasks key j (Some now) None m

  same_parent : (j : ℕ) → parent_of s'.tree j ≡ parent_of s.tree j
  same_parent j = ap (λ ps. slice_index_or ps j None) g.parents

  pub parents-lone : HasParents s'
  parents-lone j p e = elim (cases_eq p key) [
    | inl same ↦ ap is_some (ap (task_at s'.tree) same ∙ here)
    | inr differs ↦ ap is_some (others p differs) ∙ w.parents j p (sym (same_parent j) ∙ e)
  ]

  pub processes-lone : HasProcesses s'
  processes-lone = owners-left s s' key w.processes g.threads others

  names_kept : KeepsNames s.numbering s'.numbering
  names_kept = name-less s.numbering s'.numbering l.numbering g.numbers

  roots : KeepsRoots s s'
  roots j v e = number-less s.numbering l.numbering.full l.numbering.own s'.numbering g.numbers j v e 0

  -- a task has the row that it would have had before
  row_kept : (j : ℕ) (v : Task) → task_at s'.tree j ≡ Some v → row_of s' j v ≡ row_of s j v
  row_kept j v e =
      let h = homed s' l' j v e in
      row-left s s' l' names_kept j v e (same_parent j) (parents-lone j) (ap (λ ms. slice_index_or ms j None) g.members) (same-id s.charges s'.charges g.homes v.home h.0 h.1)

  others_kept : (j : ℕ) → j ≢ key → row_with s' j ≡ row_with s j
  others_kept j differs = go (task_at s'.tree j) refl
    where
      go : (o : Option Task) → task_at s'.tree j ≡ o → row_with s' j ≡ row_with s j
      go None e = ap (option_map (row_of s' j)) e ∙ sym (ap (option_map (row_of s j)) (sym (others j differs) ∙ e))
      go (Some v) e = ap (option_map (row_of s' j)) e ∙ ap Some (row_kept j v e) ∙ sym (ap (option_map (row_of s j)) (sym (others j differs) ∙ e))

  abbrev its : Name → Bool
  its name = same_name name (name_at s.numbering key)

  its_is : (k : ℕ) (v : Task) → task_at s.tree k ≡ Some v → same_name (name_at s.numbering k) (name_at s.numbering key) ≡ (k == key)
  its_is k v e = same-name s l k key (ap is_some (named s l k v e).1) (ap is_some (named s l key was at).1)

  -- the model's state: its row is changed, and its threads are gone
  pub lone : (h : Row → Row) → h (row_of s key was) ≡ row_of s key now → sweep (without_threads (name_at s.numbering key) (with_row (full_state s) (name_at s.numbering key) h)) ≡ full_state s'
  unfolding with_row
  lone h changes =
      swept-full s.numbering l.numbering s' l' i' g.numbers (without_threads (name_at s.numbering key) (record (full_state s) { rows = map (on_row (name_at s.numbering key) h) (state_of s).rows }))
      (sym (rows-on s s' l l' g.numbers.bound (λ j v e. let u = named s' l' j v e in roots j u.0 u.1) key was h at
      (ap (option_map (row_of s' key)) here ∙ ap Some (row_kept key now here ∙ sym changes)) others_kept))
      (sym (threads-left s s' l l' i i' w.processes processes-lone g.numbers.bound names_kept roots g.homes (λ p. p == key) g.threads its (λ x. its x.process) its_is (λ k x e. refl)))
      (sym (marks-left s s' l l' i i' w.processes processes-lone g.numbers.bound names_kept roots g.homes (λ p. p == key) g.threads its (λ x. its x.process) its_is (λ k x e. refl)))
      refl (sym g.homes.controls) (sym g.numbers.bound)
