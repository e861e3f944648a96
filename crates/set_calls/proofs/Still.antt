-- What the state with threads becomes when no thread changes, and no number.
use Rattle.std.proofs.Common.{◌≡◌, ◌≢◌, inl, inr, ℕ, true, map, Some, refl, sym, ap, subst, ◌∙◌, option_map}
use Rattle.std.proofs.lemmas.Bool.{cases_eq}
use Rattle.pid_types.specs.declared.plain.Row.{Row}
use Rattle.pid_types.specs.State.{State}
use Rattle.pid_types.specs.Names.{with_row, on_row}
use Rattle.pid_types.specs.Outcome.{sweep}
use Rattle.pid_numbers.specs.Numbering.{Numbering, number_of}
use Rattle.process_threads.specs.Threads.{thread_with}
use Rattle.task_tree.specs.declared.Task.{Task}
use Rattle.task_tree.specs.Tree.{task_at, has_live, lives}
use Rattle.task_table.specs.Store.{Store, IsLess, IsThreaded}
use Rattle.task_table.specs.View.{name_at, row_of, row_with, spaces_of, state_of}
use Rattle.task_table.specs.Lawful.{IsLawful}
use Rattle.task_table.proofs.Changed.{IsLess-same, IsRetasked, KeepsNames, row-same, task-others, task-set}
use Rattle.task_table.proofs.Rows.{rows-on}
use Rattle.thread_view.specs.Calling.{HasProcesses}
use Rattle.thread_view.specs.Full.{full_state}
use Rattle.thread_view.proofs.Named.{swept-full}
use Rattle.thread_ends.specs.Ending.{KeepsHomes}
use Rattle.thread_ends.proofs.Ended.{KeepsRoots, threads-same, marks-same}

module _ (s s' : Store) (l : IsLawful s) (l' : IsLawful s') (i : IsThreaded s.numbering s.threads) (i' : IsThreaded s'.numbering s'.threads) (p : HasProcesses s) (p' : HasProcesses s')
    (numbering : s'.numbering ≡ s.numbering) (threads : s'.threads ≡ s.threads) (homes : KeepsHomes s.charges s'.charges) where
  bound : s'.numbering.pid_max ≡ s.numbering.pid_max
  bound = ap (λ (b : Numbering). b.pid_max) numbering

  names : KeepsNames s.numbering s'.numbering
  names k v e = ap (λ b. name_at b k) numbering

  roots : KeepsRoots s s'
  roots k v e = ap (λ b. number_of b k 0) numbering

  -- a state with the new rows and control groups, and else as it was, is swept to the new one
  pub swept-still : (state : State) → state.rows ≡ (state_of s').rows → state.threads ≡ (full_state s).threads → state.left ≡ (full_state s).left → state.spaces ≡ spaces_of s.numbering
      → state.controls ≡ s'.charges.controls → state.pid_max ≡ s.numbering.pid_max → sweep state ≡ full_state s'
  swept-still state rows beside left spaces controls most =
      swept-full s.numbering l.numbering s' l' i' (subst (IsLess s.numbering) (sym numbering) (IsLess-same s.numbering l.numbering)) state rows
      (beside ∙ sym (threads-same s s' l l' i i' p p' bound names roots homes threads)) (left ∙ sym (marks-same s s' l l' i i' p p' bound names roots homes threads))
      spaces controls (most ∙ sym bound)

-- one task became another one in its place, and lives as before
module _ (s s' : Store) (l : IsLawful s) (l' : IsLawful s') (i : IsThreaded s.numbering s.threads) (i' : IsThreaded s'.numbering s'.threads) (p : HasProcesses s)
    (k : ℕ) (t t' : Task) (at : task_at s.tree k ≡ Some t) (r : IsRetasked s s' k t') (alike : lives t' ≡ lives t) (threads : s'.threads ≡ s.threads) (homes : KeepsHomes s.charges s'.charges) where
  -- the processes of threads live as before
  pub processes-retasked : HasProcesses s'
  processes-retasked j v e = elim (cases_eq v.process k) [
    | inl same ↦ ap (λ q. has_live (task_at s'.tree q)) same ∙ ap has_live (task-set s s' l l' k t t' at r) ∙ alike ∙ sym (ap (λ q. has_live (task_at s.tree q)) same ∙ ap has_live at) ∙ was
    | inr differs ↦ ap has_live (task-others s s' l l' k t t' at r v.process differs) ∙ was
  ]
    where
      was : has_live (task_at s.tree v.process) ≡ true
      was = p j v (ap (λ x. thread_with x j) (sym threads) ∙ e)

  others_same : (j : ℕ) → j ≢ k → row_with s' j ≡ row_with s j
  others_same j m = ap (option_map (row_of s' j)) (task-others s s' l l' k t t' at r j m) ∙ ap (λ (f : Task → Row). option_map f (task_at s.tree j)) (λ n v. row-same s s' l l' k t t' at r j v n)

  -- the row of the process is changed, and nothing else
  pub retasked-still : (h : Row → Row) → h (row_of s k t) ≡ row_of s k t' → sweep (with_row (full_state s) (name_at s.numbering k) h) ≡ full_state s'
  unfolding with_row
  retasked-still h changes =
      swept-still s s' l l' i i' p processes-retasked r.numbering threads homes (record (full_state s) { rows = map (on_row (name_at s.numbering k) h) (state_of s).rows })
      (sym (rows-on s s' l l' (ap (λ (b : Numbering). b.pid_max) r.numbering) (λ j v e. ap (λ b. number_of b j 0) r.numbering) k t h at
      (ap (option_map (row_of s' k)) (task-set s s' l l' k t t' at r) ∙ ap Some (row-same s s' l l' k t t' at r k t' ∙ sym changes)) others_same))
      refl refl refl (sym r.controls) refl
