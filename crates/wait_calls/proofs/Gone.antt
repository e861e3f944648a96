-- What is left in the model when a zombie without children is gone.
use Rattle.std.proofs.Common.{◌≡◌, ◌≢◌, ℕ, ◌-◌, Bool, true, false, not, filter, get_or, Option, Some, None, is_some, if◌then◌else◌, refl, sym, ap, ◌∙◌, option_map}
use Rattle.std.proofs.lemmas.Bool.{eqb-true}
use Rattle.std.proofs.lemmas.List.{get_or-set_other}
use Rattle.pids_charge.specs.Charges.{Home}
use Rattle.process_threads.specs.Threads.{left_at, thread_with}
use Rattle.pid_types.specs.declared.plain.Row.{Row}
use Rattle.pid_types.specs.Names.{same_name, is_live}
use Rattle.pid_types.specs.Outcome.{sweep}
use Rattle.pid_types.specs.Wait.{without_row}
use Rattle.model_laws.proofs.Names.{same_name-refl}
use Rattle.task_tree.specs.declared.Task.{Task}
use Rattle.task_tree.specs.Tree.{task_at, parent_of, has_live, lives}
use Rattle.task_table.specs.Store.{Store, IsThreaded, home_without}
use Rattle.task_table.proofs.Less.{number-less}
use Rattle.task_table.specs.View.{name_at, row_of, state_of}
use Rattle.task_table.specs.Lawful.{IsLawful}
use Rattle.task_table.specs.Whole.{HasParents}
use Rattle.task_table.proofs.LookUps.{named, same-name, in-rows, rows-in}
use Rattle.task_table.proofs.Rows.{rows-without}
use Rattle.task_table.proofs.Changed.{KeepsNames}
use Rattle.task_table.proofs.Sweeps.{name-less}
use Rattle.task_table.proofs.Gone as left
use Rattle.task_table.proofs.Gone.{IsGone}
use Rattle.thread_view.specs.Calling.{HasProcesses, IsWholeWithThreads}
use Rattle.thread_view.specs.Full.{full_state}
use Rattle.thread_view.proofs.Named.{swept-full}
use Rattle.thread_ends.specs.Ending.{KeepsHomes}
use Rattle.thread_ends.proofs.Ended.{KeepsRoots, threads-same, marks-same}
use Rattle.thread_ends.proofs.KeptHomes.{one-keeps}

-- a zombie's first thread has no mark
pub ended-stays : (s : Store) → IsLawful s → (k : ℕ) (t : Task) → task_at s.tree k ≡ Some t → lives t ≡ false → left_at s.threads k ≡ false
ended-stays s l k t at ended = go (left_at s.threads k) refl
  where
    go : (b : Bool) → left_at s.threads k ≡ b → left_at s.threads k ≡ false
    go false e = e
    go true e = absurd (let z : true ≡ false = sym (l.agree.marks k e) ∙ ap has_live at ∙ ended in cc)

-- in a sound state no zombie has children
pub childless : (s : Store) → IsLawful s → IsWholeWithThreads s → (k : ℕ) (t : Task) → task_at s.tree k ≡ Some t → lives t ≡ false → (j : ℕ) → parent_of s.tree j ≢ Some k
childless s l w k t at ended j child = go (task_at s.tree j) refl
  where
    go : (o : Option Task) → task_at s.tree j ≡ o → ⊥
    go None e = absurd (let z : None ≡ Some k = sym (l.absent j e) ∙ child in cc)
    go (Some v) e =
        let good = (w.sound.coherent.parents (row_of s j v) (rows-in s l j v e)).good (name_at s.numbering k) (ap (option_map (name_at s.numbering)) child) in
        let r = good.lives in
        let f = in-rows s l r.0 r.1 in
        let u = named s l f.0 f.1 f.2 in
        let x = named s l k t at in
        let names : same_name (name_at s.numbering f.0) (name_at s.numbering k) ≡ true = same_name-refl (name_at s.numbering f.0) (name_at s.numbering k) (sym (ap (λ (y : Row). y.name) f.3) ∙ r.2) in
        let same : f.0 ≡ k = eqb-true f.0 k (sym (same-name s l f.0 k (ap is_some u.1) (ap is_some x.1)) ∙ names) in
        let task : Some f.1 ≡ Some t = sym f.2 ∙ ap (task_at s.tree) same ∙ at in
        let is : f.1 ≡ t = cc in
        absurd (let z : false ≡ true = sym ended ∙ ap lives (sym is) ∙ sym (ap is_live f.3) ∙ r.3 in cc)

module _ (s s' : Store) (l : IsLawful s) (l' : IsLawful s') (w : IsWholeWithThreads s) (k : ℕ) (t : Task) (at : task_at s.tree k ≡ Some t) (ended : lives t ≡ false) (g : IsGone s s' k t) where
  alone : (j : ℕ) → parent_of s.tree j ≢ Some k
  alone = childless s l w k t at ended

  pub parents-left : HasParents s'
  parents-left = left.parents-left s s' l l' w.parents k t at alone g

  names_kept : KeepsNames s.numbering s'.numbering
  names_kept = name-less s.numbering s'.numbering l.numbering g.numbers

  roots : KeepsRoots s s'
  roots j v e = number-less s.numbering l.numbering.full l.numbering.own s'.numbering g.numbers j v e 0

  -- no thread was its
  pub processes-left : s'.threads ≡ s.threads → HasProcesses s'
  processes-left same j v e = go (task_at s'.tree v.process) refl
    where
      was : has_live (task_at s.tree v.process) ≡ true
      was = w.processes j v (ap (λ x. thread_with x j) (sym same) ∙ e)

      differs : v.process ≢ k
      differs is = absurd (let z : true ≡ false = sym was ∙ ap (λ p. has_live (task_at s.tree p)) is ∙ ap has_live at ∙ ended in cc)

      kept : task_at s'.tree v.process ≡ task_at s.tree v.process
      kept = ap (λ ts. get_or ts v.process None) g.tasks ∙ get_or-set_other s.tree.tasks k v.process None None differs

      go : (o : Option Task) → task_at s'.tree v.process ≡ o → has_live (task_at s'.tree v.process) ≡ true
      go o is = ap has_live kept ∙ was

  homes : KeepsHomes s.charges s'.charges
  homes = one-keeps s.charges s'.charges t.home (home_without t) (alike (lives t)) g.home
    where
      alike : (b : Bool) (h : Home) → ((if b then record h { live = h.live - 1 } else record h { zombies = h.zombies - 1 }).id ≡ h.id)
          × ((if b then record h { live = h.live - 1 } else record h { zombies = h.zombies - 1 }).stands ≡ h.stands)
      alike true h = (refl, refl)
      alike false h = (refl, refl)

  -- the model's state without its row
  pub reaped : IsThreaded s.numbering s.threads → IsThreaded s'.numbering s'.threads → s'.threads ≡ s.threads → sweep (without_row (full_state s) (row_of s k t)) ≡ full_state s'
  unfolding without_row
  reaped i i' same =
      swept-full s.numbering l.numbering s' l' i' g.numbers (record (full_state s) { rows = filter (λ row. not (same_name row.name (name_at s.numbering k))) (state_of s).rows })
      (sym (rows-without s s' l l' g.numbers.bound (λ j v e. let u = named s' l' j v e in roots j u.0 u.1) k t at (left.gone s s' l l' w.parents k t at alone g) (left.row_left s s' l l' w.parents k t at alone g)))
      (sym (threads-same s s' l l' i i' w.processes (processes-left same) g.numbers.bound names_kept roots homes same))
      (sym (marks-same s s' l l' i i' w.processes (processes-left same) g.numbers.bound names_kept roots homes same))
      refl (sym g.home.controls) (sym g.numbers.bound)
