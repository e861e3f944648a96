-- What the leave of a first thread makes of the state with threads.
use Rattle.std.proofs.Common.{◌≡◌, ◌≢◌, inl, inr, ℕ, ◌<◌, ◌+◌, ◌-◌, Bool, true, false, Option, Some, None, if◌then◌else◌, refl, sym, ap, subst, ◌∙◌, arith, option_map, option_and_then}
use Rattle.std.specs.Prelude.{slice_set, length}
use Rattle.std.specs.Option.{option_map_or}
use Rattle.std.proofs.lemmas.Bool.{cases_eq}
use Rattle.std.proofs.lemmas.List.{get_or-set_same, get_or-set_other}
use Rattle.pid_types.specs.declared.plain.Name.{Name}
use Rattle.pid_types.specs.Names.{root_number}
use Rattle.pid_types.specs.Outcome.{sweep}
use Rattle.pid_types.specs.Fork.{insert_by}
use Rattle.pid_types.specs.Leave.{without_first}
use Rattle.pid_numbers.specs.Numbering.{number_of}
use Rattle.pids_charge.specs.Charges.{Home, home_at, home_id}
use Rattle.process_threads.specs.declared.Thread.{Thread}
use Rattle.process_threads.specs.Threads.{ThreadsByKey, thread_with, left_at}
use Rattle.task_tree.specs.declared.Task.{Task}
use Rattle.task_tree.specs.Tree.{task_at, has_live}
use Rattle.task_table.specs.Store.{Store, ChangesThreads, EndsCharge, IsLess, IsThreaded}
use Rattle.task_table.specs.View.{name_at, key_numbered, row_of, row_with, row_numbered, state_of}
use Rattle.task_table.specs.Lawful.{IsLawful}
use Rattle.task_table.specs.Whole.{HasParents}
use Rattle.task_table.proofs.Collects.{collect-same, collect-insert}
use Rattle.task_table.proofs.Keys.{key-of, key-some}
use Rattle.task_table.proofs.LookUps.{named, root-number}
use Rattle.task_table.proofs.Changed.{IsLess-same}
use Rattle.thread_view.specs.Full.{thread_row_of, thread_row_with, thread_row_numbered, mark_with, mark_numbered, full_state}
use Rattle.thread_view.specs.Calling.{HasProcesses}
use Rattle.thread_view.proofs.Threads.{marked-named, root-of}
use Rattle.thread_view.proofs.Named.{swept-full}

-- the first thread of the process with the key k has left
module _ (s s' : Store) (l : IsLawful s) (l' : IsLawful s') (w' : IsThreaded s'.numbering s'.threads) (p : HasProcesses s) (kin : HasParents s)
    (k : ℕ) (task : Task) (at : task_at s.tree k ≡ Some task) (stays : left_at s.threads k ≡ false) (room : k < length s.threads.left)
    (threads : s'.threads ≡ record s.threads { left = slice_set s.threads.left k true }) (home : EndsCharge s.charges s'.charges task.home) (rest : ChangesThreads s s') where
  -- each control group has the id that it had
  kept_id : (c : ℕ) → home_id s'.charges c ≡ home_id s.charges c
  kept_id c = elim (cases_eq c task.home) [
    | inl same ↦ ap (home_id s'.charges) same ∙ ap (λ o. option_map_or (λ h. h.id) o 0) home.here ∙ one (home_at s.charges task.home) ∙ sym (ap (home_id s.charges) same)
    | inr differs ↦ ap (λ o. option_map_or (λ h. h.id) o 0) (home.others c differs)
  ]
    where
      one : (o : Option Home) → option_map_or (λ h. h.id) (option_map (λ (h : Home). record h { live = h.live - 1; zombies = h.zombies + 1 }) o) 0 ≡ option_map_or (λ h. h.id) o 0
      one None = refl
      one (Some h) = refl

  numbering : s'.numbering ≡ s.numbering
  numbering = ap (λ x. x.numbering) rest

  abbrev after : Store
  after = record s { charges = s'.charges; threads = s'.threads }

  -- tasks and other threads have the rows that they had
  rows_kept : (state_of after).rows ≡ (state_of s).rows
  rows_kept = collect-same (row_numbered s 0) (row_numbered after 0) 0 s.numbering.pid_max (λ n _. each (key_numbered s.numbering 0 n))
    where
      row : (j : ℕ) (o : Option Task) → option_map (row_of after j) o ≡ option_map (row_of s j) o
      row j None = refl
      row j (Some v) = λ i. Some (record (row_of s j v) { home = kept_id v.home i })

      each : (o : Option ℕ) → option_and_then (row_with after) o ≡ option_and_then (row_with s) o
      each None = refl
      each (Some j) = row j (task_at s.tree j)

  threads_kept : (full_state after).threads ≡ (full_state s).threads
  threads_kept = collect-same (thread_row_numbered s) (thread_row_numbered after) 0 s.numbering.pid_max (λ n _. each (key_numbered s.numbering 0 n))
    where
      row : (j : ℕ) (o : Option Thread) → option_map (thread_row_of after j) o ≡ option_map (thread_row_of s j) o
      row j None = refl
      row j (Some v) = λ i. Some (record (thread_row_of s j v) { home = kept_id v.home i })

      each : (o : Option ℕ) → option_and_then (thread_row_with after) o ≡ option_and_then (thread_row_with s) o
      each None = refl
      each (Some j) = ap (λ (x : ThreadsByKey). option_map (thread_row_of after j) (thread_with x j)) threads ∙ row j (thread_with s.threads j)

  -- the mark is inserted among the others
  abbrev number : ℕ
  number = root_number (name_at s.numbering k)

  root : number_of s.numbering k 0 ≡ Some number
  root = let u = named s l k task at in root-number s l k u.0 u.1

  here : left_at s'.threads k ≡ true
  here = ap (λ (x : ThreadsByKey). left_at x k) threads ∙ get_or-set_same s.threads.left k true false room

  others : (j : ℕ) → j ≢ k → left_at s'.threads j ≡ left_at s.threads j
  others j differs = ap (λ (x : ThreadsByKey). left_at x j) threads ∙ get_or-set_other s.threads.left k j true false differs

  mark_keyed : (n : ℕ) (x : Name) → mark_numbered s n ≡ Some x → root_number x ≡ n
  mark_keyed n x e = go (key_numbered s.numbering 0 n) refl e
    where
      go : (o : Option ℕ) → key_numbered s.numbering 0 n ≡ o → option_and_then (mark_with s) o ≡ Some x → root_number x ≡ n
      go None is e = absurd (cc)
      go (Some j) is e = mark (left_at s.threads j) refl e
        where
          mark : (b : Bool) → left_at s.threads j ≡ b → (if b then Some (name_at s.numbering j) else None) ≡ Some x → root_number x ≡ n
          mark false m e = absurd (cc)
          mark true m e =
              let u = marked-named s l j m in
              ap root_number (ap (λ o. option_map_or (λ y. y) o x) (sym e)) ∙ root-of s l j n u.0 u.1 (key-some s.numbering l.numbering 0 n j is)

  marks_inserted : (full_state after).left ≡ insert_by root_number (name_at s.numbering k) (full_state s).left
  marks_inserted =
      let high = (l.numbering.range k 0 number root).1 in
      collect-insert root_number (mark_numbered s) mark_keyed (name_at s.numbering k) (mark_numbered after) number 0 s.numbering.pid_max refl
      (ap (option_and_then (mark_with s)) (key-of s.numbering l.numbering 0 number k root) ∙ ap (λ b. if b then Some (name_at s.numbering k) else None) stays)
      (ap (option_and_then (mark_with after)) (key-of s.numbering l.numbering 0 number k root) ∙ ap (λ b. if b then Some (name_at s.numbering k) else None) here)
      (λ i away. each i away (key_numbered s.numbering 0 i) refl)
      (omega arith) (omega (arith, high))
    where
      each : (i : ℕ) → i ≢ number → (o : Option ℕ) → key_numbered s.numbering 0 i ≡ o → option_and_then (mark_with after) o ≡ option_and_then (mark_with s) o
      each i away None e = refl
      each i away (Some j) e =
          let differs : j ≢ k = (λ same.
          let z : Some i ≡ Some number = sym (key-some s.numbering l.numbering 0 i j e) ∙ ap (λ q. number_of s.numbering q 0) same ∙ root in
          away (ap (λ o. option_map_or (λ m. m) o i) z)) in
          ap (λ b. if b then Some (name_at s.numbering j) else None) (others j differs)

  -- the state with the mark
  pub first-left : full_state s' ≡ sweep (without_first (full_state s) (row_of s k task))
  unfolding without_first
  first-left =
      let same : full_state s' ≡ full_state after = ap full_state rest in
      sym (swept-full s.numbering l.numbering s' l' w' (subst (IsLess s.numbering) (sym numbering) (IsLess-same s.numbering l.numbering))
      (record (full_state s) { left = insert_by root_number (name_at s.numbering k) (full_state s).left })
      (sym rows_kept ∙ sym (ap (λ x. x.rows) same)) (sym threads_kept ∙ sym (ap (λ x. x.threads) same)) (sym marks_inserted ∙ sym (ap (λ x. x.left) same))
      refl (sym home.controls) (sym (ap (λ b. b.pid_max) numbering)))

  pub parents-first : HasParents s'
  parents-first = subst HasParents (sym rest) kin

  pub processes-first : HasProcesses s'
  processes-first j v e = ap (λ x. has_live (task_at x.tree v.process)) rest ∙ p j v (sym (ap (λ (x : ThreadsByKey). thread_with x j) threads) ∙ e)
