-- What a new thread makes of the state with threads, and more room for threads of it.
use Rattle.std.proofs.Common.{◌≡◌, ◌≢◌, ◌⊎◌, inl, inr, ℕ, Bool, true, false, List, Option, Some, None, IsSome, refl, sym, ap, subst, ◌∙◌, arith, option_map, option_and_then, if◌then◌else◌}
use Rattle.std.proofs.lemmas.Bool.{cases_eq}
use Rattle.pid_types.proofs.General.{held}
use Rattle.pid_types.specs.declared.plain.Thread.{Thread as ThreadRow}
use Rattle.pid_types.specs.Names.{root_number}
use Rattle.pid_types.specs.Fork.{insert_by}
use Rattle.pid_numbers.specs.Numbering.{Identifier, identifier_at, number_of, thread_identifier}
use Rattle.process_threads.specs.declared.Thread.{Thread}
use Rattle.process_threads.specs.Threads.{thread_with, left_at}
use Rattle.task_tree.specs.declared.Task.{Task}
use Rattle.task_tree.specs.Tree.{task_at, parent_of, has_live}
use Rattle.groups_sessions.specs.Membership.{membership_at}
use Rattle.task_table.specs.Store.{Store, BeginsThread, IsSameWithRoom, IsThreaded, bare}
use Rattle.task_table.specs.Collect.{collect}
use Rattle.task_table.specs.View.{name_at, key_numbered, row_of, row_with, row_numbered, state_of}
use Rattle.task_table.specs.Lawful.{IsLawful}
use Rattle.task_table.specs.Whole.{HasParents}
use Rattle.task_table.proofs.Collects.{collect-same, collect-insert}
use Rattle.task_table.proofs.LookUps.{named, group-named, session-named, root-number}
use Rattle.task_table.proofs.InUse.{member}
use Rattle.task_table.proofs.Rows.{row-ext}
use Rattle.task_table.proofs.Drawn.{DrawsOne, KeepsNamespaces, name-kept, key-free, key-here, found-kept, listed-kept, some_of}
use Rattle.task_table.proofs.Newborn.{group_in, session_in, ids-kept}
use Rattle.thread_view.specs.Full.{thread_row_of, thread_row_with, thread_row_numbered, mark_with, mark_numbered, full_state}
use Rattle.thread_view.specs.Calling.{HasProcesses}
use Rattle.thread_view.proofs.Threads.{thread-named, thread-keyed, marked-named, process-there}

module _ (s s' : Store) (l : IsLawful s) (l' : IsLawful s') (w : IsThreaded s.numbering s.threads) (p : HasProcesses s) (kin : HasParents s) (key : ℕ) (thread : Thread) (space : ℕ) (numbers : List ℕ)
    (begun : BeginsThread s s' key thread (thread_identifier space numbers)) (keeps : KeepsNamespaces s.numbering s'.numbering) where
  drew : DrawsOne s.numbering s'.numbering key
  drew = record { before = l.numbering; fresh = begun.fresh.1; names = λ i differs. ap (option_map bare) (begun.names i differs); keeps = keeps }

  pub kept : (k : ℕ) (u : Identifier) → identifier_at s.numbering k ≡ Some u → name_at s'.numbering k ≡ name_at s.numbering k
  kept = name-kept drew

  abbrev number : ℕ
  number = root_number (name_at s'.numbering key)

  root : number_of s'.numbering key 0 ≡ Some number
  root = root-number s' l' key (thread_identifier space numbers) begun.named

  no_identifier : {X : Type 0} (u : Identifier) → identifier_at s.numbering key ≡ Some u → X
  no_identifier u e = absurd (let z : None ≡ Some u = sym begun.fresh.1 ∙ e in cc)

  -- tasks have the rows that they had
  row_kept : (k : ℕ) (t : Task) → task_at s.tree k ≡ Some t → row_of s' k t ≡ row_of s k t
  row_kept k t e =
      let u = named s l k t e in
      let m = member s l k t e in
      let g = group-named s l k m.0 m.1 in
      let z = session-named s l k m.0 m.1 in
      row-ext (row_of s' k t) (row_of s k t) (kept k u.0 u.1)
      (ap (λ x. option_map (name_at s'.numbering) (parent_of x k)) begun.tree ∙ parent (parent_of s.tree k) (λ q is. kin k q is))
      (ap (λ x. group_in s'.numbering (membership_at x k)) begun.members ∙ ap (group_in s'.numbering) m.1 ∙ kept m.0.group g.0 g.1 ∙ sym (ap (group_in s.numbering) m.1))
      (ap (λ x. session_in s'.numbering (membership_at x k)) begun.members ∙ ap (session_in s'.numbering) m.1 ∙ kept m.0.session z.0 z.1 ∙ sym (ap (session_in s.numbering) m.1))
      refl refl (ids-kept s.charges s'.charges thread.home begun.home t.home) refl refl
    where
      parent : (o : Option ℕ) → ((q : ℕ) → o ≡ Some q → IsSome (task_at s.tree q)) → option_map (name_at s'.numbering) o ≡ option_map (name_at s.numbering) o
      parent None h = refl
      parent (Some q) h = let t = held (task_at s.tree q) (h q refl) in let u = named s l q t.0 t.1 in ap Some (kept q u.0 u.1)

  row_with_kept : (k : ℕ) → row_with s' k ≡ row_with s k
  row_with_kept k = ap (λ x. option_map (row_of s' k) (task_at x k)) begun.tree ∙ go (task_at s.tree k) refl
    where
      go : (o : Option Task) → task_at s.tree k ≡ o → option_map (row_of s' k) (task_at s.tree k) ≡ option_map (row_of s k) (task_at s.tree k)
      go None e = ap (option_map (row_of s' k)) e ∙ sym (ap (option_map (row_of s k)) e)
      go (Some t) e = ap (option_map (row_of s' k)) e ∙ ap Some (row_kept k t e) ∙ sym (ap (option_map (row_of s k)) e)

  pub rows-kept : (state_of s').rows ≡ (state_of s).rows
  rows-kept =
      ap (collect (row_numbered s' 0) 0) begun.bound
      ∙ listed-kept drew l'.numbering number root (row_with s) (row_with s') (λ k _. row_with_kept k) (row_with_kept key ∙ none (task_at s.tree key) refl) s.numbering.pid_max
    where
      none : (o : Option Task) → task_at s.tree key ≡ o → row_with s key ≡ None
      none None e = ap (option_map (row_of s key)) e
      none (Some t) e = let u = named s l key t e in no_identifier u.0 u.1

  -- threads have the rows that they had, and the new one's is inserted
  thread_kept : (k : ℕ) (t : Thread) → thread_with s.threads k ≡ Some t → thread_row_of s' k t ≡ thread_row_of s k t
  thread_kept k t e =
      let u = thread-named s l w k t e in
      let owner = process-there s l p k t e in
      let v = named s l t.process owner.0 owner.1 in
      let name = kept k u.0 u.1 in
      let process = kept t.process v.0 v.1 in
      let home = ids-kept s.charges s'.charges thread.home begun.home t.home in
      λ i. record { name = name i; process = process i; home = home i; children_space = t.children_space }

  thread_row_kept : (k : ℕ) → k ≢ key → thread_row_with s' k ≡ thread_row_with s k
  thread_row_kept k differs = ap (option_map (thread_row_of s' k)) (begun.threads k differs) ∙ go (thread_with s.threads k) refl
    where
      go : (o : Option Thread) → thread_with s.threads k ≡ o → option_map (thread_row_of s' k) (thread_with s.threads k) ≡ option_map (thread_row_of s k) (thread_with s.threads k)
      go None e = ap (option_map (thread_row_of s' k)) e ∙ sym (ap (option_map (thread_row_of s k)) e)
      go (Some t) e = ap (option_map (thread_row_of s' k)) e ∙ ap Some (thread_kept k t e) ∙ sym (ap (option_map (thread_row_of s k)) e)

  pub threads-inserted : (full_state s').threads ≡ insert_by (λ (x : ThreadRow). root_number x.name) (thread_row_of s' key thread) (full_state s).threads
  threads-inserted =
      let high = (l'.numbering.range key 0 number root).1 in
      let bound = begun.bound in
      ap (collect (thread_row_numbered s') 0) begun.bound
      ∙ collect-insert (λ (x : ThreadRow). root_number x.name) (thread_row_numbered s) (thread-keyed s l w) (thread_row_of s' key thread) (thread_row_numbered s') number 0 s.numbering.pid_max refl
      (ap (option_and_then (thread_row_with s)) (key-free drew l'.numbering number root))
      (ap (option_and_then (thread_row_with s')) (key-here drew l'.numbering number root) ∙ ap (option_map (thread_row_of s' key)) begun.begun)
      (λ j away. found-kept drew l'.numbering number root (thread_row_with s) (thread_row_with s') thread_row_kept j away)
      (omega arith) (omega (arith, high, bound))

  -- who has left is who had
  mark_kept : (k : ℕ) → mark_with s' k ≡ mark_with s k
  mark_kept k = ap (λ b. if b then Some (name_at s'.numbering k) else None) (begun.left k) ∙ go (left_at s.threads k) refl
    where
      go : (b : Bool) → left_at s.threads k ≡ b → (if left_at s.threads k then Some (name_at s'.numbering k) else None) ≡ (if left_at s.threads k then Some (name_at s.numbering k) else None)
      go true e = let u = marked-named s l k e in ap (λ name. if left_at s.threads k then Some name else None) (kept k u.0 u.1)
      go false e = ap (λ b. if b then Some (name_at s'.numbering k) else None) e ∙ sym (ap (λ b. if b then Some (name_at s.numbering k) else None) e)

  pub left-kept : (full_state s').left ≡ (full_state s).left
  left-kept =
      ap (collect (mark_numbered s') 0) begun.bound
      ∙ listed-kept drew l'.numbering number root (mark_with s) (mark_with s') (λ k _. mark_kept k) (mark_kept key ∙ none (left_at s.threads key) refl) s.numbering.pid_max
    where
      none : (b : Bool) → left_at s.threads key ≡ b → mark_with s key ≡ None
      none false e = ap (λ b. if b then Some (name_at s.numbering key) else None) e
      none true e = let u = marked-named s l key e in no_identifier u.0 u.1

  -- parents and processes are tasks as before
  pub parents-kept : HasParents s'
  parents-kept = subst (λ x. (k q : ℕ) → parent_of x k ≡ Some q → IsSome (task_at x q)) (sym begun.tree) kin

  pub processes-kept : has_live (task_at s.tree thread.process) ≡ true → HasProcesses s'
  processes-kept live k t e = ap (λ x. has_live (task_at x t.process)) begun.tree ∙ go (cases_eq k key)
    where
      go : (k ≡ key) ⊎ (k ≢ key) → has_live (task_at s.tree t.process) ≡ true
      go (inl same) =
          let is : thread ≡ t = some_of thread t (sym begun.begun ∙ ap (thread_with s'.threads) (sym same) ∙ e) in
          ap (λ (x : Thread). has_live (task_at s.tree x.process)) (sym is) ∙ live
      go (inr differs) = p k t (sym (begun.threads k differs) ∙ e)

-- more room for threads changes nothing
pub same-full : (s s' : Store) → IsSameWithRoom s s' → full_state s' ≡ full_state s
same-full s s' same =
    let there : full_state s' ≡ full_state (record s { threads = s'.threads }) = ap full_state same.same in
    let threads : collect (thread_row_numbered (record s { threads = s'.threads })) 0 s.numbering.pid_max ≡ collect (thread_row_numbered s) 0 s.numbering.pid_max =
    collect-same (thread_row_numbered s) (thread_row_numbered (record s { threads = s'.threads })) 0 s.numbering.pid_max (λ n _. thread (key_numbered s.numbering 0 n)) in
    let left : collect (mark_numbered (record s { threads = s'.threads })) 0 s.numbering.pid_max ≡ collect (mark_numbered s) 0 s.numbering.pid_max =
    collect-same (mark_numbered s) (mark_numbered (record s { threads = s'.threads })) 0 s.numbering.pid_max (λ n _. mark (key_numbered s.numbering 0 n)) in
    there ∙ (λ i. record (state_of s) { threads = threads i; left = left i })
  where
    thread : (o : Option ℕ) → option_and_then (thread_row_with (record s { threads = s'.threads })) o ≡ option_and_then (thread_row_with s) o
    thread None = refl
    thread (Some k) = ap (option_map (thread_row_of s k)) (same.threads.threads k)

    mark : (o : Option ℕ) → option_and_then (mark_with (record s { threads = s'.threads })) o ≡ option_and_then (mark_with s) o
    mark None = refl
    mark (Some k) = ap (λ b. if b then Some (name_at s.numbering k) else None) (same.threads.left k)

pub same-parents : (s s' : Store) → IsSameWithRoom s s' → HasParents s → HasParents s'
same-parents s s' same kin = subst HasParents (sym same.same) kin

pub same-processes : (s s' : Store) → IsSameWithRoom s s' → HasProcesses s → HasProcesses s'
same-processes s s' same p k t e = ap (λ x. has_live (task_at x.tree t.process)) same.same ∙ p k t (sym (same.threads.threads k) ∙ e)
