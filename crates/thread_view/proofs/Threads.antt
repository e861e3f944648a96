-- The threads and the marks of a store in the model's state, by key and by number.
use Rattle.std.proofs.Common.{◌≡◌, ℕ, ◌<◌, Bool, true, false, Option, Some, None, is_some, refl, sym, ap, ◌∙◌, arith, option_map, option_and_then, if◌then◌else◌}
use Rattle.std.specs.Option.{option_map_or}
use Rattle.std.proofs.lemmas.Bool.{not-true}
use Rattle.pid_types.proofs.General.{nothing}
use Rattle.pid_types.specs.declared.call.Kind.TheVariants.{Task as AsTask}
use Rattle.pid_types.specs.declared.plain.Name.{Name}
use Rattle.pid_types.specs.declared.plain.Thread.{Thread as ThreadRow}
use Rattle.pid_types.specs.Membership.{IsIn}
use Rattle.pid_types.specs.Names.{root_number}
use Rattle.pid_numbers.specs.Numbering.{Identifier, identifier_at, is_thread, is_used, number_of}
use Rattle.process_threads.specs.declared.Thread.{Thread}
use Rattle.process_threads.specs.Threads.{thread_with, left_at}
use Rattle.pids_charge.specs.Charges.{live_at, stands}
use Rattle.task_tree.specs.declared.Task.{Task}
use Rattle.task_tree.specs.Tree.{task_at, has_live}
use Rattle.task_table.specs.Store.{Store, IsThreaded, one_if, uses_at}
use Rattle.task_table.specs.View.{name_at, key_numbered}
use Rattle.task_table.specs.Lawful.{IsLawful}
use Rattle.task_table.proofs.Collects.{collect-from, collect-in}
use Rattle.task_table.proofs.Keys.{key-of, key-some}
use Rattle.task_table.proofs.LookUps.{named, root-number, live-there}
use Rattle.task_table.proofs.Threaded.{used-as}
use Rattle.thread_view.specs.Full.{thread_row_of, thread_row_with, thread_row_numbered, mark_with, mark_numbered, full_state}
use Rattle.thread_view.specs.Calling.{HasProcesses}

module _ (s : Store) (l : IsLawful s) where
  -- two identifiers with one name are one
  pub same-key : (j k : ℕ) (u v : Identifier) → identifier_at s.numbering j ≡ Some u → identifier_at s.numbering k ≡ Some v → name_at s.numbering j ≡ name_at s.numbering k → j ≡ k
  same-key j k u v at_j at_k names =
      l.numbering.distinct j k 0 (root_number (name_at s.numbering j)) (root-number s l j u at_j) (root-number s l k v at_k ∙ ap (λ n. Some (root_number n)) (sym names))

  -- a number in the root namespace is the name's first
  pub rooted-as : (k n : ℕ) (u : Identifier) → identifier_at s.numbering k ≡ Some u → root_number (name_at s.numbering k) ≡ n → number_of s.numbering k 0 ≡ Some n
  rooted-as k n u at e = root-number s l k u at ∙ ap Some e

  pub root-of : (k n : ℕ) (u : Identifier) → identifier_at s.numbering k ≡ Some u → number_of s.numbering k 0 ≡ Some n → root_number (name_at s.numbering k) ≡ n
  root-of k n u at e = let z : Some (root_number (name_at s.numbering k)) ≡ Some n = sym (root-number s l k u at) ∙ e in ap (λ o. option_map_or (λ m. m) o n) z

  -- a control group with a live task stands
  pub stands-live : (home : ℕ) → 0 < live_at s.charges home → stands s.charges home ≡ true
  stands-live home some = go (stands s.charges home) refl
    where
      go : (b : Bool) → stands s.charges home ≡ b → stands s.charges home ≡ true
      go true is = is
      go false is = absurd (let none = l.ended home is in omega (arith, some, none))

  module _ (w : IsThreaded s.numbering s.threads) where
    -- a thread has an identifier, which nothing uses
    pub thread-named : (k : ℕ) (t : Thread) → thread_with s.threads k ≡ Some t → (u : Identifier) × (identifier_at s.numbering k ≡ Some u) × (is_used u ≡ false)
    thread-named k t e = go (identifier_at s.numbering k) refl (w.held k ∙ ap is_some e)
      where
        go : (o : Option Identifier) → identifier_at s.numbering k ≡ o → is_thread (identifier_at s.numbering k) ≡ true
            → (u : Identifier) × (identifier_at s.numbering k ≡ Some u) × (is_used u ≡ false)
        go None is h = absurd (let z : false ≡ true = sym (ap is_thread is) ∙ h in cc)
        go (Some u) is h = (u, is, not-true (is_used u) (sym (ap is_thread is) ∙ h))

    -- so no task is at its key
    pub no-task : (k : ℕ) (t : Thread) → thread_with s.threads k ≡ Some t → task_at s.tree k ≡ None
    no-task k t e = nothing (task_at s.tree k) (none (is_some (task_at s.tree k)) refl)
      where
        none : (b : Bool) → is_some (task_at s.tree k) ≡ b → is_some (task_at s.tree k) ≡ false
        none false is = is
        none true is =
            let u = thread-named k t e in
            let some : 0 < uses_at s.numbering AsTask k = (let y = l.agree.tasks k in let z = ap one_if is in omega (arith, y, z)) in
            absurd (let z : true ≡ false = sym (used-as s.numbering AsTask k some) ∙ ap (λ o. option_map_or is_used o false) u.1 ∙ u.2 in cc)

    -- and no thread is at a task's
    pub no-thread : (k : ℕ) (v : Task) → task_at s.tree k ≡ Some v → thread_with s.threads k ≡ None
    no-thread k v at = go (thread_with s.threads k) refl
      where
        go : (o : Option Thread) → thread_with s.threads k ≡ o → thread_with s.threads k ≡ None
        go None e = e
        go (Some t) e = absurd (let z = sym at ∙ no-task k t e in cc)

    -- the row of a thread
    thread-from : (n : ℕ) (x : ThreadRow) → thread_row_numbered s n ≡ Some x
        → (k : ℕ) × (t : Thread) × (thread_with s.threads k ≡ Some t) × (x ≡ thread_row_of s k t) × (number_of s.numbering k 0 ≡ Some n)
    thread-from n x e = go (key_numbered s.numbering 0 n) refl e
      where
        go : (o : Option ℕ) → key_numbered s.numbering 0 n ≡ o → option_and_then (thread_row_with s) o ≡ Some x
            → (k : ℕ) × (t : Thread) × (thread_with s.threads k ≡ Some t) × (x ≡ thread_row_of s k t) × (number_of s.numbering k 0 ≡ Some n)
        go None is e = absurd (cc)
        go (Some k) is e = thread (thread_with s.threads k) refl e
          where
            thread : (o : Option Thread) → thread_with s.threads k ≡ o → option_map (thread_row_of s k) o ≡ Some x
                → (k : ℕ) × (t : Thread) × (thread_with s.threads k ≡ Some t) × (x ≡ thread_row_of s k t) × (number_of s.numbering k 0 ≡ Some n)
            thread None at e = absurd (cc)
            thread (Some t) at e = (k, t, at, ap (λ o. option_map_or (λ y. y) o x) (sym e), key-some s.numbering l.numbering 0 n k is)

    -- which stands by its number
    pub thread-keyed : (n : ℕ) (x : ThreadRow) → thread_row_numbered s n ≡ Some x → root_number x.name ≡ n
    thread-keyed n x e =
        let f = thread-from n x e in
        let u = thread-named f.0 f.1 f.2 in
        ap (λ (y : ThreadRow). root_number y.name) f.3 ∙ root-of f.0 n u.0 u.1 f.4

    -- the threads of the state are those by key
    pub in-threads : (x : ThreadRow) → IsIn x (full_state s).threads → (k : ℕ) × (t : Thread) × (thread_with s.threads k ≡ Some t) × (x ≡ thread_row_of s k t)
    in-threads x i = let c = collect-from (thread_row_numbered s) 0 s.numbering.pid_max x i in let f = thread-from c.0 x c.1 in (f.0, f.1, f.2, f.3)

    pub threads-in : (k : ℕ) (t : Thread) → thread_with s.threads k ≡ Some t → IsIn (thread_row_of s k t) (full_state s).threads
    threads-in k t e =
        let u = thread-named k t e in
        let root = root-number s l k u.0 u.1 in
        let high = (l.numbering.range k 0 (root_number (name_at s.numbering k)) root).1 in
        collect-in (thread_row_numbered s) 0 s.numbering.pid_max (root_number (name_at s.numbering k)) (thread_row_of s k t) (omega arith) (omega (arith, high))
        (ap (option_and_then (thread_row_with s)) (key-of s.numbering l.numbering 0 (root_number (name_at s.numbering k)) k root) ∙ ap (option_map (thread_row_of s k)) e)

  -- a process whose first thread has left is a task
  pub marked-named : (k : ℕ) → left_at s.threads k ≡ true → (u : Identifier) × (identifier_at s.numbering k ≡ Some u)
  marked-named k e = let t = live-there (task_at s.tree k) (l.agree.marks k e) in named s l k t.0 t.1

  mark-from : (n : ℕ) (x : Name) → mark_numbered s n ≡ Some x → (k : ℕ) × (left_at s.threads k ≡ true) × (x ≡ name_at s.numbering k)
  mark-from n x e = go (key_numbered s.numbering 0 n) e
    where
      go : (o : Option ℕ) → option_and_then (mark_with s) o ≡ Some x → (k : ℕ) × (left_at s.threads k ≡ true) × (x ≡ name_at s.numbering k)
      go None e = absurd (cc)
      go (Some k) e = mark (left_at s.threads k) refl e
        where
          mark : (b : Bool) → left_at s.threads k ≡ b → (if b then Some (name_at s.numbering k) else None) ≡ Some x → (k : ℕ) × (left_at s.threads k ≡ true) × (x ≡ name_at s.numbering k)
          mark false is e = absurd (cc)
          mark true is e = (k, is, ap (λ o. option_map_or (λ y. y) o x) (sym e))

  -- the marks of the state are those by key
  pub in-left : (x : Name) → IsIn x (full_state s).left → (k : ℕ) × (left_at s.threads k ≡ true) × (x ≡ name_at s.numbering k)
  in-left x i = let c = collect-from (mark_numbered s) 0 s.numbering.pid_max x i in mark-from c.0 x c.1

  pub left-in : (k : ℕ) → left_at s.threads k ≡ true → IsIn (name_at s.numbering k) (full_state s).left
  left-in k e =
      let u = marked-named k e in
      let root = root-number s l k u.0 u.1 in
      let high = (l.numbering.range k 0 (root_number (name_at s.numbering k)) root).1 in
      collect-in (mark_numbered s) 0 s.numbering.pid_max (root_number (name_at s.numbering k)) (name_at s.numbering k) (omega arith) (omega (arith, high))
      (ap (option_and_then (mark_with s)) (key-of s.numbering l.numbering 0 (root_number (name_at s.numbering k)) k root) ∙ ap (λ b. if b then Some (name_at s.numbering k) else None) e)

  -- the process of a thread is a task
  pub process-there : HasProcesses s → (k : ℕ) (t : Thread) → thread_with s.threads k ≡ Some t → (v : Task) × (task_at s.tree t.process ≡ Some v) × (has_live (Some v) ≡ true)
  process-there p k t e = live-there (task_at s.tree t.process) (p k t e)
