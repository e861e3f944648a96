-- Who is found by a number in the model's state of a store: the process of the thread that has it.
use Rattle.std.proofs.Common.{◌≡◌, ◌≢◌, ◌⊎◌, inl, inr, ℕ, ◌==◌, ◌&&◌, ◌||◌, not, Bool, true, false, Option, Some, None, option_map, unwrap_or, refl, sym, ap, ◌∙◌}
use Rattle.std.specs.Option.{option_map_or, option_eq}
use Rattle.std.proofs.lemmas.Bool.{not-true, eqb-true, eq-eqb, and_parts, or_cases, cases_eq}
use Rattle.pid_types.proofs.General.{apart, some_number}
use Rattle.pid_types.specs.declared.plain.Name.{Name}
use Rattle.pid_types.specs.declared.plain.Row.{Row}
use Rattle.pid_types.specs.declared.plain.Thread.{Thread as ThreadRow}
use Rattle.pid_types.specs.Names.{root_number, is_live, is_numbered}
use Rattle.pid_types.specs.Threads.{has_left, has_thread, caller_of, thread_at, process_numbered}
use Rattle.model_laws.proofs.Lists.{find-only, find-none, some_passes}
use Rattle.model_laws.proofs.Trees.{has_thread-true, has_thread-from}
use Rattle.model_laws.proofs.Callers.{has_left-from}
use Rattle.pid_numbers.specs.Numbering.{Identifier, id_at, identifier_at, number_of}
use Rattle.process_threads.specs.declared.Thread.{Thread}
use Rattle.process_threads.specs.Threads.{thread_with, thread_process, left_at}
use Rattle.task_tree.specs.declared.Task.{Task}
use Rattle.task_tree.specs.Tree.{task_at, lives, has_live}
use Rattle.task_table.specs.Store.{Store, IsThreaded}
use Rattle.task_table.specs.View.{name_at, row_of}
use Rattle.task_table.specs.Lawful.{IsLawful}
use Rattle.task_table.proofs.Keys.{number-is_key}
use Rattle.task_table.proofs.LookUps.{named, find-task, find-nobody}
use Rattle.thread_view.specs.Full.{thread_row_of, full_state}
use Rattle.thread_view.specs.Calling.{HasProcesses}
use Rattle.thread_view.proofs.Threads.{same-key, rooted-as, root-of, thread-named, no-task, in-threads, threads-in, in-left, left-in, marked-named, process-there}

-- either holds where the second does
second : (a b : Bool) → b ≡ true → (a || b) ≡ true
second true b e = refl
second false b e = e

first : (a b : Bool) → a ≡ true → (a || b) ≡ true
first true b e = refl
first false b e = absurd (cc)

together : (a b : Bool) → a ≡ true → b ≡ true → (a && b) ≡ true
together a b e f = rw (e, f) refl

-- a test that holds of none
never : (b : Bool) → (b ≡ true → ⊥) → b ≡ false
never true fails = absurd (fails refl)
never false fails = refl

-- who has left, or has ended, does not run
pub left-ended : (a b : Bool) → b ≡ true → (a && not b) ≡ false
left-ended true b e = ap not e
left-ended false b e = refl

pub dead-ended : (a b : Bool) → a ≡ false → (a && b) ≡ false
dead-ended a b e = ap (λ x. x && b) e

-- the thread whose process was found
pub thread-with : (o : Option Thread) (q : ℕ) → option_map (λ (t : Thread). t.process) o ≡ Some q → (t : Thread) × (o ≡ Some t) × (t.process ≡ q)
thread-with None q e = absurd (cc)
thread-with (Some t) q e = (t, refl, ap (λ o. option_map_or (λ x. x) o q) e)

pub thread-without : (o : Option Thread) → option_map (λ (t : Thread). t.process) o ≡ None → o ≡ None
thread-without None e = refl
thread-without (Some t) e = absurd (cc)

module _ (s : Store) (l : IsLawful s) (w : IsThreaded s.numbering s.threads) (p : HasProcesses s) where
  -- a test that a name passes where its identifier has the number in the namespace
  module _ (sp n : ℕ) (test : Name → Bool)
      (tested : (k : ℕ) (u : Identifier) → identifier_at s.numbering k ≡ Some u → test (name_at s.numbering k) ≡ option_eq ◌==◌ (number_of s.numbering k sp) (Some n)) where
    -- who passes has it
    passes : (k : ℕ) (u : Identifier) → identifier_at s.numbering k ≡ Some u → test (name_at s.numbering k) ≡ true → number_of s.numbering k sp ≡ Some n
    passes k u at e = some_number (number_of s.numbering k sp) n (sym (tested k u at) ∙ e)

    -- and back
    passed : (k : ℕ) (u : Identifier) → identifier_at s.numbering k ≡ Some u → number_of s.numbering k sp ≡ Some n → test (name_at s.numbering k) ≡ true
    passed k u at e = tested k u at ∙ ap (λ o. option_eq ◌==◌ o (Some n)) e ∙ eq-eqb n n refl

    -- a process with a thread that passes
    by_thread : (j : ℕ) (v : Task) → task_at s.tree j ≡ Some v → has_thread (full_state s) test (row_of s j v) ≡ true
        → (k : ℕ) × (t : Thread) × (thread_with s.threads k ≡ Some t) × (number_of s.numbering k sp ≡ Some n) × (t.process ≡ j)
    by_thread j v at e =
        let f = has_thread-true (full_state s) test (row_of s j v) e in
        let x = in-threads s l w f.0 f.1 in
        let u = thread-named s l w x.0 x.1 x.2 in
        let owner = process-there s l p x.0 x.1 x.2 in
        let a = named s l x.1.process owner.0 owner.1 in
        let b = named s l j v at in (
          x.0,
          x.1,
          x.2,
          passes x.0 u.0 u.1 (ap (λ (y : ThreadRow). test y.name) (sym x.3) ∙ f.2),
          same-key s l x.1.process j a.0 b.0 a.1 b.1 (ap (λ (y : ThreadRow). y.process) (sym x.3) ∙ f.3),
        )

    -- and back
    with_thread : (k : ℕ) (t : Thread) (v : Task) → thread_with s.threads k ≡ Some t → number_of s.numbering k sp ≡ Some n → has_thread (full_state s) test (row_of s t.process v) ≡ true
    with_thread k t v e has =
        let u = thread-named s l w k t e in
        has_thread-from (full_state s) test (row_of s t.process v) (thread_row_of s k t) (threads-in s l w k t e) (passed k u.0 u.1 has) refl

    -- a task has it as a thread, or itself
    one_of : (k : ℕ) → number_of s.numbering k sp ≡ Some n → (j : ℕ) (v : Task) → task_at s.tree j ≡ Some v
        → (has_thread (full_state s) test (row_of s j v) || test (name_at s.numbering j)) ≡ true
        → ((t : Thread) × (thread_with s.threads k ≡ Some t) × (t.process ≡ j)) ⊎ (j ≡ k)
    one_of k has j v at e = elim (or_cases (has_thread (full_state s) test (row_of s j v)) (test (name_at s.numbering j)) e) [
      | inl some ↦
          let f = by_thread j v at some in
          let same = l.numbering.distinct f.0 k sp n f.3 has in
          inl (f.1, ap (thread_with s.threads) (sym same) ∙ f.2, f.4)
      | inr own ↦ (let u = named s l j v at in inr (l.numbering.distinct j k sp n (passes j u.0 u.1 own) has))
    ]

    -- nobody has it
    none_of : ((k : ℕ) → number_of s.numbering k sp ≢ Some n) → (j : ℕ) (v : Task) → task_at s.tree j ≡ Some v
        → (has_thread (full_state s) test (row_of s j v) || test (name_at s.numbering j)) ≡ false
    none_of free j v at = never (has_thread (full_state s) test (row_of s j v) || test (name_at s.numbering j)) (λ e. elim (or_cases (has_thread (full_state s) test (row_of s j v)) (test (name_at s.numbering j)) e) [
      | inl some ↦ (let f = by_thread j v at some in free f.0 f.3)
      | inr own ↦ (let u = named s l j v at in free j (passes j u.0 u.1 own))
    ])

  -- a number of the root namespace is the first of a name
  root_tested : (n k : ℕ) (u : Identifier) → identifier_at s.numbering k ≡ Some u → (root_number (name_at s.numbering k) == n) ≡ option_eq ◌==◌ (number_of s.numbering k 0) (Some n)
  root_tested n k u at = go (cases_eq (root_number (name_at s.numbering k)) n)
    where
      go : ((root_number (name_at s.numbering k)) ≡ n) ⊎ ((root_number (name_at s.numbering k)) ≢ n) → (root_number (name_at s.numbering k) == n) ≡ option_eq ◌==◌ (number_of s.numbering k 0) (Some n)
      go (inl same) = eq-eqb (root_number (name_at s.numbering k)) n same ∙ sym (ap (λ o. option_eq ◌==◌ o (Some n)) (rooted-as s l k n u at same) ∙ eq-eqb n n refl)
      go (inr differs) =
          apart (root_number (name_at s.numbering k)) n differs
          ∙ sym (never (option_eq ◌==◌ (number_of s.numbering k 0) (Some n)) (λ e. differs (root-of s l k n u at (some_number (number_of s.numbering k 0) n e))))

  -- a mark is found by its number
  pub left-is : (n k : ℕ) → number_of s.numbering k 0 ≡ Some n → has_left (full_state s) n ≡ left_at s.threads k
  left-is n k has = go (left_at s.threads k) refl
    where
      go : (b : Bool) → left_at s.threads k ≡ b → has_left (full_state s) n ≡ left_at s.threads k
      go true is =
          let u = marked-named s l k is in
          has_left-from (full_state s) (name_at s.numbering k) n (left-in s l k is) (root-of s l k n u.0 u.1 has) ∙ sym is
      go false is = never (has_left (full_state s) n) (λ e.
          let f = some_passes (λ (a : Name). root_number a == n) (full_state s).left e in
          let x = in-left s l f.0 f.1 in
          let u = marked-named s l x.0 x.1 in
          let root : number_of s.numbering x.0 0 ≡ Some n = rooted-as s l x.0 n u.0 u.1 (ap root_number (sym x.2) ∙ eqb-true (root_number f.0) n f.2) in
          let z : true ≡ false = sym x.1 ∙ ap (left_at s.threads) (l.numbering.distinct x.0 k 0 n root has) ∙ is in
          cc) ∙ sym is

  abbrev calls : ℕ → Row → Bool
  calls n row = (has_thread (full_state s) (λ name. root_number name == n) row || (not (has_left (full_state s) n) && (root_number row.name == n))) && is_live row

  -- who calls is the live process of a thread with the number, or has it himself
  calling : (n j : ℕ) (v : Task) → calls n (row_of s j v) ≡ true → (has_thread (full_state s) (λ name. root_number name == n) (row_of s j v) || (root_number (name_at s.numbering j) == n)) ≡ true
  calling n j v e =
      let runs = and_parts (has_thread (full_state s) (λ name. root_number name == n) (row_of s j v) || (not (has_left (full_state s) n) && (root_number (name_at s.numbering j) == n))) (lives v) e in
      elim (or_cases (has_thread (full_state s) (λ name. root_number name == n) (row_of s j v)) (not (has_left (full_state s) n) && (root_number (name_at s.numbering j) == n)) runs.0) [
        | inl some ↦ first (has_thread (full_state s) (λ name. root_number name == n) (row_of s j v)) (root_number (name_at s.numbering j) == n) some
        | inr own ↦
            second (has_thread (full_state s) (λ name. root_number name == n) (row_of s j v)) (root_number (name_at s.numbering j) == n)
            (and_parts (not (has_left (full_state s) n)) (root_number (name_at s.numbering j) == n) own).1
      ]

  -- a first thread calls, if it runs
  pub first-calls : (n k : ℕ) (t : Task) → task_at s.tree k ≡ Some t → number_of s.numbering k 0 ≡ Some n → lives t ≡ true → left_at s.threads k ≡ false
      → caller_of (full_state s) n ≡ Some (row_of s k t)
  first-calls n k t at has live stays =
      let u = named s l k t at in
      find-task s l (calls n) k t at
      (together _ (lives t) (second (has_thread (full_state s) (λ name. root_number name == n) (row_of s k t)) (not (has_left (full_state s) n) && (root_number (name_at s.numbering k) == n))
      (together (not (has_left (full_state s) n)) (root_number (name_at s.numbering k) == n) (ap not (left-is n k has ∙ stays)) (eq-eqb (root_number (name_at s.numbering k)) n (root-of s l k n u.0 u.1 has)))) live)
      (λ j v f is. elim (one_of 0 n (λ name. root_number name == n) (root_tested n) k has j v f (calling n j v is)) [
        | inl t ↦ absurd (let z = sym at ∙ no-task s l w k t.0 t.1 in cc)
        | inr same ↦ same
      ])

  -- another thread calls, and its process is found
  pub other-calls : (n k : ℕ) (t : Thread) (v : Task) → thread_with s.threads k ≡ Some t → number_of s.numbering k 0 ≡ Some n → task_at s.tree t.process ≡ Some v → lives v ≡ true
      → caller_of (full_state s) n ≡ Some (row_of s t.process v)
  other-calls n k t v e has at live =
      find-task s l (calls n) t.process v at
      (together _ (lives v) (first (has_thread (full_state s) (λ name. root_number name == n) (row_of s t.process v)) (not (has_left (full_state s) n) && (root_number (name_at s.numbering t.process) == n))
      (with_thread 0 n (λ name. root_number name == n) (root_tested n) k t v e has)) live)
      (λ j x f is. elim (one_of 0 n (λ name. root_number name == n) (root_tested n) k has j x f (calling n j x is)) [
        | inl o ↦ (let z : Some o.0 ≡ Some t = sym o.1 ∙ e in sym o.2 ∙ ap (λ q. option_map_or (λ (y : Thread). y.process) q j) z)
        | inr same ↦ absurd (let z = sym f ∙ ap (task_at s.tree) same ∙ no-task s l w k t e in cc)
      ])

  -- nobody calls where the number is nobody's
  pub nobody-calls : (n : ℕ) → ((k : ℕ) → number_of s.numbering k 0 ≢ Some n) → caller_of (full_state s) n ≡ None
  nobody-calls n free = find-nobody s l (calls n) (λ j v at. never (calls n (row_of s j v)) (λ is.
      let z : true ≡ false = sym (calling n j v is) ∙ none_of 0 n (λ name. root_number name == n) (root_tested n) free j v at in cc))

  -- nor where it is of one that does not run
  pub ended-calls : (n k : ℕ) → number_of s.numbering k 0 ≡ Some n → thread_with s.threads k ≡ None → (has_live (task_at s.tree k) && not (left_at s.threads k)) ≡ false → caller_of (full_state s) n ≡ None
  ended-calls n k has none ended = find-nobody s l (calls n) (λ j v at. never (calls n (row_of s j v)) (λ is. elim (one_of 0 n (λ name. root_number name == n) (root_tested n) k has j v at (calling n j v is)) [
    | inl t ↦ (let z = sym t.1 ∙ none in cc)
    | inr same ↦ runs j v at is same
  ]))
    where
      runs : (j : ℕ) (v : Task) → task_at s.tree j ≡ Some v → calls n (row_of s j v) ≡ true → j ≡ k → ⊥
      runs j v at is same =
          let parts = and_parts (has_thread (full_state s) (λ name. root_number name == n) (row_of s j v) || (not (has_left (full_state s) n) && (root_number (name_at s.numbering j) == n))) (lives v) is in
          let live : has_live (task_at s.tree k) ≡ true = ap (λ i. has_live (task_at s.tree i)) (sym same) ∙ ap has_live at ∙ parts.1 in
          elim (or_cases (has_thread (full_state s) (λ name. root_number name == n) (row_of s j v)) (not (has_left (full_state s) n) && (root_number (name_at s.numbering j) == n)) parts.0) [
            | inl some ↦
                let f = by_thread 0 n (λ name. root_number name == n) (root_tested n) j v at some in
                let z : Some f.1 ≡ None = sym f.2 ∙ ap (thread_with s.threads) (l.numbering.distinct f.0 k 0 n f.3 has) ∙ none in cc
            | inr own ↦
                let stays : left_at s.threads k ≡ false = sym (left-is n k has) ∙ not-true (has_left (full_state s) n) (and_parts (not (has_left (full_state s) n)) (root_number (name_at s.numbering j) == n) own).0 in
                let z : true ≡ false = sym (together (has_live (task_at s.tree k)) (not (left_at s.threads k)) live (ap not stays)) ∙ ended in cc
          ]

  -- the thread with a number
  pub thread-at : (n k : ℕ) (t : Thread) → thread_with s.threads k ≡ Some t → number_of s.numbering k 0 ≡ Some n → thread_at (full_state s) n ≡ Some (thread_row_of s k t)
  thread-at n k t e has =
      let u = thread-named s l w k t e in
      find-only (λ (x : ThreadRow). root_number x.name == n) (full_state s).threads (thread_row_of s k t) (threads-in s l w k t e) (eq-eqb (root_number (name_at s.numbering k)) n (root-of s l k n u.0 u.1 has))
      (λ x i is.
      let f = in-threads s l w x i in
      let v = thread-named s l w f.0 f.1 f.2 in
      let same = l.numbering.distinct f.0 k 0 n (rooted-as s l f.0 n v.0 v.1 (ap (λ (y : ThreadRow). root_number y.name) (sym f.3) ∙ eqb-true (root_number x.name) n is)) has in
      let z : Some f.1 ≡ Some t = sym f.2 ∙ ap (thread_with s.threads) same ∙ e in
      f.3 ∙ ap (λ j. thread_row_of s j f.1) same ∙ ap (λ o. option_map_or (thread_row_of s k) o x) z)

  -- none where it is no thread's
  pub thread-none : (n k : ℕ) → number_of s.numbering k 0 ≡ Some n → thread_with s.threads k ≡ None → thread_at (full_state s) n ≡ None
  thread-none n k has none = find-none (λ (x : ThreadRow). root_number x.name == n) (full_state s).threads (λ x i. never (root_number x.name == n) (λ is.
      let f = in-threads s l w x i in
      let v = thread-named s l w f.0 f.1 f.2 in
      let same = l.numbering.distinct f.0 k 0 n (rooted-as s l f.0 n v.0 v.1 (ap (λ (y : ThreadRow). root_number y.name) (sym f.3) ∙ eqb-true (root_number x.name) n is)) has in
      let z : Some f.1 ≡ None = sym f.2 ∙ ap (thread_with s.threads) same ∙ none in cc))

  module _ (sp i n : ℕ) (there : id_at s.numbering sp ≡ Some i) where
    abbrev names : Name → Bool
    names name = is_numbered (full_state s).spaces name i n

    tested_there : (k : ℕ) (u : Identifier) → identifier_at s.numbering k ≡ Some u → names (name_at s.numbering k) ≡ option_eq ◌==◌ (number_of s.numbering k sp) (Some n)
    tested_there k u at = ap (λ o. option_eq ◌==◌ o (Some n)) (number-is_key s.numbering l.numbering sp i k u there at)

    abbrev named_by : Row → Bool
    named_by row = has_thread (full_state s) names row || names row.name

    -- a number names the process that has it
    pub first-named : (k : ℕ) (t : Task) → task_at s.tree k ≡ Some t → number_of s.numbering k sp ≡ Some n → process_numbered (full_state s) i n ≡ Some (row_of s k t)
    unfolding process_numbered
    first-named k t at has =
        let u = named s l k t at in
        find-task s l named_by k t at (second (has_thread (full_state s) names (row_of s k t)) (names (name_at s.numbering k)) (passed sp n names tested_there k u.0 u.1 has))
        (λ j v f is. elim (one_of sp n names tested_there k has j v f is) [
          | inl t ↦ absurd (let z = sym at ∙ no-task s l w k t.0 t.1 in cc)
          | inr same ↦ same
        ])

    -- and the process of the thread that has it
    pub other-named : (k : ℕ) (t : Thread) (v : Task) → thread_with s.threads k ≡ Some t → number_of s.numbering k sp ≡ Some n → task_at s.tree t.process ≡ Some v
        → process_numbered (full_state s) i n ≡ Some (row_of s t.process v)
    unfolding process_numbered
    other-named k t v e has at =
        find-task s l named_by t.process v at (first (has_thread (full_state s) names (row_of s t.process v)) (names (name_at s.numbering t.process)) (with_thread sp n names tested_there k t v e has))
        (λ j x f is. elim (one_of sp n names tested_there k has j x f is) [
          | inl o ↦ (let z : Some o.0 ≡ Some t = sym o.1 ∙ e in sym o.2 ∙ ap (λ q. option_map_or (λ (y : Thread). y.process) q j) z)
          | inr same ↦ absurd (let z = sym f ∙ ap (task_at s.tree) same ∙ no-task s l w k t e in cc)
        ])

    -- and nobody where nobody has it
    pub nobody-named : ((k : ℕ) → number_of s.numbering k sp ≢ Some n) → process_numbered (full_state s) i n ≡ None
    unfolding process_numbered
    nobody-named free = find-nobody s l named_by (none_of sp n names tested_there free)

    -- or where it is a group's or a session's alone
    pub group-named : (k : ℕ) → number_of s.numbering k sp ≡ Some n → thread_with s.threads k ≡ None → task_at s.tree k ≡ None → process_numbered (full_state s) i n ≡ None
    unfolding process_numbered
    group-named k has none gone = find-nobody s l named_by (λ j v f. never (named_by (row_of s j v)) (λ is. elim (one_of sp n names tested_there k has j v f is) [
      | inl o ↦ (let z = sym o.1 ∙ none in cc)
      | inr same ↦ (let z = sym f ∙ ap (task_at s.tree) same ∙ gone in cc)
    ]))

    -- whichever of both it is
    pub process-named : (k : ℕ) (v : Task) → number_of s.numbering k sp ≡ Some n → task_at s.tree (unwrap_or (thread_process s.threads k) k) ≡ Some v
        → process_numbered (full_state s) i n ≡ Some (row_of s (unwrap_or (thread_process s.threads k) k) v)
    process-named k v has at = go (thread_with s.threads k) refl
      where
        go : (o : Option Thread) → thread_with s.threads k ≡ o → process_numbered (full_state s) i n ≡ Some (row_of s (unwrap_or (thread_process s.threads k) k) v)
        go None e =
            let own : unwrap_or (thread_process s.threads k) k ≡ k = ap (λ o. unwrap_or (option_map (λ (t : Thread). t.process) o) k) e in
            first-named k v (ap (task_at s.tree) (sym own) ∙ at) has ∙ ap (λ q. Some (row_of s q v)) (sym own)
        go (Some t) e =
            let own : unwrap_or (thread_process s.threads k) k ≡ t.process = ap (λ o. unwrap_or (option_map (λ (t : Thread). t.process) o) k) e in
            other-named k t v e has (ap (task_at s.tree) (sym own) ∙ at) ∙ ap (λ q. Some (row_of s q v)) (sym own)

    pub process-unnamed : (k : ℕ) → number_of s.numbering k sp ≡ Some n → task_at s.tree (unwrap_or (thread_process s.threads k) k) ≡ None → process_numbered (full_state s) i n ≡ None
    process-unnamed k has gone = go (thread_with s.threads k) refl
      where
        go : (o : Option Thread) → thread_with s.threads k ≡ o → process_numbered (full_state s) i n ≡ None
        go None e = group-named k has e (ap (task_at s.tree) (sym (ap (λ o. unwrap_or (option_map (λ (t : Thread). t.process) o) k) e)) ∙ gone)
        go (Some t) e =
            let v = process-there s l p k t e in
            let z = sym v.1 ∙ ap (task_at s.tree) (sym (ap (λ o. unwrap_or (option_map (λ (t : Thread). t.process) o) k) e)) ∙ gone in
            absurd (cc)
