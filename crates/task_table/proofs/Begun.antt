-- Where there is no task all parts agree.
use Rattle.std.proofs.Common.{◌≡◌, ℕ, List, [], ◌∷◌, true, false, length, count_by, Option, Some, None, is_some, refl, sym, ap, ◌∙◌, arith}
use Rattle.std.specs.Option.{option_map_or}
use Rattle.std.specs.Prelude.{slice_index_or}
use Rattle.pid_types.specs.declared.call.Kind.{Kind}
use Rattle.pid_types.specs.declared.call.Kind.TheVariants.{Task as AsTask, Group, Session}
use Rattle.pid_numbers.specs.Numbering.{Numbering, identifier_at, uses}
use Rattle.task_tree.specs.Tree.{TreeOfTasks, task_at}
use Rattle.groups_sessions.specs.Membership.{Membership, membership_at}
use Rattle.pids_charge.specs.Charges.{Charges, Home, home_at, tasks_of, live_at, zombies_at, all_tasks}
use Rattle.process_threads.specs.Threads.{ThreadsByKey, left_at}
use Rattle.task_table.specs.Store.{IsStore, uses_at, one_if, is_in_group, is_in_session, lives_in, waits_in, is_homed, left_homed}
use Rattle.task_table.proofs.Marks.{none as none_left}

pub nothing : {X : Type 0} (xs : List X) → length xs ≡ 0 → xs ≡ []
nothing [] e = refl
nothing (x ∷ xs) e = absurd (omega (arith, e))

pub IsStore-empty : (b : Numbering) (tree : TreeOfTasks) (members : List (Option Membership)) (charges : Charges) (threads : ThreadsByKey) → ((i : ℕ) → identifier_at b i ≡ None) → length tree.tasks ≡ 0 → members ≡ []
    → threads.threads ≡ [] → threads.left ≡ [] → ((k : ℕ) → tasks_of (home_at charges k) ≡ 0) → all_tasks charges ≡ 0
    → IsStore (record { numbering = b; tree = tree; members = members; charges = charges; threads = threads })
IsStore-empty b tree members charges threads names tasks none alone marks homes all = record {
  tasks = λ i. unused AsTask i ∙ sym (ap (λ o. one_if (is_some o)) (vacant i));
  groups = λ i. unused Group i ∙ sym (ap (count_by (is_in_group i)) none);
  sessions = λ i. unused Session i ∙ sym (ap (count_by (is_in_session i)) none);
  members = λ k. ap (λ l. is_some (membership_at l k)) none ∙ sym (ap is_some (vacant k));
  live = λ c.
      let a = (empty c).0 in
      let b = ap (count_by (lives_in c)) empty_tasks in
      let d = ap (count_by (is_homed c)) alone in
      let e = left c in
      omega (arith, a, b, d, e);
  zombies = λ c. let a = (empty c).1 in let b = ap (count_by (waits_in c)) empty_tasks in let e = left c in omega (arith, a, b, e);
  all = let b = ap (count_by is_some) empty_tasks in let d = ap (count_by is_some) alone in omega (arith, all, b, d);
  marks = λ p e. absurd (let z : false ≡ true = sym (stays p) ∙ e in cc);
  ranks = λ k p r e u is. absurd (let z = sym (names p) ∙ is in cc);
}
  where
    empty_tasks : tree.tasks ≡ []
    empty_tasks = nothing tree.tasks tasks

    vacant : (k : ℕ) → task_at tree k ≡ None
    vacant k = ap (λ l. slice_index_or l k None) empty_tasks

    stays : (p : ℕ) → left_at threads p ≡ false
    stays p = ap (λ l. slice_index_or l p false) marks

    left : (c : ℕ) → left_homed (record { numbering = b; tree = tree; members = members; charges = charges; threads = threads }) c ≡ 0
    left c = none_left (record { numbering = b; tree = tree; members = members; charges = charges; threads = threads }) stays c

    unused : (kind : Kind) (i : ℕ) → uses_at b kind i ≡ 0
    unused kind i = ap (λ o. option_map_or (uses kind) o 0) (names i)

    empty : (c : ℕ) → (live_at charges c ≡ 0) × (zombies_at charges c ≡ 0)
    empty c = go (home_at charges c) (homes c)
      where
        go : (o : Option Home) → tasks_of o ≡ 0 → (option_map_or (λ h. h.live) o 0 ≡ 0) × (option_map_or (λ h. h.zombies) o 0 ≡ 0)
        go None e = (refl, refl)
        go (Some h) e = (omega (arith, e), omega (arith, e))
