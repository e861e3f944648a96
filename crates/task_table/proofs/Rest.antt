-- The four parts agree after changes that touch no task: of control groups, of namespaces, of room.
use Rattle.std.proofs.Common.{◌≡◌, ℕ, suc, ◌+◌, ◌==◌, Bool, true, false, List, [], ◌∷◌, get_or, count_by, Result, Ok, Err, Option, Some, None, option_and_then, is_some, if◌then◌else◌, refl, sym, ap, ◌∙◌, arith}
use Rattle.std.specs.Prelude.{slice_index_or}
use Rattle.std.proofs.lemmas.List.Sums.{sum_by-cons}
use Rattle.std.specs.Option.{option_map_or}
use Rattle.pid_types.specs.declared.call.Kind.{Kind}
use Rattle.pid_types.specs.declared.call.Kind.TheVariants.{Task as AsTask, Group, Session}
use Rattle.pid_types.specs.Names.{beside}
use Rattle.pid_numbers.specs.Numbering.{Numbering, Identifier, identifier_at, path_at, number_of, number_in, uses}
use Rattle.process_threads.specs.Threads.{left_at}
use Rattle.task_tree.specs.Tree.{TreeOfTasks, task_at, has_live}
use Rattle.pids_charge.specs.Charges.{Charges, Home, home_at, live_at, zombies_at, all_tasks, home_id, is_occupied, kept, handed_on, remove_refusal}
use Rattle.std.specs.Result.{result_err}
use Rattle.std.specs.Prelude.{OnOk, OnErr}
use Rattle.pid_types.specs.Controls.{parent_control}
use Rattle.pid_types.specs.declared.reply.Refusal.{Refusal}
use Rattle.pid_types.specs.declared.reply.Refusal.TheVariants.{ControlBusy, RootControl}
use Rattle.task_table.specs.Store.{Store, IsStore, IsSame, uses_at, one_if, is_in_group, is_in_session, lives_in, waits_in, threads_homed, all_threads, left_homed}
use Rattle.task_table.proofs.Marks as marks
use Rattle.task_table.proofs.Less.{AreRanks}
use Rattle.task_table.proofs.HomeCounts.{kept-live, kept-zombies}

-- the control groups' tasks by key are as many
pub recharged : (s : Store) (charges : Charges) → IsStore s → ((c : ℕ) → live_at charges c ≡ live_at s.charges c) → ((c : ℕ) → zombies_at charges c ≡ zombies_at s.charges c)
    → all_tasks charges ≡ all_tasks s.charges → IsStore (record s { charges = charges })
recharged s charges w live zombies all =
    record {
      tasks = w.tasks;
      groups = w.groups;
      sessions = w.sessions;
      members = w.members;
      live = λ c. ap (λ n. n + left_homed s c) (live c) ∙ w.live c;
      zombies = λ c. zombies c ∙ w.zombies c;
      all = all ∙ w.all;
      marks = w.marks;
      ranks = w.ranks;
    }

-- the tasks are the same, and whose children they are is not
pub rekinned : (s : Store) (tree : TreeOfTasks) → IsStore s → tree.tasks ≡ s.tree.tasks → AreRanks s.numbering tree → IsStore (record s { tree = tree })
rekinned s tree w same ranks = record {
  tasks = λ i. w.tasks i ∙ sym (ap (λ o. one_if (is_some o)) (at i));
  groups = w.groups;
  sessions = w.sessions;
  members = λ k. w.members k ∙ sym (ap is_some (at k));
  live = λ c. let a = w.live c in let b = ap (count_by (lives_in c)) same in let m = marked c in omega (arith, a, b, m);
  zombies = λ c. let a = w.zombies c in let b = ap (count_by (waits_in c)) same in let m = marked c in omega (arith, a, b, m);
  all = let a = w.all in let b = ap (count_by is_some) same in omega (arith, a, b);
  marks = λ p e. ap has_live (at p) ∙ w.marks p e;
  ranks = ranks;
}
  where
    at : (k : ℕ) → task_at tree k ≡ task_at s.tree k
    at k = ap (λ l. slice_index_or l k None) same

    marked : (c : ℕ) → left_homed (record s { tree = tree }) c ≡ left_homed s c
    marked = marks.same s (record s { tree = tree }) (λ k. refl) at

-- a removal leaves at each key as many
handed-live : (from to : ℕ) (o : Option Home) → option_map_or (λ h. h.live) (option_and_then (handed_on from to) o) 0 ≡ option_map_or (λ h. h.live) o 0
handed-live from to None = refl
handed-live from to (Some h) = go (h.id == from)
  where
    go : (b : Bool) → option_map_or (λ h. h.live) (if b then kept (record h { id = to; stands = false }) else Some h) 0 ≡ h.live
    go true = kept-live (record h { id = to; stands = false })
    go false = refl

handed-zombies : (from to : ℕ) (o : Option Home) → option_map_or (λ h. h.zombies) (option_and_then (handed_on from to) o) 0 ≡ option_map_or (λ h. h.zombies) o 0
handed-zombies from to None = refl
handed-zombies from to (Some h) = go (h.id == from)
  where
    go : (b : Bool) → option_map_or (λ h. h.zombies) (if b then kept (record h { id = to; stands = false }) else Some h) 0 ≡ h.zombies
    go true = kept-zombies (record h { id = to; stands = false })
    go false = refl

pub handed-over : (s : Store) (charges : Charges) → IsStore s → (from to : ℕ) → ((k : ℕ) → home_at charges k ≡ option_and_then (handed_on from to) (home_at s.charges k))
    → all_tasks charges ≡ all_tasks s.charges → IsStore (record s { charges = charges })
handed-over s charges w from to homes all =
    recharged s charges w
    (λ c. ap (λ o. option_map_or (λ h. h.live) o 0) (homes c) ∙ handed-live from to (home_at s.charges c))
    (λ c. ap (λ o. option_map_or (λ h. h.zombies) o 0) (homes c) ∙ handed-zombies from to (home_at s.charges c))
    all

-- the identifiers are the same, and so are the paths of their namespaces
pub renumbered-where : (s : Store) (b : Numbering) → IsStore s → b.names ≡ s.numbering.names
    → ((i : ℕ) (u : Identifier) → identifier_at s.numbering i ≡ Some u → path_at b u.space ≡ path_at s.numbering u.space) → IsStore (record s { numbering = b })
renumbered-where s b w names paths = record {
  members = w.members;
  live = w.live;
  zombies = w.zombies;
  all = w.all;
  marks = w.marks;
  tasks = λ i. same AsTask i ∙ w.tasks i;
  groups = λ i. same Group i ∙ w.groups i;
  sessions = λ i. same Session i ∙ w.sessions i;
  ranks = λ k p r e u is. number k u.space ∙ w.ranks k p r e u (sym (at p) ∙ is);
}
  where
    at : (i : ℕ) → identifier_at b i ≡ identifier_at s.numbering i
    at i = ap (λ l. slice_index_or l i None) names

    same : (kind : Kind) (i : ℕ) → uses_at b kind i ≡ uses_at s.numbering kind i
    same kind i = ap (λ o. option_map_or (uses kind) o 0) (at i)

    number : (k t : ℕ) → number_of b k t ≡ number_of s.numbering k t
    number k t = ap (number_in (path_at b) t) (at k) ∙ through (identifier_at s.numbering k) refl
      where
        through : (o : Option Identifier) → identifier_at s.numbering k ≡ o → number_in (path_at b) t o ≡ number_in (path_at s.numbering) t o
        through None is = refl
        through (Some u) is = ap (λ p. beside t p u.numbers) (paths k u is)

-- the identifiers and the paths are the same
pub renumbered : (s : Store) (b : Numbering) → IsStore s → b.names ≡ s.numbering.names → ((p : ℕ) → path_at b p ≡ path_at s.numbering p) → IsStore (record s { numbering = b })
renumbered s b w names paths = renumbered-where s b w names (λ i u is. paths u.space)

-- lists of which one is longer by nothing count alike
pub count-pointwise : {X : Type 0} (p : Option X → Bool) → p None ≡ false → (xs ys : List (Option X)) → ((i : ℕ) → get_or xs i None ≡ get_or ys i None) → count_by p xs ≡ count_by p ys
count-pointwise p none [] [] each = refl
count-pointwise p none (x ∷ xs) [] each =
    let rest = count-pointwise p none xs [] (λ i. each (suc i)) in
    let head : one_if (p x) ≡ 0 = ap (λ o. one_if (p o)) (each 0) ∙ ap one_if none in
    let cons = sum_by-cons (λ o. one_if (p o)) x xs in
    omega (arith, rest, head, cons)
count-pointwise p none [] (y ∷ ys) each =
    let rest = count-pointwise p none [] ys (λ i. each (suc i)) in
    let head : one_if (p y) ≡ 0 = ap (λ o. one_if (p o)) (sym (each 0)) ∙ ap one_if none in
    let cons = sum_by-cons (λ o. one_if (p o)) y ys in
    omega (arith, rest, head, cons)
count-pointwise p none (x ∷ xs) (y ∷ ys) each =
    let rest = count-pointwise p none xs ys (λ i. each (suc i)) in
    let head : one_if (p x) ≡ one_if (p y) = ap (λ o. one_if (p o)) (each 0) in
    let a = sum_by-cons (λ o. one_if (p o)) x xs in
    let b = sum_by-cons (λ o. one_if (p o)) y ys in
    omega (arith, rest, head, a, b)

-- more room changes nothing
pub roomier : (s s' : Store) → IsStore s → IsSame s s' → IsStore s'
roomier s s' w same = record {
  tasks = λ i. ap (λ b. uses_at b AsTask i) same.numbering ∙ w.tasks i ∙ sym (ap (λ o. one_if (is_some o)) (same.tasks i));
  groups = λ i. ap (λ b. uses_at b Group i) same.numbering ∙ w.groups i ∙ sym (count-pointwise (is_in_group i) refl s'.members s.members same.members);
  sessions = λ i. ap (λ b. uses_at b Session i) same.numbering ∙ w.sessions i ∙ sym (count-pointwise (is_in_session i) refl s'.members s.members same.members);
  members = λ k. ap is_some (same.members k) ∙ w.members k ∙ sym (ap is_some (same.tasks k));
  live = λ c.
      let a = ap (λ v. live_at v c) same.charges in
      let b = w.live c in
      let d = count-pointwise (lives_in c) refl s'.tree.tasks s.tree.tasks same.tasks in
      let e = ap (λ l. threads_homed l c) same.threads in
      let m = marked c in
      omega (arith, a, b, d, e, m);
  zombies = λ c.
      let a = ap (λ v. zombies_at v c) same.charges in
      let b = w.zombies c in
      let d = count-pointwise (waits_in c) refl s'.tree.tasks s.tree.tasks same.tasks in
      let m = marked c in
      omega (arith, a, b, d, m);
  all =
      let a = ap all_tasks same.charges in
      let b = w.all in
      let d = count-pointwise is_some refl s'.tree.tasks s.tree.tasks same.tasks in
      let e = ap all_threads same.threads in
      omega (arith, a, b, d, e);
  marks = λ p e. ap has_live (same.tasks p) ∙ w.marks p (sym (ap (λ l. left_at l p) same.threads) ∙ e);
  ranks = λ k p r e u is. ap (λ b. number_of b k u.space) same.numbering ∙ w.ranks k p r (sym (same.ranks k) ∙ e) u (sym (ap (λ b. identifier_at b p) same.numbering) ∙ is);
}
  where
    marked : (c : ℕ) → left_homed s' c ≡ left_homed s c
    marked = marks.same s s' (λ k. ap (λ l. left_at l k) same.threads) same.tasks

-- a removal that was refused changed nothing, and the other one handed the zombies over
pub removed : (s : Store) (charges : Charges) → IsStore s → (c : ℕ) → {X : Type 0} → (result : Result X Refusal) → result_err result ≡ remove_refusal s.charges c
    → OnOk result ((parent : ℕ) → parent_control s.charges.controls (home_id s.charges c) ≡ Some parent → (k : ℕ) → home_at charges k ≡ option_and_then (handed_on (home_id s.charges c) parent) (home_at s.charges k))
    → all_tasks charges ≡ all_tasks s.charges → OnErr result (charges ≡ s.charges) → IsStore (record s { charges = charges })
removed s charges w c (Err r) refusal homes all same = recharged s charges w (λ k. ap (λ v. live_at v k) same) (λ k. ap (λ v. zombies_at v k) same) all
removed s charges w c (Ok x) refusal homes all same = go (parent_control s.charges.controls (home_id s.charges c)) refl refusal
  where
    go : (o : Option ℕ) → parent_control s.charges.controls (home_id s.charges c) ≡ o → None ≡ (if is_some o then (if is_occupied s.charges c then Some ControlBusy else None) else Some RootControl) → IsStore (record s { charges = charges })
    go None e z = absurd (cc)
    go (Some parent) e z = handed-over s charges w (home_id s.charges c) parent (homes parent e) all
