-- The parts agree after threads beside first ones came, went or moved: no task, group or session is touched.
use Rattle.std.proofs.Common.{◌≡◌, ◌≢◌, ◌⊎◌, inl, inr, ℕ, ◌+◌, ◌-◌, ◌<◌, ◌==◌, ◌&&◌, not, Bool, true, false, List, length, count_by, Option, Some, None, option_map, option_and_then, is_some, refl, sym, ap, ◌∙◌, arith}
use Rattle.std.specs.Prelude.{slice_set, slice_index_or}
use Rattle.std.specs.Option.{option_map_or}
use Rattle.std.specs.List.{filter}
use Rattle.std.proofs.lemmas.List.{get_or-set_same, get_or-set_other}
use Rattle.std.proofs.lemmas.Bool.{cases_eq}
use Rattle.pid_types.proofs.General.{nothing}
use Rattle.pid_types.specs.declared.call.Kind.{Kind}
use Rattle.pid_types.specs.declared.call.Kind.TheVariants.{Task as AsTask, Group, Session}
use Rattle.pid_types.specs.declared.plain.Life.TheVariants.{Live}
use Rattle.pid_numbers.specs.Numbering.{Numbering, Identifier, identifier_at, namespace_at, is_there, is_thread, swept_at, thread_identifier, uses}
use Rattle.process_threads.specs.declared.Thread.{Thread}
use Rattle.process_threads.specs.Threads.{ThreadsByKey, thread_with, KeepsKeys}
use Rattle.task_tree.specs.declared.Task.{Task}
use Rattle.pids_charge.specs.Charges.{Charges, Home, home_at, live_at, zombies_at, all_tasks, stands, kept, after_move, ChangesHome}
use Rattle.task_table.specs.Store.{Store, IsStore, IsThreaded, IsLess, uses_at, one_if, is_homed, left_homed, bare, bare_at}
use Rattle.task_table.proofs.Marks as marks
use Rattle.task_table.proofs.Less.{AreRanks}
use Rattle.task_table.proofs.Changes.{count-set}
use Rattle.task_table.proofs.Groups.{one_of, none_of}
use Rattle.task_table.proofs.Rest.{count-pointwise}
use Rattle.task_table.proofs.HomeCounts as homes

-- a task that is charged as the thread is
abbrev pub as_task : Thread → Task
as_task t = record { children_space = t.children_space; home = t.home; executed = false; subreaper = false; life = Live }

-- what is counted where a thread came
pub came : (old new : Charges) (t : Thread) → ChangesHome old new t.home (option_map (λ (h : Home). record h { live = h.live + 1 }) (home_at old t.home)) → stands old t.home ≡ true → (c : ℕ)
    → (live_at new c ≡ live_at old c + one_if (is_homed c (Some t))) × (zombies_at new c ≡ zombies_at old c)
came old new t change up c =
    let h = homes.one-came old new (as_task t) change refl up c in
    let live = h.0 in
    let zombies = h.1 in
    let a = one_of (t.home == c) in
    let b = none_of (t.home == c) in
    (omega (arith, live, a), omega (arith, zombies, b))

-- and where one went
pub went : (old new : Charges) (t : Thread) → ChangesHome old new t.home (option_and_then (λ (h : Home). kept (record h { live = h.live - 1 })) (home_at old t.home)) → 0 < live_at old t.home → (c : ℕ)
    → (live_at new c + one_if (is_homed c (Some t)) ≡ live_at old c) × (zombies_at new c ≡ zombies_at old c)
went old new t change some c =
    let h = homes.live-left old new (as_task t) change refl some c in
    let live = h.0 in
    let zombies = h.1 in
    let a = one_of (t.home == c) in
    let b = none_of (t.home == c) in
    (omega (arith, live, a), omega (arith, zombies, b))

-- and where one moved
pub moved : (old new : Charges) (t : Thread) (to : ℕ) → ((k : ℕ) → home_at new k ≡ option_map (after_move t.home to k) (home_at old k)) → 0 < live_at old t.home → stands old to ≡ true → (c : ℕ)
    → (live_at new c + one_if (is_homed c (Some t)) ≡ live_at old c + one_if (is_homed c (Some (record t { home = to })))) × (zombies_at new c ≡ zombies_at old c)
moved old new t to change some up c =
    let live = homes.live-moved old new (as_task t) to change refl some up c in
    let zombies = homes.zombies-moved old new (as_task t) to change refl c in
    let a = one_of (t.home == c) in
    let b = one_of (to == c) in
    let d = none_of (t.home == c) in
    let e = none_of (to == c) in
    (omega (arith, live, a, b), omega (arith, zombies, d, e))

-- a thread's home has a live one
pub live_some : (s : Store) → IsStore s → (key : ℕ) (t : Thread) → thread_with s.threads key ≡ Some t → key < length s.threads.threads → 0 < live_at s.charges t.home
live_some s w key t there room =
    let e = count-set (is_homed t.home) s.threads.threads key None None room in
    let here : one_if (is_homed t.home (thread_with s.threads key)) ≡ 1 = ap (λ o. one_if (is_homed t.home o)) there ∙ ap one_if (same t.home) in
    let count = w.live t.home in
    let most = marks.most s t.home in
    omega (arith, e, here, count, most)
  where
    same : (n : ℕ) → (n == n) ≡ true
    same n = grind arith

-- more room for threads changes nothing
pub roomier : (s : Store) (threads : ThreadsByKey) → IsStore s → KeepsKeys s.threads threads → IsStore (record s { threads = threads })
roomier s threads w keeps = record {
  tasks = w.tasks;
  groups = w.groups;
  sessions = w.sessions;
  members = w.members;
  live = λ c.
      let a = w.live c in
      let b = count-pointwise (is_homed c) refl threads.threads s.threads.threads keeps.threads in
      let m = marked c in
      omega (arith, a, b, m);
  zombies = λ c. let a = w.zombies c in let m = marked c in omega (arith, a, m);
  all = let a = w.all in let b = count-pointwise is_some refl threads.threads s.threads.threads keeps.threads in omega (arith, a, b);
  marks = λ p e. w.marks p (sym (keeps.left p) ∙ e);
  ranks = w.ranks;
}
  where
    marked : (c : ℕ) → left_homed (record s { threads = threads }) c ≡ left_homed s c
    marked = marks.same s (record s { threads = threads }) keeps.left (λ k. refl)

pub roomier-threaded : (b : Numbering) (old new : ThreadsByKey) → IsThreaded b old → KeepsKeys old new → IsThreaded b new
roomier-threaded b old new w keeps = record { held = λ i. w.held i ∙ sym (ap is_some (keeps.threads i)) }

-- no thread is at a key without an identifier
pub vacant : (b : Numbering) (old new : ThreadsByKey) → IsThreaded b old → KeepsKeys old new → (key : ℕ) → identifier_at b key ≡ None → thread_with new key ≡ None
vacant b old new w keeps key fresh = keeps.threads key ∙ nothing (thread_with old key) (sym (w.held key) ∙ ap is_thread fresh)

-- another thread, or none, is at one key
pub changed : (s : Store) (b : Numbering) (charges : Charges) (threads : ThreadsByKey) → IsStore s → (key : ℕ) (t : Option Thread) → ((k : Kind) (i : ℕ) → uses_at b k i ≡ uses_at s.numbering k i)
    → threads.threads ≡ slice_set s.threads.threads key t → threads.left ≡ s.threads.left → key < length s.threads.threads
    → ((c : ℕ) → live_at charges c + one_if (is_homed c (thread_with s.threads key)) ≡ live_at s.charges c + one_if (is_homed c t)) → ((c : ℕ) → zombies_at charges c ≡ zombies_at s.charges c)
    → all_tasks charges + one_if (is_some (thread_with s.threads key)) ≡ all_tasks s.charges + one_if (is_some t)
    → AreRanks b s.tree → IsStore (record s { numbering = b; charges = charges; threads = threads })
changed s b charges threads w key t uses set left room live zombies all ranks = record {
  tasks = λ i. uses AsTask i ∙ w.tasks i;
  groups = λ i. uses Group i ∙ w.groups i;
  sessions = λ i. uses Session i ∙ w.sessions i;
  members = w.members;
  live = λ c.
      let a = w.live c in
      let e = count-set (is_homed c) s.threads.threads key t None room in
      let f = ap (count_by (is_homed c)) set in
      let d = live c in
      let m = marked c in
      omega (arith, a, e, f, d, m);
  zombies = λ c. let a = w.zombies c in let d = zombies c in let m = marked c in omega (arith, a, d, m);
  all =
      let a = w.all in
      let e = count-set is_some s.threads.threads key t None room in
      let f = ap (count_by is_some) set in
      omega (arith, a, e, f, all);
  marks = λ p e. w.marks p (ap (λ l. slice_index_or l p false) (sym left) ∙ e);
  ranks = ranks;
}
  where
    new : Store
    new = record s { numbering = b; charges = charges; threads = threads }

    marked : (c : ℕ) → left_homed new c ≡ left_homed s c
    marked = marks.same s new (λ k. ap (λ l. slice_index_or l k false) left) (λ k. refl)

-- the identifiers of threads are those at whose keys threads are
pub changed-threaded : (b c : Numbering) (old new : ThreadsByKey) → IsThreaded b old → (key : ℕ) (t : Option Thread)
    → new.threads ≡ slice_set old.threads key t → key < length old.threads → ((i : ℕ) → i ≢ key → identifier_at c i ≡ identifier_at b i)
    → is_thread (identifier_at c key) ≡ is_some t → IsThreaded c new
changed-threaded b c old new w key t set room others here = record { held = λ i. held i (cases_eq i key) }
  where
    held : (i : ℕ) → (i ≡ key) ⊎ (i ≢ key) → is_thread (identifier_at c i) ≡ is_some (thread_with new i)
    held i (inl same) =
        ap (λ j. is_thread (identifier_at c j)) same ∙ here
        ∙ sym (ap (λ j. is_some (thread_with new j)) same ∙ ap (λ l. is_some (slice_index_or l key None)) set ∙ ap is_some (get_or-set_same old.threads key t None room))
    held i (inr differs) =
        ap is_thread (others i differs) ∙ w.held i
        ∙ sym (ap (λ l. is_some (slice_index_or l i None)) set ∙ ap is_some (get_or-set_other old.threads key i t None differs))

-- a thread's identifier has no uses, when it comes and when it goes
pub unused-came : (b c : Numbering) (key space : ℕ) (numbers : List ℕ) → identifier_at b key ≡ None → identifier_at c key ≡ Some (thread_identifier space numbers)
    → ((i : ℕ) → i ≢ key → identifier_at c i ≡ identifier_at b i) → (k : Kind) (i : ℕ) → uses_at c k i ≡ uses_at b k i
unused-came b c key space numbers fresh named others k i = go (cases_eq i key)
  where
    none : (k : Kind) → uses k (thread_identifier space numbers) ≡ 0
    none AsTask = refl
    none Group = refl
    none Session = refl

    go : (i ≡ key) ⊎ (i ≢ key) → uses_at c k i ≡ uses_at b k i
    go (inl same) =
        ap (uses_at c k) same ∙ ap (λ o. option_map_or (uses k) o 0) named ∙ none k
        ∙ sym (ap (uses_at b k) same ∙ ap (λ o. option_map_or (uses k) o 0) fresh)
    go (inr differs) = ap (λ o. option_map_or (uses k) o 0) (others i differs)

pub unused-went : (b c : Numbering) (key : ℕ) → is_thread (identifier_at b key) ≡ true → identifier_at c key ≡ None
    → ((i : ℕ) → i ≢ key → identifier_at c i ≡ identifier_at b i) → (k : Kind) (i : ℕ) → uses_at c k i ≡ uses_at b k i
unused-went b c key thread gone others k i = go (cases_eq i key)
  where
    of : (o : Option Identifier) → is_thread o ≡ true → option_map_or (uses k) o 0 ≡ 0
    of None e = refl
    of (Some u) e = each k (u.tasks == 0) refl (u.groups == 0) refl (u.sessions == 0) refl e
      where
        zero_is : (n : ℕ) → (n == 0) ≡ true → n ≡ 0
        zero_is n e = grind (arith, e)

        each : (k : Kind) (x : Bool) → (u.tasks == 0) ≡ x → (y : Bool) → (u.groups == 0) ≡ y → (z : Bool) → (u.sessions == 0) ≡ z
            → not (not ((u.tasks == 0) && ((u.groups == 0) && (u.sessions == 0)))) ≡ true → uses k u ≡ 0
        each AsTask true xs y ys z zs e = zero_is u.tasks xs
        each Group true xs true ys z zs e = zero_is u.groups ys
        each Session true xs true ys true zs e = zero_is u.sessions zs
        each k false xs y ys z zs e =
            absurd (let z : false ≡ true = sym (ap (λ x. not (not (x && ((u.groups == 0) && (u.sessions == 0))))) xs) ∙ e in cc)
        each k true xs false ys z zs e =
            absurd (let z : false ≡ true = sym (ap (λ x. not (not (x && ((u.groups == 0) && (u.sessions == 0))))) xs ∙ ap (λ y. not (not (true && (y && (u.sessions == 0))))) ys) ∙ e in cc)
        each k true xs true ys false zs e =
            absurd (let z : false ≡ true = sym (ap (λ x. not (not (x && ((u.groups == 0) && (u.sessions == 0))))) xs ∙ ap (λ y. not (not (true && (y && (u.sessions == 0))))) ys ∙ ap (λ z. not (not (true && (true && z)))) zs) ∙ e in cc)

    go : (i ≡ key) ⊎ (i ≢ key) → uses_at c k i ≡ uses_at b k i
    go (inl same) =
        ap (uses_at c k) same ∙ ap (λ o. option_map_or (uses k) o 0) gone
        ∙ sym (ap (uses_at b k) same ∙ of (identifier_at b key) thread)
    go (inr differs) = ap (λ o. option_map_or (uses k) o 0) (others i differs)

-- the identifiers that are left are what they were
pub less-one : (b c : Numbering) (key : ℕ) → identifier_at c key ≡ None → ((i : ℕ) → i ≢ key → identifier_at c i ≡ identifier_at b i)
    → ((s : ℕ) → namespace_at c s ≡ swept_at (record b { names = c.names }) s) → c.order ≡ filter (λ p. is_there c p.1) b.order → c.pid_max ≡ b.pid_max → IsLess b c
less-one b c key gone others namespaces order bound = record { names = λ i u e. names i u e (cases_eq i key); namespaces = namespaces; order = order; bound = bound }
  where
    names : (i : ℕ) (u : Identifier) → bare_at c i ≡ Some u → (i ≡ key) ⊎ (i ≢ key) → bare_at b i ≡ Some u
    names i u e (inl same) = absurd (let z : None ≡ Some u = sym (ap (option_map bare) (ap (identifier_at c) same ∙ gone)) ∙ e in cc)
    names i u e (inr differs) = sym (ap (option_map bare) (others i differs)) ∙ e
