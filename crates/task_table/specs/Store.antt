-- What a contract sees of `Tasks`: five parts by key. A task has the key of its identifier.
use Rattle.std.specs.Prelude.{◌≡◌, ◌≢◌, ℕ, ◌+◌, ◌-◌, ◌==◌, ◌&&◌, not, Bool, true, false, List, count_by, length, Option, Some, None, IsSome, option_map, option_and_then, is_none, is_some, unwrap_or, find, map, if◌then◌else◌}
use Rattle.std.specs.Option.{option_map_or}
use Rattle.pid_types.specs.declared.call.Kind.{Kind}
use Rattle.pid_types.specs.declared.call.Kind.TheVariants.{Task as AsTask, Group, Session}
use Rattle.pid_numbers.specs.Numbering.{Numbering, Identifier, identifier_at, namespace_at, path_at, draw_in, is_there, is_thread, is_used, moved, number_of, uses, swept_at}
use Rattle.std.specs.List.{filter}
use Rattle.task_tree.specs.declared.Task.{Task}
use Rattle.task_tree.specs.Tree.{TreeOfTasks, task_at, parent_of, rank_of, has_live, lives}
use Rattle.groups_sessions.specs.Membership.{Membership, membership_at}
use Rattle.process_threads.specs.declared.Thread.{Thread}
use Rattle.process_threads.specs.Threads.{ThreadsByKey, thread_with, left_at, KeepsKeys}
use Rattle.pids_charge.specs.Sums.{sum_below}
use Rattle.pids_charge.specs.Charges.{Charges, Home, home_at, after_move, kept, ChangesHome, live_at, zombies_at, all_tasks}

-- the identifiers and namespaces, the tree of tasks, their groups and sessions, the control groups, and the threads beside first ones
pub record Store : Type 0 where
  pub numbering : Numbering
  pub tree : TreeOfTasks
  pub members : List (Option Membership)
  pub charges : Charges
  pub threads : ThreadsByKey

-- how many uses of the kind the identifier has
abbrev pub uses_at : Numbering → Kind → ℕ → ℕ
uses_at b kind i = option_map_or (uses kind) (identifier_at b i) 0

-- whether the two kinds are one
abbrev pub is_kind : Kind → Kind → Bool
is_kind AsTask AsTask = true
is_kind Group Group = true
is_kind Session Session = true
is_kind _ _ = false

abbrev pub one_if : Bool → ℕ
one_if b = if b then 1 else 0

abbrev pub is_in_group : ℕ → Option Membership → Bool
is_in_group g m = option_map_or (λ m. m.group == g) m false

abbrev pub is_in_session : ℕ → Option Membership → Bool
is_in_session g m = option_map_or (λ m. m.session == g) m false

-- whether a live task has the control group's key as its home
abbrev pub lives_in : ℕ → Option Task → Bool
lives_in c t = option_map_or (λ t. (t.home == c) && lives t) t false

-- the same of a zombie
abbrev pub waits_in : ℕ → Option Task → Bool
waits_in c t = option_map_or (λ t. (t.home == c) && not (lives t)) t false

-- whether the thread has the control group's key as its home
abbrev pub is_homed : ℕ → Option Thread → Bool
is_homed c t = option_map_or (λ t. t.home == c) t false

-- how many threads beside first ones have it
abbrev pub threads_homed : ThreadsByKey → ℕ → ℕ
threads_homed threads c = count_by (is_homed c) threads.threads

-- how many threads there are beside first ones
abbrev pub all_threads : ThreadsByKey → ℕ
all_threads threads = count_by is_some threads.threads

-- 1 where the task with the key lives, has that home, and its first thread has left
abbrev pub left_in : Store → ℕ → ℕ → ℕ
left_in s c k = one_if (left_at s.threads k && lives_in c (task_at s.tree k))

-- how many live tasks whose first thread has left have the control group's key as their home
abbrev pub left_homed : Store → ℕ → ℕ
left_homed s c = sum_below (length s.tree.tasks) (left_in s c)

-- the home with one such task less
abbrev pub home_without : Task → Home → Home
home_without t h = if lives t then record h { live = h.live - 1 } else record h { zombies = h.zombies - 1 }

-- the parts agree
pub record IsStore (s : Store) : Type 0 where
  -- an identifier's uses are the task at its key, the members of the group and the tasks of the session
  pub tasks : (i : ℕ) → uses_at s.numbering AsTask i ≡ one_if (is_some (task_at s.tree i))
  pub groups : (i : ℕ) → uses_at s.numbering Group i ≡ count_by (is_in_group i) s.members
  pub sessions : (i : ℕ) → uses_at s.numbering Session i ≡ count_by (is_in_session i) s.members
  pub members : (k : ℕ) → is_some (membership_at s.members k) ≡ is_some (task_at s.tree k)
  -- a control group's tasks are those whose home it is: live processes by their first threads, other threads, and zombies. A live
  -- process whose first thread has left is charged as a zombie is
  pub live : (c : ℕ) → live_at s.charges c + left_homed s c ≡ count_by (lives_in c) s.tree.tasks + threads_homed s.threads c
  pub zombies : (c : ℕ) → zombies_at s.charges c ≡ count_by (waits_in c) s.tree.tasks + left_homed s c
  pub all : all_tasks s.charges ≡ count_by is_some s.tree.tasks + all_threads s.threads
  -- only of a live process is it said that its first thread has left
  pub marks : (p : ℕ) → left_at s.threads p ≡ true → has_live (task_at s.tree p) ≡ true
  -- a child that has ended waits by its number in its parent's namespace
  pub ranks : (k p r : ℕ) → rank_of s.tree k ≡ Some (p, r) → (u : Identifier) → identifier_at s.numbering p ≡ Some u
      → number_of s.numbering k u.space ≡ Some r

-- an identifier without a use is a thread's
pub record IsThreaded (b : Numbering) (threads : ThreadsByKey) : Type 0 where
  pub held : (i : ℕ) → is_thread (identifier_at b i) ≡ is_some (thread_with threads i)

-- each process is one thread, its first, which has not left
pub record HasNoThreads (threads : ThreadsByKey) : Type 0 where
  pub none : (k : ℕ) → thread_with threads k ≡ None
  pub stays : (p : ℕ) → left_at threads p ≡ false

-- something uses each identifier: none is a thread's
abbrev pub AreUsed : Numbering → Type 0
AreUsed b = (i : ℕ) (u : Identifier) → identifier_at b i ≡ Some u → is_used u ≡ true

-- whether something uses the identifier with the key
abbrev pub is_used_at : Numbering → ℕ → Bool
is_used_at b i = option_map_or is_used (identifier_at b i) false

-- something uses the identifier with the key
abbrev pub IsUsedAt : Numbering → ℕ → Type 0
IsUsedAt b i = is_used_at b i ≡ true

-- the thread with the key is this one
abbrev pub IsThread : ThreadsByKey → ℕ → Thread → Type 0
IsThread threads key thread = thread_with threads key ≡ Some thread

-- the numbers are those that the namespace, which is there, and those around it give next, innermost first
pub record AreNextNumbers (b : Numbering) (space : ℕ) (numbers : List ℕ) : Type 0 where
  pub there : IsSome (namespace_at b space)
  pub all : find (λ s. is_none (draw_in b s)) (path_at b space) ≡ None
  pub planned : numbers ≡ map (λ s. unwrap_or (draw_in b s) 0) (path_at b space)

-- a live task's charge is an ended one's from now on
abbrev pub EndsCharge : Charges → Charges → ℕ → Type 0
EndsCharge old new c =
    ChangesHome old new c (option_map (λ (h : Home). record h { live = h.live - 1; zombies = h.zombies + 1 }) (home_at old c))

-- a live task's charge is gone
pub record Uncharges (old new : Charges) (c : ℕ) : Type 0 where
  pub home : ChangesHome old new c (option_and_then (λ (h : Home). kept (record h { live = h.live - 1 })) (home_at old c))
  pub tasks : all_tasks new + 1 ≡ all_tasks old

-- a live task's charge went from one home to another
pub record MovesCharge (old new : Charges) (from to : ℕ) : Type 0 where
  pub controls : new.controls ≡ old.controls
  pub homes : (k : ℕ) → home_at new k ≡ option_map (after_move from to k) (home_at old k)

-- a home to which a live task comes where its key is the one
abbrev pub with_live : ℕ → ℕ → Home → Home
with_live to k h = record h { live = h.live + one_if (k == to) }

-- what is left at a key where a process that was charged as a zombie in one home is charged as a live one in another
abbrev pub after_return : ℕ → ℕ → ℕ → Home → Option Home
after_return from to k h = if k == from then kept (record (with_live to k h) { zombies = h.zombies - 1 }) else Some (with_live to k h)

-- a zombie's charge in one home became a live task's in another
pub record ReturnsCharge (old new : Charges) (from to : ℕ) : Type 0 where
  pub controls : new.controls ≡ old.controls
  pub homes : (k : ℕ) → home_at new k ≡ option_and_then (after_return from to k) (home_at old k)

-- the identifiers of threads are those that were
abbrev pub KeepsThreads : Numbering → Numbering → Type 0
KeepsThreads old new = (i : ℕ) → is_thread (identifier_at new i) ≡ is_thread (identifier_at old i)

-- the identifier without its uses
abbrev pub bare : Identifier → Identifier
bare u = record u { tasks = 0; groups = 0; sessions = 0 }

-- the identifier with the key, without its uses
abbrev pub bare_at : Numbering → ℕ → Option Identifier
bare_at b i = option_map bare (identifier_at b i)

-- the identifiers that are left are what they were, and so are the namespaces but those that have fallen and in which no number is
-- left in use
pub record IsLess (old new : Numbering) : Type 0 where
  pub names : (i : ℕ) (u : Identifier) → bare_at new i ≡ Some u → bare_at old i ≡ Some u
  pub namespaces : (s : ℕ) → namespace_at new s ≡ swept_at (record old { names = new.names }) s
  pub order : new.order ≡ filter (λ p. is_there new p.1) old.order
  pub bound : new.pid_max ≡ old.pid_max

-- nothing is different but how much room there is
pub record IsSame (old new : Store) : Type 0 where
  pub numbering : new.numbering ≡ old.numbering
  pub charges : new.charges ≡ old.charges
  pub tasks : (k : ℕ) → task_at new.tree k ≡ task_at old.tree k
  pub parents : (k : ℕ) → parent_of new.tree k ≡ parent_of old.tree k
  pub ranks : (k : ℕ) → rank_of new.tree k ≡ rank_of old.tree k
  pub members : (k : ℕ) → membership_at new.members k ≡ membership_at old.members k
  pub threads : new.threads ≡ old.threads

-- what a new task with the key is in: what the one that it comes from is in, or else a group and a session of its own
abbrev pub joins : List (Option Membership) → Option ℕ → ℕ → Option Membership
joins members from key = option_map_or (membership_at members) from (Some (record { group = key; session = key }))

-- the use that a membership is of an identifier, as a group or as a session
abbrev pub use_of : Option Membership → Kind → ℕ → ℕ
use_of m AsTask i = 0
use_of m Group i = one_if (is_in_group i m)
use_of m Session i = one_if (is_in_session i m)

-- a new live task has come, with an identifier of its own
pub record Begins (old new : Store) (key : ℕ) (from : Option ℕ) (task : Task) (identifier : Identifier) : Type 0 where
  pub fresh : (task_at old.tree key ≡ None) × (identifier_at old.numbering key ≡ None)
  pub named : bare_at new.numbering key ≡ Some (bare identifier)
  pub names : (i : ℕ) → i ≢ key → bare_at new.numbering i ≡ bare_at old.numbering i
  pub bound : new.numbering.pid_max ≡ old.numbering.pid_max
  pub begun : task_at new.tree key ≡ Some task
  pub tasks : (k : ℕ) → k ≢ key → task_at new.tree k ≡ task_at old.tree k
  pub parent : parent_of new.tree key ≡ from
  pub parents : (k : ℕ) → k ≢ key → parent_of new.tree k ≡ parent_of old.tree k
  pub ranks : (k : ℕ) → rank_of new.tree k ≡ rank_of old.tree k
  pub member : membership_at new.members key ≡ joins old.members from key
  pub members : (k : ℕ) → k ≢ key → membership_at new.members k ≡ membership_at old.members k
  pub home : ChangesHome old.charges new.charges task.home
      (option_map (λ (h : Home). record h { live = h.live + 1 }) (home_at old.charges task.home))
  pub threads : new.threads ≡ old.threads

-- a new thread has come beside others of its process, with an identifier of its own
pub record BeginsThread (old new : Store) (key : ℕ) (thread : Thread) (identifier : Identifier) : Type 0 where
  pub fresh : (thread_with old.threads key ≡ None) × (identifier_at old.numbering key ≡ None)
  pub named : identifier_at new.numbering key ≡ Some identifier
  pub names : (i : ℕ) → i ≢ key → identifier_at new.numbering i ≡ identifier_at old.numbering i
  pub namespaces : (s : ℕ) → namespace_at new.numbering s
      ≡ option_map (moved (path_at old.numbering identifier.space) identifier.numbers s) (namespace_at old.numbering s)
  pub order : new.numbering.order ≡ old.numbering.order
  pub bound : new.numbering.pid_max ≡ old.numbering.pid_max
  pub begun : IsThread new.threads key thread
  pub threads : (k : ℕ) → k ≢ key → thread_with new.threads k ≡ thread_with old.threads k
  pub left : (p : ℕ) → left_at new.threads p ≡ left_at old.threads p
  pub home : ChangesHome old.charges new.charges thread.home
      (option_map (λ (h : Home). record h { live = h.live + 1 }) (home_at old.charges thread.home))
  pub tree : new.tree ≡ old.tree
  pub members : new.members ≡ old.members

-- nothing is different but the room for threads
pub record IsSameWithRoom (old new : Store) : Type 0 where
  pub same : new ≡ record old { threads = new.threads }
  pub threads : KeepsKeys old.threads new.threads

-- the parent of the task with the key, if it has one, sees it in its own namespace
abbrev pub IsVisibleToParent : Store → ℕ → Type 0
IsVisibleToParent s key =
    (p : ℕ) → parent_of s.tree key ≡ Some p
    → (u : Identifier) × (identifier_at s.numbering p ≡ Some u) × IsSome (number_of s.numbering key u.space)

-- nothing but the parts that are named has changed
abbrev pub ChangesNumbering : Store → Store → Type 0
ChangesNumbering old new = new ≡ record old { numbering = new.numbering }

abbrev pub ChangesCharges : Store → Store → Type 0
ChangesCharges old new = new ≡ record old { charges = new.charges }

abbrev pub ChangesTree : Store → Store → Type 0
ChangesTree old new = new ≡ record old { tree = new.tree }

abbrev pub ChangesThreads : Store → Store → Type 0
ChangesThreads old new = new ≡ record old { charges = new.charges; threads = new.threads }
