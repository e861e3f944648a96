-- What the end of processes makes of their threads, and of the control groups that these were in.
use Rattle.std.specs.Prelude.{◌≡◌, ℕ, ◌==◌, Bool, true, ◌&&◌, not, Option, Some, None, IsSome, if◌then◌else◌}
use Rattle.pids_charge.specs.Charges.{Charges, Home, home_at}
use Rattle.process_threads.specs.declared.Thread.{Thread}
use Rattle.process_threads.specs.Threads.{ThreadsByKey, thread_with, left_at}
use Rattle.task_table.specs.Store.{Store, HasNoThreads}

-- the thread, if its process does not end
abbrev pub unless_ends : (ℕ → Bool) → Option Thread → Option Thread
unless_ends ends None = None
unless_ends ends (Some t) = if ends t.process then None else Some t

-- the threads of the processes that end are gone, and so are their marks: exit_group(2), "terminates .. all threads in the calling
-- process's thread group"
pub record EndsProcesses (ends : ℕ → Bool) (old new : ThreadsByKey) : Type 0 where
  pub threads : (k : ℕ) → thread_with new k ≡ unless_ends ends (thread_with old k)
  pub left : (p : ℕ) → left_at new p ≡ (left_at old p && not (ends p))

-- where each process was one thread, each is one still
abbrev pub StaysAlone : Store → Store → Type 0
StaysAlone old new = HasNoThreads old.threads → HasNoThreads new.threads

-- the process with the key has no mark any more, and nothing else of threads has changed
pub record Unmarks (key : ℕ) (old new : ThreadsByKey) : Type 0 where
  pub threads : new.threads ≡ old.threads
  pub left : (p : ℕ) → left_at new p ≡ (left_at old p && not (p == key))

-- the control groups are the same, and the keys that are left are of the same ones. A control group's own key is left
pub record KeepsHomes (old new : Charges) : Type 0 where
  pub controls : new.controls ≡ old.controls
  pub ids : (c : ℕ) (h : Home) → home_at new c ≡ Some h → (g : Home) × (home_at old c ≡ Some g) × (g.id ≡ h.id) × (g.stands ≡ h.stands)
  pub standing : (c : ℕ) (g : Home) → home_at old c ≡ Some g → g.stands ≡ true → IsSome (home_at new c)
