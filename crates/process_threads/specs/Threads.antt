-- What a contract sees of `Threads`: by key the threads beside first ones, and which first threads have left.
use Rattle.std.specs.Prelude.{◌≡◌, ◌≤◌, ℕ, Bool, false, List, length, Option, None, option_map, map, slice_index_or}
use Rattle.process_threads.specs.declared.Thread.{Thread}

pub record ThreadsByKey : Type 0 where
  -- the thread with each key
  pub threads : List (Option Thread)
  -- whether the first thread of the process with each key has left
  pub left : List Bool

-- the thread with the key
abbrev pub thread_with : ThreadsByKey → ℕ → Option Thread
thread_with t k = slice_index_or t.threads k None

-- the process of the thread with the key
abbrev pub thread_process : ThreadsByKey → ℕ → Option ℕ
thread_process t k = option_map (λ thread. thread.process) (thread_with t k)

-- the process of each thread
abbrev pub processes_of : ThreadsByKey → List (Option ℕ)
processes_of t = map (option_map (λ thread. thread.process)) t.threads

-- whether the first thread of the process with the key has left
abbrev pub left_at : ThreadsByKey → ℕ → Bool
left_at t p = slice_index_or t.left p false

-- each key has what it had, and there is no less room
pub record KeepsKeys (old new : ThreadsByKey) : Type 0 where
  pub threads : (k : ℕ) → thread_with new k ≡ thread_with old k
  pub left : (p : ℕ) → left_at new p ≡ left_at old p
  pub longer : length old.threads ≤ length new.threads
