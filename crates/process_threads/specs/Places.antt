-- What a key has in memory, as the thread that it says.
use Rattle.std.specs.Prelude.{◌≡◌, ℕ, ◌<◌, ◌≤◌, Bool, List, [], ◌∷◌, length, Option, Some, option_map, is_some, count_by}
use Rattle.member_lists.specs.Owners.{owner_of}
use Rattle.process_threads.specs.declared.Thread.{Thread}
use Rattle.process_threads.specs.declared.Place.{Place}

-- the thread of a process with what a place has
abbrev pub thread_in : Place → ℕ → Thread
thread_in place process = record { process = process; children_space = place.children_space; home = place.home }

-- the thread with each key, by its process and its place
abbrev pub threads_in : List (Option ℕ) → List Place → List (Option Thread)
threads_in [] places = []
threads_in (process ∷ processes) [] = []
threads_in (process ∷ processes) (place ∷ places) = option_map (thread_in place) process ∷ threads_in processes places

-- each key has a place, and the threads are counted
pub record AreThreads (processes : List (Option ℕ)) (places : List Place) (left : List Bool) (count : ℕ) : Type 0 where
  pub rooms : length places ≡ length processes
  pub left_rooms : length left ≡ length processes
  pub few : length processes ≤ 1073741824
  -- the process of a thread has a key in range
  pub known : (k p : ℕ) → owner_of processes k ≡ Some p → p < length processes
  pub counted : count ≡ count_by is_some processes
