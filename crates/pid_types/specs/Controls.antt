-- Control groups: their chains, and how many tasks they hold.
use Rattle.std.specs.Prelude.{ℕ, ◌+◌, Bool, false, ◌==◌, nat_lt, List, Option, find, filter, length, option_and_then}
use Rattle.std.specs.Option.{option_map_or}
use Rattle.pid_types.specs.declared.plain.Control.{Control}
use Rattle.pid_types.specs.Bounds.{deepest_control}
use Rattle.pid_types.specs.Chains.{climb, contains}
use Rattle.pid_types.specs.State.{State}

-- the control group with the id
abbrev pub control_at : List Control → ℕ → Option Control
control_at controls id = find (λ c. c.id == id) controls

-- the id of the control group that the control group is in
abbrev pub parent_control : List Control → ℕ → Option ℕ
parent_control controls id = option_and_then (λ c. c.parent) (control_at controls id)

-- the control group and those above it, nearest first
unfoldable pub control_path : List Control → ℕ → List ℕ
control_path controls id = climb (parent_control controls) (deepest_control + 1) id

-- whether the first control group is the second one, or below it
abbrev pub is_below : List Control → ℕ → ℕ → Bool
is_below controls lower upper = contains (control_path controls lower) upper

-- the tasks in the control group's subtree, zombies and threads among them: pids.current of the kernel's cgroup-v2 document, "The
-- number of processes currently in the cgroup and its descendants", where a process is any task, as TIDs are what it counts
unfoldable pub count : State → ℕ → ℕ
count state c =
    length (filter (λ t. is_below state.controls t.home c) state.threads)
    + length (filter (λ row. is_below state.controls row.home c) state.rows)

-- whether the control group has a limit below the number
abbrev pub is_limited_below : State → ℕ → ℕ → Bool
is_limited_below state n c =
    option_map_or (λ limit. nat_lt limit n) (option_and_then (λ g. g.limit) (control_at state.controls c)) false

-- the nearest control group whose limit one more task would pass: pids.max of the cgroup-v2 document, "These will return -EAGAIN
-- if the creation of a new process would cause a cgroup policy to be violated", where "These" are fork() and clone()
unfoldable pub passed_limit : State → ℕ → Option ℕ
passed_limit state home = find (λ c. is_limited_below state (count state c + 1) c) (control_path state.controls home)
