-- Names: their numbers in namespaces, and the rows that they name.
use Rattle.std.specs.Prelude.{ℕ, ◌+◌, ◌-◌, Bool, true, false, ◌&&◌, ◌==◌, List, [], ◌∷◌, ◌++◌, length, map, reverse, Option, Some, None, if◌then◌else◌, slice_index, is_some, unwrap_or, find, filter_map, flat_map, option_and_then}
use Rattle.std.specs.Option.{option_eq}
use Rattle.std.specs.Cmp.Lexicographic.{pointwise}
use Rattle.pid_types.specs.declared.plain.Name.{Name}
use Rattle.pid_types.specs.declared.plain.Row.{Row}
use Rattle.pid_types.specs.declared.plain.Space.{Space}
use Rattle.pid_types.specs.declared.plain.Life.TheVariants.{Live, Zombie}
use Rattle.pid_types.specs.Bounds.{deepest_space}
use Rattle.pid_types.specs.Chains.{climb, contains}
use Rattle.pid_types.specs.State.{State}

-- the namespace with the id
abbrev pub space_at : List Space → ℕ → Option Space
space_at spaces id = find (λ s. s.id == id) spaces

-- the id of the namespace that the namespace is in
abbrev pub parent_space : List Space → ℕ → Option ℕ
parent_space spaces id = option_and_then (λ s. s.parent) (space_at spaces id)

-- the namespace and those around it, innermost first
unfoldable pub path_up : List Space → ℕ → List ℕ
path_up spaces id = climb (parent_space spaces) (deepest_space + 1) id

-- whether the first namespace is the second one, or inside it
abbrev pub is_within : List Space → ℕ → ℕ → Bool
is_within spaces inner outer = contains (path_up spaces inner) outer

-- how many namespaces are around it
unfoldable pub level : List Space → ℕ → ℕ
level spaces id = length (path_up spaces id) - 1

-- the number that stands where the id does
abbrev pub beside : ℕ → List ℕ → List ℕ → Option ℕ
beside s [] ns = None
beside s (t ∷ ts) [] = None
beside s (t ∷ ts) (n ∷ ns) = if t == s then Some n else beside s ts ns

-- the numbers from the place of the id on
abbrev pub beside_from : ℕ → List ℕ → List ℕ → List ℕ
beside_from s [] ns = []
beside_from s (t ∷ ts) [] = []
beside_from s (t ∷ ts) (n ∷ ns) = if t == s then n ∷ ns else beside_from s ts ns

-- the number of the name in the namespace, one for each level from the root on: pid_namespaces(7), "a process has one process ID
-- in each of the layers of the PID namespace hierarchy in which is visible"
unfoldable pub number : List Space → Name → ℕ → Option ℕ
number spaces name s = beside s (reverse (path_up spaces name.space)) name.numbers.items

-- the same, or 0 where it is not visible there, as getppid(2) answers it
abbrev pub number_or_zero : List Space → Name → ℕ → ℕ
number_or_zero spaces name s = unwrap_or (number spaces name s) 0

-- whether the name has the number in the namespace
abbrev pub is_numbered : List Space → Name → ℕ → ℕ → Bool
is_numbered spaces name s n = option_eq ◌==◌ (number spaces name s) (Some n)

-- the numbers of the name from the namespace inwards: NSpid of proc_pid_status(5)
unfoldable pub numbers_from : List Space → Name → ℕ → List ℕ
numbers_from spaces name s = beside_from s (reverse (path_up spaces name.space)) name.numbers.items

-- the number in the root namespace
abbrev pub root_number : Name → ℕ
root_number name = slice_index name.numbers.items 0

-- whether two names are one
abbrev pub same_name : Name → Name → Bool
same_name a b = (a.space == b.space) && pointwise ◌==◌ a.numbers.items b.numbers.items

-- whether the name is the parent of the row
abbrev pub is_parent : Name → Row → Bool
is_parent name row = option_eq same_name row.parent (Some name)

-- whether the task has not ended
abbrev pub is_live : Row → Bool
is_live row = elim row.life [ Live ↦ true | Zombie ended ↦ false ]

-- the task with the root number, zombies among them
abbrev pub row_at : List Row → ℕ → Option Row
row_at rows n = find (λ row. root_number row.name == n) rows

-- the live task with the root number
abbrev pub live_row : List Row → ℕ → Option Row
live_row rows n = find (λ row. (root_number row.name == n) && is_live row) rows

-- the task with the number in the namespace, zombies among them
unfoldable pub task_numbered : State → ℕ → ℕ → Option Row
task_numbered state s n = find (λ row. is_numbered state.spaces row.name s n) state.rows

-- whether the task is visible in the namespace: pid_namespaces(7), "a process is visible to other processes in its PID namespace,
-- and to the processes in each direct ancestor PID namespace"
abbrev pub is_member : List Space → ℕ → Row → Bool
is_member spaces s row = is_some (number spaces row.name s)

-- the names that some row uses, as process, as group or as session: POSIX, "Process ID Reuse"
abbrev pub names_in_use : List Row → List Name
names_in_use rows = flat_map (λ row. row.name ∷ row.group ∷ row.session ∷ []) rows

-- the names in use: those, and the names of the threads beside the first ones: clone(2), "The threads within a group can be
-- distinguished by their (system-wide) unique thread IDs (TID)"
abbrev pub in_use : State → List Name
in_use state = map (λ t. t.name) state.threads ++ names_in_use state.rows

-- the numbers in use in the namespace
unfoldable pub taken : State → ℕ → List ℕ
taken state s = filter_map (λ name. number state.spaces name s) (in_use state)

-- the row changed, if the name is its own
abbrev pub on_row : Name → (Row → Row) → Row → Row
on_row name change row = if same_name row.name name then change row else row

-- the state with the named task's row changed
unfoldable pub with_row : State → Name → (Row → Row) → State
with_row state name change = record state { rows = map (on_row name change) state.rows }
