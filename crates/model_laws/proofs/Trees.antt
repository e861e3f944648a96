-- The trees of namespaces and control groups, and rows by their root numbers.
use Rattle.model_laws.proofs.Words.{◌≡◌, ℕ, true, not, ◌&&◌, ◌||◌, ◌==◌, List, map, Some, None, ap, eqb-true, and_parts, caller_of, has_left, has_thread, process_at, process_numbered, Name, Row, Space, Thread, Control, space_at, parent_space, path_up, root_number, row_at, is_live, live_row, control_at, parent_control, control_path, IsIn, IsRising, IsWellNumbered, IsTreeOfSpaces, IsTreeOfControls, State, IsCoherent, number, task_numbered, is_numbered, Bool, ◌∙◌, is_thread_of, and_from}
use Rattle.model_laws.proofs.Lists.{find-Some, find-only, some_passes, list_any-from_one}
use Rattle.model_laws.proofs.Chains.{Stops-at_root, IsIn-climb_first, climb_trans, climb_antisym}
use Rattle.model_laws.proofs.Rising.{unique_key, find-key, find-key_at}
use Rattle.model_laws.proofs.Forests.{at-listed, root_parent, path_to_root, chain_listed}
use Rattle.model_laws.proofs.Names.{own_in_use, same_name-true, is_numbered-true, is_numbered-from, same_name-refl}

-- ---- namespaces

-- a namespace that is there is found by its id
pub space_at-listed : (spaces : List Space) → IsTreeOfSpaces spaces → (s : Space) → IsIn s spaces → space_at spaces s.id ≡ Some s
space_at-listed spaces tree s i = at-listed Space (λ t. t.id) (λ t. t.parent) (path_up spaces) spaces tree s i

-- what is found is there, and has the id
pub space_at-Some : (spaces : List Space) (id : ℕ) (s : Space) → space_at spaces id ≡ Some s → IsIn s spaces × (s.id ≡ id)
space_at-Some spaces id s h = find-key_at (λ (t : Space). t.id) spaces id s h

-- the root has no parent
pub root_space_parent : (spaces : List Space) → IsTreeOfSpaces spaces → parent_space spaces 0 ≡ None
root_space_parent spaces tree = root_parent Space (λ t. t.id) (λ t. t.parent) (path_up spaces) spaces tree

-- the id's path ends at the root
abbrev pub IsOnTree : List Space → ℕ → Type 0
IsOnTree spaces id = IsIn 0 (path_up spaces id)

-- a namespace that is there is on the tree
pub IsOnTree-listed : (spaces : List Space) → IsTreeOfSpaces spaces → (id : ℕ) (s : Space) → space_at spaces id ≡ Some s → IsOnTree spaces id
IsOnTree-listed spaces tree id s h = path_to_root Space (λ t. t.id) (λ t. t.parent) (path_up spaces) spaces tree id s h

-- a path begins with its namespace
pub path_first : (spaces : List Space) (id : ℕ) → IsIn id (path_up spaces id)
unfolding path_up
path_first spaces id = IsIn-climb_first (parent_space spaces) 32 id

-- what is around a namespace around is around
pub path_trans : (spaces : List Space) → IsTreeOfSpaces spaces → (id x y : ℕ) → IsOnTree spaces id → IsIn x (path_up spaces id)
    → IsIn y (path_up spaces x) → IsIn y (path_up spaces id)
unfolding path_up
path_trans spaces tree id x y on i j =
    climb_trans (parent_space spaces) 33 id x y (Stops-at_root (parent_space spaces) 33 id (root_space_parent spaces tree) on) i j

-- two namespaces around each other are one
pub path_antisym : (spaces : List Space) → IsTreeOfSpaces spaces → (id x : ℕ) → IsOnTree spaces id → IsIn x (path_up spaces id)
    → IsIn id (path_up spaces x) → x ≡ id
unfolding path_up
path_antisym spaces tree id x on i j =
    climb_antisym (parent_space spaces) 33 id x (Stops-at_root (parent_space spaces) 33 id (root_space_parent spaces tree) on) i j

-- a well numbered name's own namespace is on the tree
pub IsOnTree-name : (spaces : List Space) (pid_max : ℕ) → IsTreeOfSpaces spaces → (a : Name) → IsWellNumbered spaces pid_max a
    → IsOnTree spaces a.space
IsOnTree-name spaces pid_max tree a well = let l = well.listed a.space (path_first spaces a.space) in IsOnTree-listed spaces tree a.space l.0 l.1

-- all namespaces on a path to the root are there
pub path_listed : (spaces : List Space) → IsTreeOfSpaces spaces → (id x : ℕ) → IsOnTree spaces id → IsIn x (path_up spaces id)
    → (s : Space) × (space_at spaces x ≡ Some s)
unfolding path_up
path_listed spaces tree id x on i = chain_listed Space (λ t. t.id) (λ t. t.parent) (path_up spaces) spaces tree 33 id x on i

-- ---- control groups

-- what is found is there, and has the id
pub control_at-Some : (controls : List Control) (id : ℕ) (c : Control) → control_at controls id ≡ Some c → IsIn c controls × (c.id ≡ id)
control_at-Some controls id c h = find-key_at (λ (d : Control). d.id) controls id c h

-- the root has no parent
pub root_control_parent : (controls : List Control) → IsTreeOfControls controls → parent_control controls 0 ≡ None
root_control_parent controls tree = root_parent Control (λ d. d.id) (λ d. d.parent) (control_path controls) controls tree

-- a control group that is there has a path to the root
pub control_to_root : (controls : List Control) → IsTreeOfControls controls → (id : ℕ) (c : Control) → control_at controls id ≡ Some c → IsIn 0 (control_path controls id)
control_to_root controls tree id c h = path_to_root Control (λ d. d.id) (λ d. d.parent) (control_path controls) controls tree id c h

-- ---- rows by their root numbers

-- a row is found by its root number
pub row_at-listed : (rows : List Row) → IsRising (map (λ r. root_number r.name) rows) → (row : Row) → IsIn row rows
    → row_at rows (root_number row.name) ≡ Some row
row_at-listed rows rise row i = find-key (λ (r : Row). root_number r.name) rows rise row i

-- what is found is one of the rows, and has the number
pub row_at-Some : (rows : List Row) (n : ℕ) (row : Row) → row_at rows n ≡ Some row → IsIn row rows × (root_number row.name ≡ n)
row_at-Some rows n row h = find-key_at (λ (r : Row). root_number r.name) rows n row h

-- two rows of one name are one
pub same_row : (rows : List Row) → IsRising (map (λ r. root_number r.name) rows) → (a b : Row) → IsIn a rows → IsIn b rows → a.name ≡ b.name → a ≡ b
same_row rows rise a b i j e = unique_key (λ (r : Row). root_number r.name) rows rise a b i j (ap root_number e)

-- what is found live is one of the rows, has the number, and lives
pub live_row-Some : (rows : List Row) (n : ℕ) (row : Row) → live_row rows n ≡ Some row
    → IsIn row rows × (root_number row.name ≡ n) × (is_live row ≡ true)
live_row-Some rows n row h =
    let r = find-Some (λ (r : Row). (root_number r.name == n) && is_live r) rows row h in
    let t = and_parts (root_number row.name == n) (is_live row) r.1 in
    (r.0, eqb-true (root_number row.name) n t.0, t.1)

-- a process with such a thread has one
pub has_thread-true : (state : State) (test : Name → Bool) (row : Row) → has_thread state test row ≡ true
    → (t : Thread) × IsIn t state.threads × (test t.name ≡ true) × (t.process ≡ row.name)
has_thread-true state test row h =
    let f = some_passes (λ (t : Thread). test t.name && is_thread_of row.name t) state.threads h in
    let e = and_parts (test f.0.name) (is_thread_of row.name f.0) f.2 in
    (f.0, f.1, e.0, same_name-true f.0.process row.name e.1)

-- and who has one is told so
pub has_thread-from : (state : State) (test : Name → Bool) (row : Row) (t : Thread) → IsIn t state.threads → test t.name ≡ true → t.process ≡ row.name
    → has_thread state test row ≡ true
has_thread-from state test row t i e own =
    list_any-from_one (λ (u : Thread). test u.name && is_thread_of row.name u) state.threads t i
    (and_from (test t.name) (is_thread_of row.name t) e (same_name-refl t.process row.name own))

-- a thread is in the namespace of its process
pub thread_space : (state : State) → IsCoherent state → (t : Thread) (row : Row) → IsIn t state.threads → IsIn row state.rows → t.process ≡ row.name
    → t.name.space ≡ row.name.space
thread_space state sound t row i j own =
    let p = (sound.threads t i).process in
    p.4 ∙ ap (λ (r : Row). r.name.space) (same_row state.rows sound.rows_rise p.0 row p.1 j (p.2 ∙ own))

-- who calls is one of the rows, and lives
pub caller_of-Some : (state : State) (n : ℕ) (row : Row) → caller_of state n ≡ Some row → IsIn row state.rows × (is_live row ≡ true)
caller_of-Some state n row h =
    let f = find-Some (λ (r : Row). (has_thread state (λ name. root_number name == n) r || (not (has_left state n) && (root_number r.name == n))) && is_live r) state.rows row h in
    (f.0, (and_parts (has_thread state (λ name. root_number name == n) row || (not (has_left state n) && (root_number row.name == n))) (is_live row) f.1).1)

-- so is the process of any of its threads
pub process_at-Some : (state : State) (n : ℕ) (row : Row) → process_at state n ≡ Some row → IsIn row state.rows × (is_live row ≡ true)
process_at-Some state n row h =
    let f = find-Some (λ (r : Row). (has_thread state (λ name. root_number name == n) r || (root_number r.name == n)) && is_live r) state.rows row h in
    (f.0, (and_parts (has_thread state (λ name. root_number name == n) row || (root_number row.name == n)) (is_live row) f.1).1)

-- a process that a number names is one of the rows
pub process_numbered-Some : (state : State) (s n : ℕ) (row : Row) → process_numbered state s n ≡ Some row → IsIn row state.rows
unfolding process_numbered
process_numbered-Some state s n row h =
    (find-Some (λ (r : Row). has_thread state (λ name. is_numbered state.spaces name s n) r || is_numbered state.spaces r.name s n) state.rows row h).0

-- the task with a number in a namespace is found by it
pub task_at-own : (state : State) → IsCoherent state → (row : Row) → IsIn row state.rows → (s n : ℕ) → number state.spaces row.name s ≡ Some n
    → task_numbered state s n ≡ Some row
unfolding task_numbered
task_at-own state sound row i s n e =
    find-only (λ r. is_numbered state.spaces r.name s n) state.rows row i (is_numbered-from state.spaces row.name s n e) (λ r j f.
    same_row state.rows sound.rows_rise r row j i (sound.distinct r.name row.name (own_in_use state r j) (own_in_use state row i) s n
    (is_numbered-true state.spaces r.name s n f) e))
