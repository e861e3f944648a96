-- Which states are sound: what is true of the table between any two calls.
use Rattle.std.specs.Prelude.{◌≡◌, ◌⊎◌, ℕ, ◌<◌, ◌≤◌, true, false, List, [], ◌∷◌, map, length, Some, None, ◌==◌, find, Option, IfSome}
use Rattle.pid_types.specs.declared.plain.Name.{Name}
use Rattle.pid_types.specs.declared.plain.Row.{Row}
use Rattle.pid_types.specs.declared.plain.Space.{Space}
use Rattle.pid_types.specs.declared.plain.Control.{Control}
use Rattle.pid_types.specs.Bounds.{greatest_limit}
use Rattle.pid_types.specs.Membership.{IsIn}
use Rattle.pid_types.specs.Chains.{climb}
use Rattle.pid_types.specs.declared.plain.Thread.{Thread}
use Rattle.pid_types.specs.State.{State}
use Rattle.pid_types.specs.Names.{space_at, path_up, number, root_number, is_live, names_in_use, in_use}
use Rattle.pid_types.specs.Controls.{control_at, control_path}
use Rattle.pid_types.specs.Exit.{parent_number}

-- each number is below all that follow
abbrev pub IsRising : List ℕ → Type 0
IsRising [] = Unit {0}
IsRising (n ∷ ns) = ((m : ℕ) → IsIn m ns → n < m) × IsRising ns

-- no number of a namespace names two: names of the list that have one number in one namespace are one name
abbrev pub HasDistinctNumbers : List Name → List Space → Type 0
HasDistinctNumbers names spaces =
    (a b : Name) → IsIn a names → IsIn b names → (s n : ℕ) → number spaces a s ≡ Some n → number spaces b s ≡ Some n → a ≡ b

-- the namespaces on the name's path are there, and it has one number in range for each
pub record IsWellNumbered (spaces : List Space) (pid_max : ℕ) (name : Name) : Type 0 where
  pub listed : (x : ℕ) → IsIn x (path_up spaces name.space) → (s : Space) × (space_at spaces x ≡ Some s)
  pub one_each : length name.numbers.items ≡ length (path_up spaces name.space)
  pub in_range : (n : ℕ) → IsIn n name.numbers.items → (0 < n) × (n < pid_max)

-- the parent lives, in the row's namespace or around it, and outside it if the row is its init
pub record IsGoodParent (rows : List Row) (spaces : List Space) (row : Row) (parent : Name) : Type 0 where
  pub lives : (r : Row) × IsIn r rows × (r.name ≡ parent) × (is_live r ≡ true)
  pub around : IsIn parent.space (path_up spaces row.name.space)
  pub outside : number spaces row.name row.name.space ≡ Some 1 → parent.space ≡ row.name.space → ⊥

-- a row without a parent is number 1, each other row's parent is a good one, and the chain of parents ends at number 1
pub record HasGoodParents (rows : List Row) (spaces : List Space) (row : Row) : Type 0 where
  pub first : row.parent ≡ None → root_number row.name ≡ 1
  pub good : (parent : Name) → row.parent ≡ Some parent → IsGoodParent rows spaces row parent
  pub chain : IsIn 1 (climb (parent_number rows) (length rows) (root_number row.name))

-- the children's namespace was dropped, or is the row's own or below it
abbrev pub HasGoodChildrenSpace : List Space → Row → Type 0
HasGoodChildrenSpace spaces row = (space_at spaces row.children_space ≡ None) ⊎ IsIn row.name.space (path_up spaces row.children_space)

-- a live task of the namespace is number 1 in it: pid_namespaces(7), "The namespace init process"
abbrev pub HasLiveInit : List Row → List Space → ℕ → Type 0
HasLiveInit rows spaces s = (r : Row) × IsIn r rows × (is_live r ≡ true) × (r.name.space ≡ s) × (number spaces r.name s ≡ Some 1)

-- nothing lives in the namespace, and those below it have fallen too
pub record IsEmptied (rows : List Row) (spaces : List Space) (s : ℕ) : Type 0 where
  pub ended : (r : Row) → IsIn r rows → is_live r ≡ true → number spaces r.name s ≡ None
  pub below : (t : Space) → IsIn t spaces → IsIn s (path_up spaces t.id) → t.fallen ≡ true

-- the root namespace stands
abbrev pub RootStands : List Space → Type 0
RootStands spaces = (s : Space) → IsIn s spaces → s.id ≡ 0 → s.fallen ≡ false

-- the tasks of one group are in one session, that of the task which the group is named after: setpgid(2), setsid(2)
pub record HasGoodGroups (rows : List Row) : Type 0 where
  pub together : (a b : Row) → IsIn a rows → IsIn b rows → a.group ≡ b.group → a.session ≡ b.session
  pub leader : (a b : Row) → IsIn a rows → IsIn b rows → a.group ≡ b.name → a.session ≡ b.session

-- the ids rise, each is above its parent's, the root is there without a parent, and each path ends at it
pub record IsTree (X : Type 0) (id : X → ℕ) (parent : X → Option ℕ) (path : ℕ → List ℕ) (xs : List X) : Type 0 where
  pub rising : IsRising (map id xs)
  pub older : (x : X) → IsIn x xs → IfSome (parent x) (λ p. p < id x)
  pub root : (x : X) × (find (λ y. id y == 0) xs ≡ Some x) × (parent x ≡ None)
  pub chains : (x : X) → IsIn x xs → IsIn 0 (path (id x))

-- the namespaces are a tree
abbrev pub IsTreeOfSpaces : List Space → Type 0
IsTreeOfSpaces spaces = IsTree Space (λ s. s.id) (λ s. s.parent) (path_up spaces) spaces

-- and so are the control groups
abbrev pub IsTreeOfControls : List Control → Type 0
IsTreeOfControls controls = IsTree Control (λ c. c.id) (λ c. c.parent) (control_path controls) controls

-- the root control group has no limit, and no other's is above the greatest that there is
pub record HasGoodLimit (c : Control) : Type 0 where
  pub root : c.id ≡ 0 → c.limit ≡ None
  pub bounded : (limit : ℕ) → c.limit ≡ Some limit → limit ≤ greatest_limit

-- a thread's process lives, in the thread's own namespace
abbrev pub HasLiveProcess : List Row → Thread → Type 0
HasLiveProcess rows t = (r : Row) × IsIn r rows × (r.name ≡ t.process) × (is_live r ≡ true) × (t.name.space ≡ r.name.space)

-- and its name is no process's, group's or session's; its children's namespace and its home are good ones, as a row's are
pub record IsGoodThread (rows : List Row) (spaces : List Space) (controls : List Control) (t : Thread) : Type 0 where
  pub process : HasLiveProcess rows t
  pub apart : IsIn t.name (names_in_use rows) → ⊥
  pub children : (space_at spaces t.children_space ≡ None) ⊎ IsIn t.name.space (path_up spaces t.children_space)
  pub home : (c : Control) × (control_at controls t.home ≡ Some c)

-- a process whose first thread has left lives, and another thread of it runs
abbrev pub IsGoodMark : List Row → List Thread → Name → Type 0
IsGoodMark rows threads name =
    ((r : Row) × IsIn r rows × (r.name ≡ name) × (is_live r ≡ true)) × ((t : Thread) × IsIn t threads × (t.process ≡ name))

-- what a change of the state keeps before the sweep: all that a sound state is, but that a fallen namespace has a number in use
pub record IsCoherent (state : State) : Type 0 where
  pub distinct : HasDistinctNumbers (in_use state) state.spaces
  pub numbered : (a : Name) → IsIn a (in_use state) → IsWellNumbered state.spaces state.pid_max a
  pub parents : (r : Row) → IsIn r state.rows → HasGoodParents state.rows state.spaces r
  pub children : (r : Row) → IsIn r state.rows → HasGoodChildrenSpace state.spaces r
  pub root : RootStands state.spaces
  pub standing : (s : Space) → IsIn s state.spaces → s.fallen ≡ false → HasLiveInit state.rows state.spaces s.id
  pub fallen : (s : Space) → IsIn s state.spaces → s.fallen ≡ true → IsEmptied state.rows state.spaces s.id
  pub groups : HasGoodGroups state.rows
  pub rows_rise : IsRising (map (λ r. root_number r.name) state.rows)
  pub spaces : IsTreeOfSpaces state.spaces
  pub controls : IsTreeOfControls state.controls
  pub limits : (c : Control) → IsIn c state.controls → HasGoodLimit c
  pub homes : (r : Row) → IsIn r state.rows → (c : Control) × (control_at state.controls r.home ≡ Some c)
  pub threads : (t : Thread) → IsIn t state.threads → IsGoodThread state.rows state.spaces state.controls t
  pub threads_rise : IsRising (map (λ t. root_number t.name) state.threads)
  pub left : (name : Name) → IsIn name state.left → IsGoodMark state.rows state.threads name
  pub left_rise : IsRising (map root_number state.left)

-- the state is sound: it is coherent, and each fallen namespace has a number in use
pub record IsSound (state : State) : Type 0 where
  pub coherent : IsCoherent state
  pub named : (s : Space) → IsIn s state.spaces → s.fallen ≡ true → (a : Name) × (n : ℕ) × IsIn a (in_use state)
      × (number state.spaces a s.id ≡ Some n)

-- all ids of the state, each children's namespace among them, are below the stamp
pub record IsBelow (stamp : ℕ) (state : State) : Type 0 where
  pub spaces : (s : Space) → IsIn s state.spaces → s.id < stamp
  pub controls : (c : Control) → IsIn c state.controls → c.id < stamp
  pub children : (r : Row) → IsIn r state.rows → r.children_space < stamp
  pub thread_children : (t : Thread) → IsIn t state.threads → t.children_space < stamp
