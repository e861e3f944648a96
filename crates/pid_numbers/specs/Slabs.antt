-- The numbers of each namespace, at the namespace's key, and the identifiers, and what ties them.
use Rattle.std.specs.Prelude.{◌≡◌, ℕ, suc, ◌+◌, ◌<◌, ◌==◌, ◌&&◌, Bool, true, false, List, [], ◌∷◌, length, map, Option, Some, None, IsSome, is_some, option_map, option_and_then, if◌then◌else◌, slice_get, slice_index_or, ◌≢◌}
use Rattle.std.specs.List.{filter}
use Rattle.std.specs.Option.{option_map_or, option_eq}
use Rattle.index_array.specs.Place.{Entry, entry_at, is_prepared, indexes}
use Rattle.cyclic_ids.specs.Ids.{Ids, planned}
use Rattle.pid_types.specs.Chains.{contains}
use Rattle.pid_types.specs.Names.{beside}
use Rattle.pid_types.specs.Settings.{HasGoodPidMax}
use Rattle.pid_types.specs.declared.call.Kind.{Kind}
use Rattle.pid_types.specs.declared.call.Kind.TheVariants.{Task, Group, Session}
pub use Rattle.ns_tree.specs.Tree.{IsPath}
use Rattle.ns_tree.specs.Tree.{Node, TreeOfSpaces, IsPathTree, AreListed, node_in, way, id_in, fell}
use Rattle.pid_numbers.specs.Table.{Table, identifier_of, ident_at}
use Rattle.pid_numbers.specs.Numbering.{Namespace, Identifier, Numbering, number_in, is_used_as}

-- a namespace of the tree, with the cursor of its numbers
abbrev pub namespace_of : ℕ → Node → Namespace
namespace_of cursor t = record { id = t.id; fallen = t.fallen; path = t.path; cursor = cursor }

-- the namespaces by key, each with its cursor
abbrev pub namespaces_with : (ℕ → ℕ) → List (Option Node) → List (Option Namespace)
namespaces_with cursor [] = []
namespaces_with cursor (o ∷ nodes) = option_map (namespace_of (cursor 0)) o ∷ namespaces_with (λ s. cursor (suc s)) nodes

-- where the next draw in a namespace begins
abbrev pub cursor_on : List (Ids ℕ) → ℕ → ℕ
cursor_on ids s = option_map_or (λ t. t.cursor) (slice_get ids s) 0

abbrev pub numbering_of : ℕ → TreeOfSpaces → List (Ids ℕ) → Table → Numbering
numbering_of pid_max tree ids idents =
    record {
      pid_max = pid_max;
      next = idents.vacant_key;
      namespaces = namespaces_with (cursor_on ids) tree.nodes;
      names = map (option_map identifier_of) idents.slots;
      order = tree.order;
    }

-- what stands at a number of a namespace
abbrev pub entry_on : List (Ids ℕ) → ℕ → ℕ → Option (Entry ℕ)
entry_on ids s n = option_and_then (λ t. entry_at t.places n) (slice_get ids s)

-- the key that each number leads to
abbrev pub leads : (ℕ → ℕ → Option (Entry ℕ)) → ℕ → ℕ → Option ℕ
leads at s n = option_map (λ (e : Entry ℕ). e.value) (at s n)

abbrev pub plan_on : List (Ids ℕ) → ℕ → Option ℕ
plan_on ids s = option_and_then planned (slice_get ids s)

abbrev pub bound_on : List (Ids ℕ) → ℕ → Option ℕ
bound_on ids s = option_map (λ t. t.pid_max) (slice_get ids s)

abbrev pub ready : List (Ids ℕ) → ℕ → ℕ → Bool
ready ids s n = option_map_or (λ t. is_prepared t.places n) (slice_get ids s) false

-- no namespace gives another number next
abbrev pub KeepsPlans : List (Ids ℕ) → List (Ids ℕ) → Type 0
KeepsPlans old new = (s : ℕ) → plan_on new s ≡ plan_on old s

-- each number leads where it led
abbrev pub KeepsNumbers : List (Ids ℕ) → List (Ids ℕ) → Type 0
KeepsNumbers old new = (s m : ℕ) → entry_on new s m ≡ entry_on old s m

abbrev pub KeepsBounds : List (Ids ℕ) → List (Ids ℕ) → Type 0
KeepsBounds old new = (s : ℕ) → bound_on new s ≡ bound_on old s

abbrev pub KeepsCursors : List (Ids ℕ) → List (Ids ℕ) → Type 0
KeepsCursors old new = (s : ℕ) → cursor_on new s ≡ cursor_on old s

-- of a namespace each number but one leads where it led
abbrev pub KeepsOtherNumbers : List (Ids ℕ) → List (Ids ℕ) → ℕ → ℕ → Type 0
KeepsOtherNumbers old new key n = (m : ℕ) → m ≢ n → entry_on new key m ≡ entry_on old key m

-- the numbers of each namespace but one are as they were
abbrev pub KeepsOtherSpaces : List (Ids ℕ) → List (Ids ℕ) → ℕ → Type 0
KeepsOtherSpaces old new key = (s : ℕ) → s ≢ key → slice_get new s ≡ slice_get old s

-- numbers lead to names and names to numbers
pub record IsTied (ways : ℕ → List ℕ) (names : ℕ → Option Identifier) (see : ℕ → ℕ → Option ℕ) : Type 0 where
  pub found : (s n i : ℕ) → see s n ≡ Some i → number_in ways s (names i) ≡ Some n
  pub kept : (s n i : ℕ) → number_in ways s (names i) ≡ Some n → see s n ≡ Some i
  pub full : (i : ℕ) (u : Identifier) → names i ≡ Some u → length u.numbers ≡ length (ways u.space)
  pub some : (i : ℕ) (u : Identifier) → names i ≡ Some u → 0 < length u.numbers

-- the mark of a kind
abbrev pub mark_of : Kind → ℕ
mark_of Task = 0
mark_of Group = 1
mark_of Session = 2

-- the marks of the numbers of an identifier
abbrev pub use_marks : Option Identifier → List Bool
use_marks o = is_used_as Task o ∷ is_used_as Group o ∷ is_used_as Session o ∷ []

-- each number has the marks of its identifier's uses: one without marks is a thread's
abbrev pub AreMarked : (ℕ → ℕ → Option (Entry ℕ)) → (ℕ → Option Identifier) → Type 0
AreMarked at names = (s n : ℕ) (e : Entry ℕ) → at s n ≡ Some e → e.marks ≡ use_marks (names e.value)

-- each number is in range
abbrev pub HaveNumbersInRange : ℕ → (ℕ → ℕ → Option ℕ) → Type 0
HaveNumbersInRange pid_max see = (s n i : ℕ) → see s n ≡ Some i → (0 < n) × (n < pid_max)

-- the paths, the look-ups, the bounds and the identifiers agree
pub record IsNumbering
    (pid_max : ℕ) (ways : ℕ → List ℕ) (at : ℕ → ℕ → Option (Entry ℕ)) (bound : ℕ → Option ℕ) (names : ℕ → Option Identifier) : Type 0 where
  pub good : HasGoodPidMax pid_max
  pub bounds : (s m : ℕ) → bound s ≡ Some m → m ≡ pid_max
  pub tree : IsPathTree ways
  pub tied : IsTied ways names (leads at)
  pub range : HaveNumbersInRange pid_max (leads at)
  pub marks : AreMarked at names

-- the root stands, what is in a fallen namespace has fallen, and each fallen namespace has a number in use
pub record AreFallen (ways : ℕ → List ℕ) (at : ℕ → ℕ → Option (Entry ℕ)) (fell : ℕ → Bool) : Type 0 where
  pub stands : fell 0 ≡ false
  pub inner : (t j : ℕ) → j < length (ways t) → fell (slice_index_or (ways t) j 0) ≡ true → fell t ≡ true
  pub held : (s : ℕ) → fell s ≡ true → (n : ℕ) × (i : ℕ) × (leads at s n ≡ Some i)

-- the numbers, and the namespaces that have fallen
pub record IsConsistent
    (pid_max : ℕ) (ways : ℕ → List ℕ) (at : ℕ → ℕ → Option (Entry ℕ)) (bound : ℕ → Option ℕ) (names : ℕ → Option Identifier)
    (fell : ℕ → Bool) : Type 0 where
  pub numbering : IsNumbering pid_max ways at bound names
  pub fallen : AreFallen ways at fell

-- all of that, the order, and numbers for each namespace
pub record IsNumberTable (pid_max : ℕ) (tree : TreeOfSpaces) (ids : List (Ids ℕ)) (idents : Table) : Type 0 where
  pub whole : IsConsistent pid_max (way tree.nodes) (entry_on ids) (bound_on ids) (ident_at idents) (fell tree.nodes)
  pub some : (s : ℕ) → IsSome (node_in tree.nodes s) → 0 < length (way tree.nodes s)
  pub listed : AreListed (id_in tree.nodes) tree.order
  pub count : length ids ≡ length tree.nodes

-- whether no number in it is in use
abbrev pub empty_on : List (Ids ℕ) → ℕ → Bool
empty_on ids s = option_map_or (λ t. length (indexes t.places) == 0) (slice_get ids s) true

-- whether it has fallen and no number in it is in use
abbrev pub dead_on : List (Option Node) → List (Ids ℕ) → ℕ → Bool
dead_on nodes ids s = fell nodes s && empty_on ids s

-- the dead ones are gone from the tree and the order, and the others are as they were
pub record AreSwept (old new : TreeOfSpaces) (ids : List (Ids ℕ)) : Type 0 where
  pub nodes : (s : ℕ) → node_in new.nodes s ≡ if dead_on old.nodes ids s then None else node_in old.nodes s
  pub order : new.order ≡ filter (λ p. is_some (node_in new.nodes p.1)) old.order
  pub count : length new.nodes ≡ length old.nodes
  pub tree : IsPathTree (way new.nodes)
  pub some : (s : ℕ) → IsSome (node_in new.nodes s) → 0 < length (way new.nodes s)
  pub listed : AreListed (id_in new.nodes) new.order

-- the dead ones are on a path, and all in one of them are dead
pub record AreAround (nodes : List (Option Node)) (ids : List (Ids ℕ)) (path : List ℕ) : Type 0 where
  pub on : (s : ℕ) → dead_on nodes ids s ≡ true → contains path s ≡ true
  pub inside : (s outer : ℕ) → contains (way nodes s) outer ≡ true → dead_on nodes ids outer ≡ true → dead_on nodes ids s ≡ true
  pub root : dead_on nodes ids 0 ≡ false

-- what stands at each number, with a change at the numbers along the path
abbrev pub touched : List ℕ → List ℕ → (Option (Entry ℕ) → Option (Entry ℕ)) → (ℕ → ℕ → Option (Entry ℕ)) → ℕ → ℕ → Option (Entry ℕ)
touched path numbers change at s n = if option_eq ◌==◌ (beside s path numbers) (Some n) then change (at s n) else at s n

-- the numbers along a path are free, and the others are as they were
pub record AreFreed (old new : List (Ids ℕ)) (path numbers : List ℕ) : Type 0 where
  pub entries : (s n : ℕ) → entry_on new s n ≡ touched path numbers (λ _. None) (entry_on old) s n
  pub cursors : KeepsCursors old new
  pub bound : KeepsBounds old new
  pub count : length new ≡ length old

-- the cursor behind the number that its namespace gave, if it is on the path
abbrev pub stepped : List ℕ → List ℕ → ℕ → ℕ → ℕ
stepped path numbers s cursor = option_map_or (λ n. n + 1) (beside s path numbers) cursor

-- what stands at a number that was given: the mark is that of a task, and a thread has none
abbrev pub given_to : Bool → ℕ → Option (Entry ℕ)
given_to is_task key = Some (record { value = key; marks = is_task ∷ false ∷ false ∷ [] })

-- each namespace of the path has numbers
abbrev pub AreIn : List (Ids ℕ) → List ℕ → Type 0
AreIn ids path = (k : ℕ) → k < length path → slice_index_or path k 0 < length ids

-- the numbers are those that the namespaces of the path give next
abbrev pub ArePlanned : List (Ids ℕ) → List ℕ → List ℕ → Type 0
ArePlanned ids path numbers = (k : ℕ) → k < length path → plan_on ids (slice_index_or path k 0) ≡ Some (slice_index_or numbers k 0)

abbrev pub AreReady : List (Ids ℕ) → List ℕ → List ℕ → Type 0
AreReady ids path numbers = (k : ℕ) → k < length path → ready ids (slice_index_or path k 0) (slice_index_or numbers k 0) ≡ true
