-- What a contract sees of `Numbers`: the namespaces and the identifiers by key.
use Rattle.std.specs.Prelude.{◌≡◌, ◌-◌, ℕ, ◌+◌, ◌<◌, ◌≤◌, ◌==◌, ◌&&◌, ◌||◌, Bool, true, false, List, [], length, reverse, filter_map, Option, Some, None, option_map, option_and_then, is_some, not, if◌then◌else◌, slice_index_or, MatchOption, find, is_none}
use Rattle.std.specs.Option.{option_map_or}
use Rattle.pid_types.specs.Bounds.{deepest_space}
use Rattle.pid_numbers.specs.declared.plan.PlanFault.{PlanFault}
use Rattle.pid_numbers.specs.declared.plan.PlanFault.TheVariants.{TooDeep, NoNumber}
use Rattle.pid_types.specs.Chains.{contains}
use Rattle.pid_types.specs.Names.{beside, beside_from}
use Rattle.pid_types.specs.Draw.{cyclic_draw}
use Rattle.pid_types.specs.declared.call.Kind.{Kind}
use Rattle.pid_types.specs.declared.call.Kind.TheVariants.{Task, Group, Session}

-- a namespace: its id, whether it fell, the keys of it and of those around it, innermost first, and its cursor
pub record Namespace : Type 0 where
  pub id : ℕ
  pub fallen : Bool
  pub path : List ℕ
  pub cursor : ℕ

-- an identifier: the key of its namespace, its numbers there and in each around it, innermost first, and how many use it as what
pub record Identifier : Type 0 where
  pub space : ℕ
  pub numbers : List ℕ
  pub tasks : ℕ
  pub groups : ℕ
  pub sessions : ℕ

-- the bound of all numbers, the key of the next identifier, the namespaces and the identifiers by key, and the namespaces in the
-- order of their ids, each id with its key
pub record Numbering : Type 0 where
  pub pid_max : ℕ
  pub next : ℕ
  pub namespaces : List (Option Namespace)
  pub names : List (Option Identifier)
  pub order : List (ℕ × ℕ)

-- the namespace with the key
abbrev pub namespace_at : Numbering → ℕ → Option Namespace
namespace_at b s = slice_index_or b.namespaces s None

-- whether there is a namespace with the key
abbrev pub is_there : Numbering → ℕ → Bool
is_there b s = is_some (namespace_at b s)

-- the id of the namespace with the key
abbrev pub id_at : Numbering → ℕ → Option ℕ
id_at b s = option_map (λ t. t.id) (namespace_at b s)

-- the identifier with the key
abbrev pub identifier_at : Numbering → ℕ → Option Identifier
identifier_at b i = slice_index_or b.names i None

-- the keys of a namespace and of those around it, innermost first
abbrev pub path_at : Numbering → ℕ → List ℕ
path_at b s = option_map_or (λ t. t.path) (namespace_at b s) []

-- whether the namespace is there and has fallen
abbrev pub has_fallen_at : Numbering → ℕ → Bool
has_fallen_at b s = option_map_or (λ t. t.fallen) (namespace_at b s) false

-- the number of an identifier in a namespace
abbrev pub number_in : (ℕ → List ℕ) → ℕ → Option Identifier → Option ℕ
number_in ways s o = option_and_then (λ u. beside s (ways u.space) u.numbers) o

-- the number in a namespace of the identifier with the key
abbrev pub number_of : Numbering → ℕ → ℕ → Option ℕ
number_of b i s = number_in (path_at b) s (identifier_at b i)

-- the numbers of the identifier with the key from the namespace inwards, outermost first: NSpid of proc_pid_status(5)
abbrev pub levels_of : Numbering → ℕ → ℕ → List ℕ
levels_of b i s = option_map_or (λ u. beside_from s (reverse (path_at b u.space)) (reverse u.numbers)) (identifier_at b i) []

-- the numbers in use in the namespace
unfoldable pub taken_in : Numbering → ℕ → List ℕ
taken_in b s = filter_map (number_in (path_at b) s) b.names

-- the number that the namespace gives next
abbrev pub draw_in : Numbering → ℕ → Option ℕ
draw_in b s = option_and_then (λ t. cyclic_draw b.pid_max t.cursor (taken_in b s)) (namespace_at b s)

-- whether the namespace has fallen and no identifier has a number in it any more
abbrev pub is_deserted : Numbering → ℕ → Namespace → Bool
is_deserted b s t = t.fallen && (length (taken_in b s) == 0)

-- the namespace with the key, where it is not dead: what a sweep leaves
abbrev pub swept_at : Numbering → ℕ → Option Namespace
swept_at b s = option_and_then (λ t. if is_deserted b s t then None else Some t) (namespace_at b s)

-- the namespace with the key s, with its cursor at the number if its key is the first one
abbrev pub cursor_put : ℕ → ℕ → ℕ → Namespace → Namespace
cursor_put space cursor s t = record t { cursor = if s == space then cursor else t.cursor }

-- the namespace, fallen if it is the other one or inside it
abbrev pub fallen_within : ℕ → Namespace → Namespace
fallen_within outer t = record t { fallen = t.fallen || contains t.path outer }

-- a new namespace with this path
abbrev pub new_namespace : ℕ → List ℕ → Namespace
new_namespace id path = record { id = id; fallen = false; path = path; cursor = 0 }

-- a new identifier, which a task uses
abbrev pub new_identifier : ℕ → List ℕ → Identifier
new_identifier space numbers = record { space = space; numbers = numbers; tasks = 1; groups = 0; sessions = 0 }

-- a new identifier of a thread, which nothing uses
abbrev pub thread_identifier : ℕ → List ℕ → Identifier
thread_identifier space numbers = record (new_identifier space numbers) { tasks = 0 }

-- the namespace with its cursor behind the number that it gave, if it is on the path
abbrev pub moved : List ℕ → List ℕ → ℕ → Namespace → Namespace
moved path numbers s t = record t { cursor = option_map_or (λ n. n + 1) (beside s path numbers) t.cursor }

-- how many uses of the kind
abbrev pub uses : Kind → Identifier → ℕ
uses Task u = u.tasks
uses Group u = u.groups
uses Session u = u.sessions

-- the identifier with that many uses of the kind
abbrev pub with_uses : Kind → ℕ → Identifier → Identifier
with_uses Task n u = record u { tasks = n }
with_uses Group n u = record u { groups = n }
with_uses Session n u = record u { sessions = n }

-- one use of the kind more
abbrev pub more : Kind → Identifier → Identifier
more kind u = with_uses kind (uses kind u + 1) u

-- one use of the kind less
abbrev pub less : Kind → Identifier → Identifier
less kind u = with_uses kind (uses kind u - 1) u

-- whether there is an identifier, and it has a use of the kind
abbrev pub is_used_as : Kind → Option Identifier → Bool
is_used_as kind None = false
is_used_as kind (Some u) = not (uses kind u == 0)

-- some task's own namespace this is
pub record HasOwnTask (names : ℕ → Option Identifier) (s : ℕ) : Type 0 where
  pub key : ℕ
  pub identifier : Identifier
  pub named : names key ≡ Some identifier
  pub own : identifier.space ≡ s
  pub used : is_used_as Task (Some identifier) ≡ true

-- whether a use is left
abbrev pub is_used : Identifier → Bool
is_used u = not ((u.tasks == 0) && ((u.groups == 0) && (u.sessions == 0)))

-- whether there is an identifier, and nothing uses it: then it is a thread's
abbrev pub is_thread : Option Identifier → Bool
is_thread None = false
is_thread (Some u) = not (is_used u)

-- what is left of an identifier
abbrev pub left_of : Identifier → Option Identifier
left_of u = if is_used u then Some u else None

-- some identifier has the number in the namespace, and a use of the kind
pub record IsNumberUsedAs (b : Numbering) (kind : Kind) (s n : ℕ) : Type 0 where
  pub key : ℕ
  pub has : number_of b key s ≡ Some n
  pub used : is_used_as kind (identifier_at b key) ≡ true

-- the least number from one on that is in use as the kind in the namespace
abbrev pub IsNextUsed : Numbering → Kind → ℕ → ℕ → Option ℕ → Type 0
IsNextUsed b kind s from result =
    MatchOption result
    ((m : ℕ) → from ≤ m → IsNumberUsedAs b kind s m → ⊥)
    (λ n. (from ≤ n) × IsNumberUsedAs b kind s n × ((m : ℕ) → from ≤ m → IsNumberUsedAs b kind s m → n ≤ m))

-- a thread's identifier has the number in the namespace
pub record IsNumberOfThread (b : Numbering) (s n : ℕ) : Type 0 where
  pub key : ℕ
  pub has : number_of b key s ≡ Some n
  pub thread : is_thread (identifier_at b key) ≡ true

-- the least number from one on that is a thread's in the namespace
abbrev pub IsNextThread : Numbering → ℕ → ℕ → Option ℕ → Type 0
IsNextThread b s from result =
    MatchOption result
    ((m : ℕ) → from ≤ m → IsNumberOfThread b s m → ⊥)
    (λ n. (from ≤ n) × IsNumberOfThread b s n × ((m : ℕ) → from ≤ m → IsNumberOfThread b s m → n ≤ m))

-- why no namespace can be made inside the one with the key: it has the deepest level, or else a namespace has no number to give
abbrev pub IsPlanFault : Numbering → ℕ → PlanFault → Type 0
IsPlanFault b parent TooDeep = deepest_space < length (path_at b parent)
IsPlanFault b parent (NoNumber s) =
    (length (path_at b parent) ≤ deepest_space) × (find (λ t. is_none (draw_in b t)) (path_at b parent) ≡ Some s)
