-- The numbers of the tasks of a namespace, by keys, as a walk over its numbers passes them.
use Rattle.std.specs.Prelude.{◌≡◌, ◌↔◌, ◌⊎◌, ◌<◌, ◌≤◌, ◌+◌, ℕ, Bool, true, ◌==◌, List, [], ◌∷◌, length, Some, IsSome, is_some, if◌then◌else◌, option_map}
use Rattle.std.specs.Option.{option_eq}
use Rattle.member_lists.specs.Owners.{times}
use Rattle.pid_types.specs.Membership.{IsIn}
use Rattle.pid_numbers.specs.Numbering.{Numbering, identifier_at, number_of}
use Rattle.task_tree.specs.Tree.{task_at}
use Rattle.task_table.specs.Store.{Store}
use Rattle.translate.specs.declared.members.Asked.{Asked}
use Rattle.translate.specs.declared.members.Reach.{Reach}
use Rattle.translate.specs.declared.members.Reach.TheVariants.{Own, Subtree}
use Rattle.translate.specs.Gathered.{numbers_of_keys}

-- whether the identifier is in the namespace
abbrev pub is_reached : Numbering → Reach → ℕ → ℕ → Bool
is_reached b Own space k = option_eq ◌==◌ (option_map (λ u. u.space) (identifier_at b k)) (Some space)
is_reached b Subtree space k = is_some (number_of b k space)

-- the viewer's number of the identifier, if it is meant and has one from the given one on
abbrev pub numbers_passed : Numbering → Asked → ℕ → List ℕ
numbers_passed b asked k = if is_reached b asked.reach asked.space k then numbers_of_keys b asked.viewer asked.from (k ∷ []) else []

-- a task that is meant has a number below the cursor in the namespace, and the number m in the viewer
pub record IsBehindCursor (s : Store) (asked : Asked) (cursor m : ℕ) : Type 0 where
  pub key : ℕ
  pub task : IsSome (task_at s.tree key)
  pub meant : is_reached s.numbering asked.reach asked.space key ≡ true
  pub own : ℕ
  pub inside : number_of s.numbering key asked.space ≡ Some own
  pub passed : own < cursor
  pub has : number_of s.numbering key asked.viewer ≡ Some m

-- the list has the numbers of such tasks from one on, each once
pub record ArePassed (s : Store) (asked : Asked) (cursor : ℕ) (numbers : List ℕ) : Type 0 where
  pub once : (m : ℕ) → times m numbers ≤ 1
  pub each : (m : ℕ) → IsIn m numbers ↔ ((asked.from ≤ m) × IsBehindCursor s asked cursor m)

-- the list has all; or the namespace is the viewer's own, and it has those below a cursor, one more than the room takes
abbrev pub ArePassedFor : Store → Asked → ℕ → List ℕ → Type 0
ArePassedFor s asked room numbers =
    ArePassed s asked s.numbering.pid_max numbers
    ⊎ ((asked.viewer ≡ asked.space) × (length numbers ≡ room + 1) × ((cursor : ℕ) × ArePassed s asked cursor numbers))
