-- Namespaces as they are while a store is made.
use Rattle.std.specs.Prelude.{◌≡◌, ◌≢◌, ◌⊎◌, ℕ, ◌<◌, Bool, true, false, List, Some, option_map, slice_get}
use Rattle.pid_types.specs.declared.plain.Space.{Space}
use Rattle.pid_types.specs.Membership.{IsIn}
use Rattle.pid_numbers.specs.Numbering.{Numbering, id_at, namespace_at, number_of, path_at}
use Rattle.pid_numbers.specs.Restore.{is_flagged}

-- before a number was drawn in it: it stands, and its draws begin at its first number
abbrev pub undrawn : Space → Space
undrawn s = record s { cursor = 0; fallen = false }

-- whichever number it gives next
abbrev pub steady : Space → Space
steady s = record s { cursor = 0 }

-- the first so many namespaces are there, each with a flag at its key if it has fallen, and no key has one else
pub record AreFlagged (b : Numbering) (spaces : List Space) (count : ℕ) (flags : List Bool) : Type 0 where
  pub each : (j : ℕ) (x : Space) → j < count → slice_get spaces j ≡ Some x
      → (s : ℕ) × (id_at b s ≡ Some x.id) × (x.fallen ≡ true → is_flagged flags s ≡ true)
  pub only : (s : ℕ) → is_flagged flags s ≡ true
      → (j : ℕ) × (x : Space) × (slice_get spaces j ≡ Some x) × (x.fallen ≡ true) × (id_at b s ≡ Some x.id)

-- the namespace may have fallen, or stand, as its line says: it has fallen if it is not the root and has a number in use, and stands
-- if it is in none with a flag
pub record MayHaveFall (b : Numbering) (flags : List Bool) (x : Space) : Type 0 where
  pub there : (s : ℕ) × (id_at b s ≡ Some x.id)
  pub fallen : (s : ℕ) → id_at b s ≡ Some x.id → x.fallen ≡ true → (s ≢ 0) × (i : ℕ) × (n : ℕ) × (number_of b i s ≡ Some n)
  pub stands : (s outer : ℕ) → id_at b s ≡ Some x.id → x.fallen ≡ false → slice_get (path_at b s) 1 ≡ Some outer
      → is_flagged flags outer ≡ false

-- all may
abbrev pub MayHaveFalls : Numbering → List Bool → List Space → Type 0
MayHaveFalls b flags spaces = (x : Space) → IsIn x spaces → MayHaveFall b flags x

-- the next draw in the namespace begins where it says
abbrev pub HasCursor : Numbering → Space → Type 0
HasCursor b x = (s : ℕ) → id_at b s ≡ Some x.id → option_map (λ t. t.cursor) (namespace_at b s) ≡ Some x.cursor

-- the namespace is there, and has a flag if it has fallen; all other flags are as they were
pub record AddsFlag (b : Numbering) (old new : List Bool) (x : Space) : Type 0 where
  pub there : (s : ℕ) × (id_at b s ≡ Some x.id) × (x.fallen ≡ true → is_flagged new s ≡ true)
  pub kept : (s : ℕ) → is_flagged old s ≡ true → is_flagged new s ≡ true
  pub only : (s : ℕ) → is_flagged new s ≡ true → (is_flagged old s ≡ true) ⊎ ((id_at b s ≡ Some x.id) × (x.fallen ≡ true))

-- the next draws in the namespaces of the path begin at the numbers, so many of them
abbrev pub HasCursors : Numbering → List ℕ → List ℕ → ℕ → Type 0
HasCursors b path numbers count =
    (j s n : ℕ) → j < count → slice_get path j ≡ Some s → slice_get numbers j ≡ Some n
    → option_map (λ t. t.cursor) (namespace_at b s) ≡ Some n
