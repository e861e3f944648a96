-- What a store in the making has of the text that it is made of.
use Rattle.std.specs.Prelude.{◌≡◌, ℕ, map, true, false, List, Some, slice_get}
use Rattle.pid_types.specs.declared.plain.Name.{Name}
use Rattle.pid_types.specs.declared.plain.Row.{Row}
use Rattle.pid_types.specs.Membership.{IsIn}
use Rattle.pid_types.specs.Names.{names_in_use}
use Rattle.pid_types.specs.State.{State}
use Rattle.task_table.specs.Store.{Store}
use Rattle.task_table.specs.View.{row_with, spaces_of}
use Rattle.table_build.specs.Bare.{undrawn, steady}
use Rattle.table_build.specs.Lines.{is_held}
use Rattle.table_build.specs.Recent.{Bears}
use Rattle.table_build.specs.declared.placed.Placed.{Placed}

-- the namespaces of the text, all of which stand, its control groups, and its bound
pub record HasParts (s : Store) (text : State) : Type 0 where
  pub spaces : map steady (spaces_of s.numbering) ≡ map undrawn text.spaces
  pub controls : s.charges.controls ≡ text.controls
  pub bound : s.numbering.pid_max ≡ text.pid_max

-- these, and tasks with names that the text uses
pub record IsPart (s : Store) (text : State) : Type 0 where
  pub places : HasParts s text
  pub names : (k : ℕ) (r : Row) → row_with s k ≡ Some r → IsIn r.name (names_in_use text.rows)

-- no task bears the name
abbrev pub IsUnborne : Store → Name → Type 0
IsUnborne s name = (k : ℕ) → Bears s k name → ⊥

-- the name of each row is borne by a task that is no placeholder
abbrev pub AreAllBorne : Store → Placed → List Row → Type 0
AreAllBorne s p rows = (r : Row) → IsIn r rows → (k : ℕ) × Bears s k r.name × (is_held p k ≡ false)

-- whoever bears the name of the group of one of the first lines, and is a placeholder, is in the line's session
abbrev pub HaveSeats : Store → Placed → List Row → Type 0
HaveSeats s p rows = (j g : ℕ) (row r : Row) → slice_get p.groups.items j ≡ Some g → slice_get rows j ≡ Some row → is_held p g ≡ true
    → row_with s g ≡ Some r → r.session ≡ row.session

-- each placeholder is in a group of its own name, and in the session of that group's lines
pub record AreSeated (s : Store) (p : Placed) (rows : List Row) : Type 0 where
  pub alone : (k : ℕ) (r : Row) → is_held p k ≡ true → row_with s k ≡ Some r → r.group ≡ r.name
  pub seats : HaveSeats s p rows
