-- The identifiers by key, in places of which some are vacant.
use Rattle.std.specs.Prelude.{◌≡◌, ◌≢◌, ℕ, ◌≤◌, ◌^◌, ◌==◌, ◌&&◌, ◌||◌, nat_lt, Bool, List, length, map, Option, Some, None, option_map, if◌then◌else◌, slice_index_or}
use Rattle.pid_numbers.specs.declared.idents.Ident.{Ident}
use Rattle.pid_numbers.specs.Numbering.{Identifier}
use Rattle.pid_numbers.specs.Vacancy.{AreVacant, next_place as next_of}

-- the identifier or none at each key, the key of the next one, and whether there is room for it
pub record Table : Type 0 where
  pub slots : List (Option Ident)
  pub vacant_key : ℕ
  pub ready : Bool

abbrev pub get : Table → ℕ → Option Ident
get table key = slice_index_or table.slots key None

abbrev pub identifier_of : Ident → Identifier
identifier_of x = record { space = x.space; numbers = x.numbers; tasks = x.tasks; groups = x.groups; sessions = x.sessions }

abbrev pub ident_at : Table → ℕ → Option Identifier
ident_at table key = option_map identifier_of (get table key)

-- the identifier at a place, none where the place is vacant: then it has no numbers
abbrev pub shown : Ident → Option Ident
shown x = if length x.numbers == 0 then None else Some x

abbrev pub next_place : List Ident → List ℕ → ℕ
next_place = next_of

-- whether one more fits: in a vacant place, or in a new one
abbrev pub has_room : List Ident → ℕ → List ℕ → ℕ → Bool
has_room places room vacant rooms =
    nat_lt 0 (length vacant) || (nat_lt (length places) room && (nat_lt (length places) rooms && nat_lt (length places) (2 ^ 30)))

pub record IsTable (places : List Ident) (vacant : List ℕ) (rooms : ℕ) : Type 0 where
  pub vacancies : AreVacant (map shown places) vacant rooms
  pub few : length places ≤ 2 ^ 30

-- one place has another identifier, or none, and the others keep theirs
pub record ChangesPlace (old new : Table) (key : ℕ) (slot : Option Ident) : Type 0 where
  pub changed : get new key ≡ slot
  pub others : (j : ℕ) → j ≢ key → get new j ≡ get old j
