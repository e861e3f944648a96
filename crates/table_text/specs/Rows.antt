-- Rows in little room: the numbers of all names stand in one list.
use Rattle.std.specs.Prelude.{◌≡◌, ℕ, ◌+◌, ◌≤◌, ◌++◌, List, take, drop, length, map, option_map, IfSome, IfOk, Result}
use Rattle.pid_types.specs.declared.plain.Name.{Name}
use Rattle.pid_types.specs.declared.plain.Row.{Row}
use Rattle.table_text.specs.Ranges.{Each}
use Rattle.table_text.specs.declared.rows.Place.{Place}
use Rattle.table_text.specs.declared.rows.Line.{Line}

-- the name whose numbers stand at the place
abbrev pub name_in : List ℕ → Place → Name
name_in numbers place = record { space = place.space; numbers = record { items = take place.count (drop place.start numbers) } }

-- the row whose names stand at these places
abbrev pub row_in : List ℕ → Line → Row
row_in numbers line = record {
  name = name_in numbers line.name;
  parent = option_map (name_in numbers) line.parent;
  group = name_in numbers line.group;
  session = name_in numbers line.session;
  executed = line.executed;
  life = line.life;
  home = line.home;
  children_space = line.children_space;
  subreaper = line.subreaper;
}

abbrev pub rows_in : List ℕ → List Line → List Row
rows_in numbers lines = map (row_in numbers) lines

-- the place is within so many numbers, and has no more than a name may have
pub record IsWithin (all : ℕ) (place : Place) : Type 0 where
  pub fits : place.start + place.count ≤ all
  pub few : place.count ≤ 33

-- so are those of a line
pub record IsLineWithin (all : ℕ) (line : Line) : Type 0 where
  pub name : IsWithin all line.name
  pub parent : IfSome line.parent (IsWithin all)
  pub group : IsWithin all line.group
  pub session : IsWithin all line.session

-- and those of all lines
abbrev pub AreWithin : ℕ → List Line → Type 0
AreWithin all lines = Each (IsLineWithin all) lines

-- there are more numbers, behind those that were there
abbrev pub IsGrown : List ℕ → List ℕ → Type 0
IsGrown old new = (more : List ℕ) × (new ≡ old ++ more)

-- the numbers that were there stay, and the place that is answered is the name's
pub record PlacesName {E : Type 0} (old new : List ℕ) (result : Result Place E) (name : Name) : Type 0 where
  pub grown : IsGrown old new
  pub within : IfOk result (IsWithin (length new))
  pub named : IfOk result (λ place. name_in new place ≡ name)
