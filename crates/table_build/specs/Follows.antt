-- What a text may have behind the lines before.
use Rattle.std.specs.Prelude.{◌≡◌, ℕ, ◌-◌, ◌<◌, ◌≤◌, List, Some, IsSome, false, length, reverse, slice_get}
use Rattle.std.specs.List.{AllByRecursion}
use Rattle.pid_types.specs.declared.plain.Control.{Control}
use Rattle.pid_types.specs.declared.plain.Name.{Name}
use Rattle.pid_types.specs.declared.plain.Space.{Space}
use Rattle.pid_types.specs.Bounds.{deepest_control, deepest_space}
use Rattle.pid_types.specs.Names.{space_at, path_up}
use Rattle.pid_types.specs.Controls.{control_at, control_path}
use Rattle.pid_types.specs.Chains.{contains}
use Rattle.pid_types.specs.Membership.{IsIn}
use Rattle.pid_numbers.specs.Numbering.{Numbering, id_at, path_at, taken_in}
use Rattle.pid_types.specs.Sound.{HasGoodLimit, IsTreeOfControls, IsTreeOfSpaces, RootStands}

-- the control group has a greater id than the last one, is in one of those before it that is not too deep, and its limit may be
pub record MayFollow (before : List Control) (last : ℕ) (c : Control) : Type 0 where
  pub above : last < c.id
  pub inside : (p : ℕ) × (c.parent ≡ Some p) × IsSome (control_at before p) × (length (control_path before p) ≤ deepest_control)
  pub good : HasGoodLimit c

-- the control groups are a tree, with limits that may be
pub record AreGoodControls (controls : List Control) : Type 0 where
  pub tree : IsTreeOfControls controls
  pub limits : (c : Control) → IsIn c controls → HasGoodLimit c

-- their ids are up to that of the one before the place
abbrev pub AreUpToLast : List Control → List Control → ℕ → Type 0
AreUpToLast before all i = (c : Control) → slice_get all (i - 1) ≡ Some c → AllByRecursion (λ g. g.id ≤ c.id) before

-- each namespace's id is up to this one
abbrev pub AreIdsUpTo : ℕ → List Space → Type 0
AreIdsUpTo last spaces = AllByRecursion (λ s. s.id ≤ last) spaces

-- the namespace has a greater id than the last one, and is in one of those before it that is not too deep
pub record MayStandBehind (before : List Space) (last : ℕ) (x : Space) : Type 0 where
  pub above : last < x.id
  pub inside : (p : ℕ) × (x.parent ≡ Some p) × IsSome (space_at before p) × (length (path_up before p) ≤ deepest_space)

-- the namespaces are a tree, whose root stands
pub record AreGoodSpaces (spaces : List Space) : Type 0 where
  pub tree : IsTreeOfSpaces spaces
  pub root : RootStands spaces

-- the name's namespace is there, and it has a free number in range for each namespace of the path
pub record MayBear (b : Numbering) (name : Name) : Type 0 where
  pub space : ℕ
  pub named : id_at b space ≡ Some name.space
  pub long : length name.numbers.items ≡ length (path_at b space)
  pub free : (j s n : ℕ) → slice_get (path_at b space) j ≡ Some s → slice_get (reverse name.numbers.items) j ≡ Some n
      → (0 < n) × (n < b.pid_max) × (contains (taken_in b s) n ≡ false)
