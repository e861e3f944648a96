-- Numbers that a machine word holds, as all numbers of a table are.
use Rattle.std.specs.Prelude.{◌≡◌, ℕ, ◌<◌, ◌^◌, List, [], IfSome}
use Rattle.pid_types.specs.declared.plain.Name.{Name}
use Rattle.pid_types.specs.declared.plain.Row.{Row}
use Rattle.pid_types.specs.declared.plain.Space.{Space}
use Rattle.pid_types.specs.declared.plain.Control.{Control}
use Rattle.pid_types.specs.declared.plain.Life.{Life}
use Rattle.pid_types.specs.declared.plain.Life.TheVariants.{Live, Zombie}
use Rattle.pid_types.specs.declared.plain.Ended.TheVariants.{Exited, Killed}
use Rattle.pid_types.specs.Membership.{IsIn}
use Rattle.pid_types.specs.State.{State}

-- a word of 64 bits
abbrev pub IsWord : ℕ → Type 0
IsWord n = n < 2 ^ 64

-- it is true of each element
abbrev pub Each : {X : Type 0} → (X → Type 0) → List X → Type 0
Each {X} P xs = (x : X) → IsIn x xs → P x

-- the numbers of a name
pub record IsNameOfWords (name : Name) : Type 0 where
  pub numbers : Each IsWord name.numbers.items
  pub space : IsWord name.space

-- the status of a task that has exited
abbrev pub IsLifeOfWords : Life → Type 0
IsLifeOfWords Live = Unit {0}
IsLifeOfWords (Zombie (Exited status)) = IsWord status
IsLifeOfWords (Zombie Killed) = Unit {0}

-- the numbers of a task
pub record IsRowOfWords (row : Row) : Type 0 where
  pub name : IsNameOfWords row.name
  pub parent : IfSome row.parent IsNameOfWords
  pub group : IsNameOfWords row.group
  pub session : IsNameOfWords row.session
  pub life : IsLifeOfWords row.life
  pub home : IsWord row.home
  pub children_space : IsWord row.children_space

-- the numbers of a namespace
pub record IsSpaceOfWords (space : Space) : Type 0 where
  pub id : IsWord space.id
  pub parent : IfSome space.parent IsWord
  pub cursor : IsWord space.cursor

-- the numbers of a control group
pub record IsControlOfWords (control : Control) : Type 0 where
  pub id : IsWord control.id
  pub parent : IfSome control.parent IsWord
  pub limit : IfSome control.limit IsWord

-- the numbers of a state, which has no threads: a text has no lines of threads
pub record IsStateOfWords (state : State) : Type 0 where
  pub rows : Each IsRowOfWords state.rows
  pub threads : state.threads ≡ []
  pub left : state.left ≡ []
  pub spaces : Each IsSpaceOfWords state.spaces
  pub controls : Each IsControlOfWords state.controls
  pub pid_max : IsWord state.pid_max
