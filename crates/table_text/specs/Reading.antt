-- What is read of a text.
use Rattle.std.specs.Prelude.{◌≡◌, ◌⊎◌, ℕ, ◌<◌, ◌≤◌, ◌^◌, List, [], ◌∷◌, ◌++◌, take, drop, length, Option, IfSome, OnSome}
use Rattle.std.specs.List.{flat_map}
use Rattle.pid_types.specs.declared.plain.Name.{Name}
use Rattle.pid_types.specs.declared.plain.Row.{Row}
use Rattle.pid_types.specs.declared.plain.Space.{Space}
use Rattle.pid_types.specs.declared.plain.Control.{Control}
use Rattle.pid_types.specs.declared.plain.Life.{Life}
use Rattle.pid_types.specs.declared.plain.Life.TheVariants.{Live, Zombie}
use Rattle.pid_types.specs.declared.plain.Ended.TheVariants.{Exited, Killed}
use Rattle.pid_types.specs.State.{State}
use Rattle.pid_script.specs.Answers.{joined}
use Rattle.pid_script.specs.Lists.{field}
use Rattle.table_text.specs.Ranges.{IsWord, Each}
use Rattle.table_text.specs.Texts.{text_of}
use Rattle.table_text.specs.declared.read.Saved.{Saved}

-- what stands between the two places is this
abbrev pub IsRead : List ℕ → ℕ → ℕ → List ℕ → Type 0
IsRead text from to part = take to text ≡ take from text ++ part

-- a byte that is no digit
abbrev pub IsOther : ℕ → Type 0
IsOther b = (b < 48) ⊎ (57 < b)

-- the text is at its end, or goes on with a byte that is no digit
abbrev pub StopsDigits : List ℕ → Type 0
StopsDigits [] = Unit {0}
StopsDigits (b ∷ bs) = IsOther b

-- what is answered stands between the two places, and is of a kind. The place is within the text, whatever is answered
pub record Reads {A : Type 0} (text : List ℕ) (from to : ℕ) (result : Option A) (part : A → List ℕ) (IsGood : A → Type 0) : Type 0 where
  pub within : to ≤ length text
  pub read : IfSome result (λ a. IsRead text from to (part a))
  pub words : IfSome result IsGood

-- the same, and the text stops behind it
pub record ReadsToStop {A : Type 0} (text : List ℕ) (from to : ℕ) (result : Option A) (part : A → List ℕ)
    (IsGood : A → Type 0) : Type 0 where
  pub within : to ≤ length text
  pub read : IfSome result (λ a. IsRead text from to (part a))
  pub words : IfSome result IsGood
  pub stops : OnSome result (StopsDigits (drop to text))

-- no number below the bound stands behind this label at the place, with what stops behind it
abbrev pub LacksField : ℕ → List ℕ → List ℕ → ℕ → Type 0
LacksField bound label text at = (n : ℕ) (rest : List ℕ) → n < bound → StopsDigits rest → drop at text ≡ field label n ++ rest → ⊥

-- the same without a label
abbrev pub LacksNumber : ℕ → List ℕ → ℕ → Type 0
LacksNumber bound text at = LacksField bound [] text at

-- nothing of a kind stands at the place, with what stops behind it
abbrev pub LacksAny : {A : Type 0} → (A → Type 0) → (A → List ℕ) → List ℕ → ℕ → Type 0
LacksAny {A} IsHeld part text at = (a : A) (rest : List ℕ) → IsHeld a → StopsDigits rest → drop at text ≡ part a ++ rest → ⊥

-- a number of 32 bits
abbrev pub IsSmall : ℕ → Type 0
IsSmall n = n < 2 ^ 32

-- the word does not stand at the place
abbrev pub Lacks : List ℕ → List ℕ → ℕ → Type 0
Lacks word text at = (rest : List ℕ) → drop at text ≡ word ++ rest → ⊥

-- the same of a line, whatever stands behind it
abbrev pub LacksLine : {A : Type 0} → (A → Type 0) → (A → List ℕ) → List ℕ → ℕ → Type 0
LacksLine {A} IsHeld line text at = (a : A) (rest : List ℕ) → IsHeld a → drop at text ≡ line a ++ rest → ⊥

-- no bound and stamp stand at the place, with what stops behind them
abbrev pub LacksSettings : (ℕ → ℕ → List ℕ) → List ℕ → ℕ → Type 0
LacksSettings part text at =
    (pid_max stamp : ℕ) (rest : List ℕ) → IsSmall pid_max → IsWord stamp → StopsDigits rest → drop at text ≡ part pid_max stamp ++ rest → ⊥

-- the same of the first line, whatever stands behind it
abbrev pub LacksHead : (ℕ → ℕ → List ℕ) → List ℕ → ℕ → Type 0
LacksHead line text at =
    (pid_max stamp : ℕ) (rest : List ℕ) → IsSmall pid_max → IsWord stamp → drop at text ≡ line pid_max stamp ++ rest → ⊥

-- the numbers of an identifier: one for each of its 1 to 33 levels, and each as its type holds it
pub record AreHeldNumbers (numbers : List ℕ) : Type 0 where
  pub some : 0 < length numbers
  pub levels : length numbers ≤ 33
  pub small : Each IsSmall numbers

-- no such numbers stand at the place, up to an at sign
abbrev pub LacksNumbers : List ℕ → ℕ → Type 0
LacksNumbers text at = (numbers rest : List ℕ) → AreHeldNumbers numbers → drop at text ≡ joined 44 numbers ++ 64 ∷ rest → ⊥

-- an identifier with such numbers, and its namespace as its type holds it
pub record IsHeldName (name : Name) : Type 0 where
  pub numbers : AreHeldNumbers name.numbers.items
  pub space : IsWord name.space

-- the status of a task that has exited, as its type holds it
abbrev pub IsHeldLife : Life → Type 0
IsHeldLife Live = Unit {0}
IsHeldLife (Zombie (Exited status)) = status < 2 ^ 8
IsHeldLife (Zombie Killed) = Unit {0}

-- behind a status the text stops
abbrev pub StopsBehind : Life → List ℕ → Type 0
StopsBehind Live rest = Unit {0}
StopsBehind (Zombie (Exited status)) rest = StopsDigits rest
StopsBehind (Zombie Killed) rest = Unit {0}

-- a task with such identifiers, and its other numbers as its type holds them
pub record IsHeldRow (row : Row) : Type 0 where
  pub name : IsHeldName row.name
  pub parent : IfSome row.parent IsHeldName
  pub group : IsHeldName row.group
  pub session : IsHeldName row.session
  pub life : IsHeldLife row.life
  pub home : IsWord row.home
  pub children_space : IsWord row.children_space

-- the numbers of a namespace, as its type holds them
pub record IsHeldSpace (space : Space) : Type 0 where
  pub id : IsWord space.id
  pub parent : IfSome space.parent IsWord
  pub cursor : IsSmall space.cursor

-- the numbers of a control group, as its type holds them
pub record IsHeldControl (control : Control) : Type 0 where
  pub id : IsWord control.id
  pub parent : IfSome control.parent IsWord
  pub limit : IfSome control.limit IsSmall

-- a state whose numbers fit, and which has no threads: a text has no lines of threads
pub record IsHeldState (state : State) : Type 0 where
  pub rows : Each IsHeldRow state.rows
  pub threads : state.threads ≡ []
  pub left : state.left ≡ []
  pub spaces : Each IsHeldSpace state.spaces
  pub controls : Each IsHeldControl state.controls
  pub pid_max : IsSmall state.pid_max

-- an identifier with a number
abbrev pub IsNumbered : Name → Type 0
IsNumbered name = 0 < length name.numbers.items

-- each identifier of a task has a number
pub record HasNumbers (row : Row) : Type 0 where
  pub name : IsNumbered row.name
  pub parent : IfSome row.parent IsNumbered
  pub group : IsNumbered row.group
  pub session : IsNumbered row.session

-- the text goes on with another byte, or is at its end
abbrev pub IsNotAt : ℕ → List ℕ → Type 0
IsNotAt byte text = (rest : List ℕ) → text ≡ byte ∷ rest → ⊥

-- no lines that begin with this byte stand at the place, up to what begins otherwise
abbrev pub LacksLines : {A : Type 0} → (A → Type 0) → (A → List ℕ) → ℕ → List ℕ → ℕ → Type 0
LacksLines {A} IsHeld line byte text at =
    (xs : List A) (rest : List ℕ) → Each IsHeld xs → IsNotAt byte rest → drop at text ≡ flat_map line xs ++ rest → ⊥

-- the text is that of no state whose numbers fit, with no stamp
abbrev pub IsNoText : List ℕ → Type 0
IsNoText text = (stamp : ℕ) (state : State) → IsWord stamp → IsHeldState state → text ≡ text_of stamp state → ⊥

-- the state that a text says: one without threads
abbrev pub saved_state : Saved → State
saved_state saved = record {
  rows = saved.rows;
  threads = [];
  left = [];
  spaces = saved.spaces.items;
  controls = saved.controls.items;
  pid_max = saved.pid_max;
}
