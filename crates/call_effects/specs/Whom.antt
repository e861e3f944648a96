-- Whom a call may touch, as the table is asked for them.
use Rattle.std.specs.Prelude.{◌≡◌, ◌==◌, ℕ, Bool, false, ℤ, pos, negsuc, List, [], ◌∷◌, Option, Some, None, option_map, option_and_then}
use Rattle.pid_types.specs.declared.plain.Row.{Row}
use Rattle.pid_types.specs.declared.reply.Reply.{Reply}
use Rattle.pid_types.specs.declared.reply.Reply.TheVariants.{Number}
use Rattle.pid_types.specs.Names.{root_number, live_row}
use Rattle.pid_types.specs.Queries.{self_or_task}
use Rattle.pid_types.specs.State.{State}
use Rattle.translate.specs.declared.page.Whom.{Whom}
use Rattle.translate.specs.Pages.{numbers_asked, AreListedFrom}

-- the one number or none
abbrev pub none_or_one : Option ℕ → List ℕ
none_or_one None = []
none_or_one (Some n) = n ∷ []

-- whether the reply is the number
abbrev pub is_number : ℕ → Reply → Bool
is_number m (Number n) = n == m
is_number m _ = false

-- the root number of the task with the number in the caller's namespace, where 0 is the caller
abbrev pub root_seen : State → ℕ → ℕ → Option ℕ
root_seen state n number =
    option_and_then (λ caller. option_map (λ row. root_number row.name) (self_or_task state caller number)) (live_row state.rows n)

-- the same of the task that setpgid(2) means by the number
abbrev pub target_seen : State → ℕ → ℤ → Option ℕ
target_seen state n (pos m) = root_seen state n m
target_seen state n (negsuc m) = None

-- the list has the numbers that the root init asks for, in rising order
abbrev pub IsRootList : State → Whom → ℕ → List ℕ → Type 0
IsRootList state whom number listed =
    (root : Row) → live_row state.rows 1 ≡ Some root → AreListedFrom (numbers_asked state root whom number) 0 listed
