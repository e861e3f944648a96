-- The lesser of two.
use Rattle.std.specs.Prelude.{ℕ, Bool, ◌&&◌, not, nat_lt, nat_le, option_and_then, Option, Some, None, if◌then◌else◌}
use Rattle.std.specs.Option.{option_map_or}
use Rattle.pid_types.specs.declared.call.Kind.{Kind}
use Rattle.pid_types.specs.declared.call.Which.{Which}
use Rattle.pid_types.specs.declared.plain.Row.{Row}
use Rattle.pid_types.specs.declared.plain.Thread.{Thread}
use Rattle.pid_types.specs.State.{State}
use Rattle.pid_types.specs.Names.{number, number_or_zero, is_parent, is_live}
use Rattle.pid_types.specs.Queries.{name_by}
use Rattle.pid_types.specs.Wait.{is_selected}

-- the row with the lesser number in the namespace: the one found before, or this one if its number is less
abbrev pub lesser_of : State → ℕ → Option Row → Row → Row
lesser_of state s least row =
    option_map_or (λ other.
    if nat_lt (number_or_zero state.spaces row.name s) (number_or_zero state.spaces other.name s) then row else other) least row

-- whether the row is a child that the caller's wait selects, and has ended
abbrev pub is_ended_match : State → Row → Which → Row → Bool
is_ended_match state caller which row = (is_parent caller.name row && is_selected state caller which row) && not (is_live row)

-- the row's number in the namespace, if it is not below the given one
abbrev pub number_from : State → Kind → ℕ → ℕ → Row → Option ℕ
number_from state kind s from row = option_and_then (λ n. if nat_le from n then Some n else None) (number state.spaces (name_by kind row) s)

-- the lesser of the number found before, if there is one, and this one
abbrev pub lesser_number : Option ℕ → ℕ → ℕ
lesser_number least n = option_map_or (λ m. if nat_lt n m then n else m) least n

-- the thread's number in the namespace, if it is not below the given one
abbrev pub thread_from : State → ℕ → ℕ → Thread → Option ℕ
thread_from state s from t = option_and_then (λ n. if nat_le from n then Some n else None) (number state.spaces t.name s)
