-- The tasks of a namespace, by the numbers that it or a namespace around it has for them.
use Rattle.std.specs.Prelude.{ℕ, Bool, ◌==◌, nat_lt, List, length, map, filter, filter_map}
use Rattle.pid_types.specs.declared.call.Kind.TheVariants.{Task}
use Rattle.pid_types.specs.declared.plain.Row.{Row}
use Rattle.pid_types.specs.declared.plain.Space.{Space}
use Rattle.pid_types.specs.Names.{is_member, number}
use Rattle.pid_types.specs.Sight.{Glimpse, number_by}
use Rattle.pid_types.specs.State.{State}
use Rattle.translate.specs.declared.members.Reach.{Reach}
use Rattle.translate.specs.declared.members.Reach.TheVariants.{Own, Subtree}

-- whether the task is in the namespace: in it itself; or in it or a namespace inside it, so that it is visible there
abbrev pub is_among : List Space → Reach → ℕ → Row → Bool
is_among spaces Own s row = row.name.space == s
is_among spaces Subtree s row = is_member spaces s row

-- the numbers that the viewer has for the tasks of the namespace, those that are visible to it
abbrev pub visible_numbers : State → Reach → ℕ → ℕ → List ℕ
visible_numbers state reach s viewer =
    filter_map (λ row. number state.spaces row.name viewer) (filter (is_among state.spaces reach s) state.rows)

-- of what a namespace sees, the tasks that are in it: those that have no number further inside; or all
abbrev pub glimpses_in : Reach → List Glimpse → List Glimpse
glimpses_in Own sight = filter (λ g. length g.numbers == 1) sight
glimpses_in Subtree sight = sight

-- their numbers, as the namespace sees them
abbrev pub members_seen : Reach → List Glimpse → List ℕ
members_seen reach sight = filter (nat_lt 0) (map (number_by Task) (glimpses_in reach sight))
