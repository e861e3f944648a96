-- Which numbers a row uses.
use Rattle.std.specs.Prelude.{ℕ, Bool, ◌&&◌, ◌||◌, is_none, List}
use Rattle.pid_types.specs.declared.plain.Row.{Row}
use Rattle.pid_types.specs.declared.plain.Space.{Space}
use Rattle.pid_types.specs.Names.{number, is_numbered}

-- whether the row's task, group or session has the number in the namespace
abbrev pub uses_number : List Space → ℕ → ℕ → Row → Bool
uses_number spaces s n row = (is_numbered spaces row.name s n || is_numbered spaces row.group s n) || is_numbered spaces row.session s n

-- whether none of them has a number there
abbrev pub uses_none : List Space → ℕ → Row → Bool
uses_none spaces s row =
    (is_none (number spaces row.name s) && is_none (number spaces row.group s)) && is_none (number spaces row.session s)
