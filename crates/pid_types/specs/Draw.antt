-- The cyclic draw of a number.
use Rattle.std.specs.Prelude.{ℕ, max, nat_lt, List, length, Option, Some, None, if◌then◌else◌, unwrap_or, option_map}
use Rattle.pid_types.specs.Bounds.{reserved_numbers}
use Rattle.pid_types.specs.Chains.{first_absent}
use Rattle.pid_types.specs.State.{State}
use Rattle.pid_types.specs.Names.{taken, space_at}

-- the least number from n on that is not taken
unfoldable pub least_free : List ℕ → ℕ → ℕ
least_free ns n = first_absent ns (length ns) n

-- where a draw starts again: the kernel's RESERVED_PIDS are left to the first processes
abbrev pub restart : ℕ → ℕ
restart cursor = if nat_lt reserved_numbers cursor then reserved_numbers else 1

-- the least free number from the cursor on, or else from the restart on: idr_alloc_cyclic of the kernel's ID allocation document
unfoldable pub cyclic_draw : ℕ → ℕ → List ℕ → Option ℕ
cyclic_draw pid_max cursor ns =
    let low = restart cursor in
    let upper = least_free ns (max cursor low) in
    let lower = least_free ns low in
    if nat_lt upper pid_max then Some upper else (if nat_lt lower pid_max then Some lower else None)

-- the cursor of the namespace
abbrev pub cursor_of : State → ℕ → ℕ
cursor_of state s = unwrap_or (option_map (λ t. t.cursor) (space_at state.spaces s)) 0

-- the number that the namespace gives next
unfoldable pub draw : State → ℕ → Option ℕ
draw state s = cyclic_draw state.pid_max (cursor_of state s) (taken state s)
