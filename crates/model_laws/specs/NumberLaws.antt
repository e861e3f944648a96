-- Where a name's numbers stand, that no number names two, and that the sweep leaves them.
use Rattle.std.specs.Prelude.{◌≡◌, ◌↔◌, ℕ, true, List, length, drop, None, Some, slice_get, is_some, ◌≤◌}
use Rattle.pid_types.specs.declared.plain.Name.{Name}
use Rattle.pid_types.specs.declared.plain.Space.{Space}
use Rattle.pid_types.specs.declared.plain.Control.{Control}
use Rattle.pid_types.specs.State.{State}
use Rattle.pid_types.specs.Names.{parent_space, path_up, level, number, numbers_from, in_use}
use Rattle.pid_types.specs.Controls.{control_path}
use Rattle.pid_types.specs.Outcome.{sweep}
use Rattle.pid_types.specs.Sound.{IsSound, HasDistinctNumbers}
use Rattle.pid_types.specs.Membership.{IsIn}

-- the number of a name with one number for each level, in a namespace on its path, is the entry at the level of that namespace
abbrev pub NumberIsAtLevel : Type 0
NumberIsAtLevel =
    (spaces : List Space) (name : Name) (s : ℕ)
    → parent_space spaces 0 ≡ None → IsIn 0 (path_up spaces name.space) → length name.numbers.items ≡ length (path_up spaces name.space)
    → IsIn s (path_up spaces name.space) → number spaces name s ≡ slice_get name.numbers.items (level spaces s)

-- and its numbers from that namespace inwards, which NSpid shows, are those at that level and behind it
abbrev pub NumbersFromLevel : Type 0
NumbersFromLevel =
    (spaces : List Space) (name : Name) (s : ℕ)
    → parent_space spaces 0 ≡ None → IsIn 0 (path_up spaces name.space) → length name.numbers.items ≡ length (path_up spaces name.space)
    → IsIn s (path_up spaces name.space) → numbers_from spaces name s ≡ drop (level spaces s) name.numbers.items

-- in a sound state a name in use has a number in each namespace from its own to the root, and in no other
abbrev pub NamesHaveNumbers : Type 0
NamesHaveNumbers =
    (state : State) (name : Name) (s : ℕ) → IsSound state → IsIn name (in_use state)
    → IsIn s (path_up state.spaces name.space) ↔ (is_some (number state.spaces name s) ≡ true)

-- and no number of a namespace names two
abbrev pub NoNumberNamesTwo : Type 0
NoNumberNamesTwo = (state : State) → IsSound state → HasDistinctNumbers (in_use state) state.spaces

-- in a sound state the root is at most 32 levels above each namespace, and at most 64 above each control group
abbrev pub LevelsAreBounded : Type 0
LevelsAreBounded =
    (state : State) → IsSound state
    → ((s : Space) → IsIn s state.spaces → IsIn 0 (path_up state.spaces s.id) × (level state.spaces s.id ≤ 32))
    × ((c : Control) → IsIn c state.controls → IsIn 0 (control_path state.controls c.id) × (length (control_path state.controls c.id) ≤ 65))

-- the sweep takes no namespace in which a name in use has a number
abbrev pub SweepKeepsNumbered : Type 0
SweepKeepsNumbered =
    (state : State) (s : Space) (name : Name) (n : ℕ)
    → IsIn s state.spaces → IsIn name (in_use state) → number state.spaces name s.id ≡ Some n → IsIn s (sweep state).spaces

-- in a sound state the sweep takes nothing, so a call that changes nothing needs none after it
abbrev pub SoundNeedsNoSweep : Type 0
SoundNeedsNoSweep = (state : State) → IsSound state → sweep state ≡ state
