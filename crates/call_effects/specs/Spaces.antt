-- The namespaces of tasks before a call, and what became of each.
use Rattle.std.specs.Prelude.{ℕ, ◌&&◌, not, nat_lt, List, [], ◌∷◌, ◌++◌, filter, Option, Some, None, if◌then◌else◌}
use Rattle.pid_types.specs.Names.{path_up}
use Rattle.pid_types.specs.State.{State}
use Rattle.call_effects.specs.Changes.{as_list}
use Rattle.call_effects.specs.declared.effect.Effect.{Effect}
use Rattle.call_effects.specs.declared.effect.Effect.TheVariants.{SpaceFell, SpaceGone}
use Rattle.call_effects.specs.declared.spaces.WatchedSpace.{WatchedSpace}
use Rattle.call_effects.specs.declared.tasks.Watched.{Watched}
use Rattle.call_effects.specs.Effects.{is_space, takes_tasks}

-- the namespaces of the task's own name, of its group's and of its session's
abbrev pub watched_spaces : Watched → List ℕ
watched_spaces w = w.before.space ∷ w.before.group_space ∷ w.before.session_space ∷ []

-- the namespace and those around it, innermost first, but the root namespace
abbrev pub inner_path : State → ℕ → List ℕ
inner_path state id = filter (nat_lt 0) (path_up state.spaces id)

-- the fall of one that stood
abbrev pub ending_of_space : State → WatchedSpace → Option Effect
ending_of_space new w = if w.stood && not (takes_tasks new w.id) then Some (SpaceFell w.id) else None

-- the end of one that was there
abbrev pub going_of_space : State → WatchedSpace → Option Effect
going_of_space new w = if is_space new w.id then None else Some (SpaceGone w.id)

-- what became of the namespace
abbrev pub changes_of_space : State → WatchedSpace → List Effect
changes_of_space new w = as_list (ending_of_space new w) ++ as_list (going_of_space new w)
