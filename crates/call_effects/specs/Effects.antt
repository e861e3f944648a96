-- What a call did to others: the difference of two states in tasks, process groups, sessions and namespaces.
use Rattle.std.specs.Prelude.{◌≡◌, ◌⊎◌, ℕ, Bool, false, ◌&&◌, not, ◌==◌, List, [], ◌∷◌, ◌++◌, flat_map, is_some, if◌then◌else◌}
use Rattle.std.specs.List.{list_any}
use Rattle.std.specs.Option.{option_map_or}
use Rattle.pid_types.specs.declared.call.Kind.{Kind}
use Rattle.pid_types.specs.declared.call.Kind.TheVariants.{Task, Group, Session}
use Rattle.pid_types.specs.declared.plain.Ended.{Ended}
use Rattle.pid_types.specs.declared.plain.Ended.TheVariants.{Killed}
use Rattle.pid_types.specs.Membership.{IsIn}
use Rattle.pid_types.specs.Names.{is_live, root_number, row_at, space_at}
use Rattle.pid_types.specs.Queries.{name_by}
use Rattle.pid_types.specs.Sound.{IsRising}
use Rattle.pid_types.specs.State.{State}
use Rattle.pid_types.specs.Wait.{end_of}
use Rattle.translate.specs.Relations.{parent_in}
use Rattle.call_effects.specs.declared.effect.Effect.{Effect}
use Rattle.call_effects.specs.declared.effect.Effect.TheVariants.{Ended as HasEnded, Adopted, Gone, GroupGone, SessionGone, SpaceFell, SpaceGone}

-- whether a task has the root number, live or ended
abbrev pub has_task : State → ℕ → Bool
has_task state n = is_some (row_at state.rows n)

-- whether it lives
abbrev pub is_alive : State → ℕ → Bool
is_alive state n = option_map_or is_live (row_at state.rows n) false

-- how it ended: one that is there no more was killed
abbrev pub end_at : State → ℕ → Ended
end_at state n = option_map_or end_of (row_at state.rows n) Killed

-- its parent's root number, 0 where it has none
abbrev pub parent_at : State → ℕ → ℕ
parent_at state n = option_map_or parent_in (row_at state.rows n) 0

-- whether some task, a zombie too, is in the process group or in the session with the root number, as the kind says
abbrev pub has_members_as : Kind → State → ℕ → Bool
has_members_as kind state n = list_any (λ row. root_number (name_by kind row) == n) state.rows

-- whether the namespace with the id is there
abbrev pub is_space : State → ℕ → Bool
is_space state id = is_some (space_at state.spaces id)

-- whether it takes tasks: it has not fallen
abbrev pub takes_tasks : State → ℕ → Bool
takes_tasks state id = option_map_or (λ space. not space.fallen) (space_at state.spaces id) false

-- the effect, where the test holds
abbrev pub where_so : Bool → Effect → List Effect
where_so so effect = if so then effect ∷ [] else []

-- the effect, where it was so before and is so no more
abbrev pub where_lost : (State → ℕ → Bool) → State → State → ℕ → Effect → List Effect
where_lost so old new n effect = where_so (so old n && not (so new n)) effect

-- what became of the task: it lives no more, it has another parent, it is there no more
abbrev pub fate : State → State → ℕ → List Effect
fate old new n =
    where_lost is_alive old new n (HasEnded n (end_at new n))
    ++ (where_so (has_task old n && (has_task new n && not (parent_at new n == parent_at old n))) (Adopted n (parent_at new n))
    ++ where_lost has_task old new n (Gone n))

-- the end of what has the number: a task, a process group or a session
abbrev pub gone_as : Kind → ℕ → Effect
gone_as Task n = Gone n
gone_as Group n = GroupGone n
gone_as Session n = SessionGone n

-- what became of the process group or of the session: it has no members any more
abbrev pub fate_of_members : Kind → State → State → ℕ → List Effect
fate_of_members kind old new n = where_lost (has_members_as kind) old new n (gone_as kind n)

-- what became of the namespace: it has fallen, it is there no more
abbrev pub fate_of_space : State → State → ℕ → List Effect
fate_of_space old new id = where_lost takes_tasks old new id (SpaceFell id) ++ where_lost is_space old new id (SpaceGone id)

-- the effects by rising numbers, each once, and none is left out
pub record Collects (fates : ℕ → List Effect) (effects : List Effect) : Type 0 where
  pub numbers : List ℕ
  pub rising : IsRising numbers
  pub whole : (n : ℕ) → IsIn n numbers ⊎ (fates n ≡ [])
  pub is : effects ≡ flat_map fates numbers

-- the effects are what became of the tasks, by their root numbers, then of the process groups and of the sessions, by theirs, and then of
-- the namespaces, by their ids
pub record AreEffects (old new : State) (effects : List Effect) : Type 0 where
  pub tasks : List Effect
  pub groups : List Effect
  pub sessions : List Effect
  pub spaces : List Effect
  pub of_tasks : Collects (fate old new) tasks
  pub of_groups : Collects (fate_of_members Group old new) groups
  pub of_sessions : Collects (fate_of_members Session old new) sessions
  pub of_spaces : Collects (fate_of_space old new) spaces
  pub is : effects ≡ tasks ++ groups ++ sessions ++ spaces
