-- What became of a task, read off its relations before and behind a call.
use Rattle.std.specs.Prelude.{Bool, ◌&&◌, not, ◌==◌, List, [], ◌∷◌, ◌++◌, Option, Some, None, if◌then◌else◌, false}
use Rattle.std.specs.Option.{option_map_or}
use Rattle.pid_types.specs.declared.plain.Ended.{Ended}
use Rattle.pid_types.specs.declared.plain.Ended.TheVariants.{Killed}
use Rattle.pid_types.specs.declared.plain.Life.{Life}
use Rattle.pid_types.specs.declared.plain.Life.TheVariants.{Live, Zombie}
use Rattle.pid_types.specs.State.{State}
use Rattle.translate.specs.Relations.{relations_at}
use Rattle.translate.specs.Stat.{still_lives}
use Rattle.translate.specs.declared.relations.Relations.{Relations}
use Rattle.call_effects.specs.declared.effect.Effect.{Effect}
use Rattle.call_effects.specs.declared.effect.Effect.TheVariants.{Ended as HasEnded, Adopted, Gone}
use Rattle.call_effects.specs.declared.tasks.Watched.{Watched}

-- whether the task lives, where it is there
abbrev pub lives_now : Option Relations → Bool
lives_now now = option_map_or (λ (r : Relations). still_lives r.life) now false

-- how a task with the life ended
abbrev pub end_with : Life → Ended
end_with Live = Killed
end_with (Zombie ended) = ended

-- how the task ended: one that is there no more was killed
abbrev pub end_now : Option Relations → Ended
end_now now = option_map_or (λ (r : Relations). end_with r.life) now Killed

-- the end of a task that lived
abbrev pub ending : Watched → Option Relations → Option Effect
ending w now = if still_lives w.before.life && not (lives_now now) then Some (HasEnded w.number (end_now now)) else None

-- its way to another parent, or out of the table
abbrev pub moving : Watched → Option Relations → Option Effect
moving w None = Some (Gone w.number)
moving w (Some r) = if r.parent == w.before.parent then None else Some (Adopted w.number r.parent)

-- the one effect or none
abbrev pub as_list : Option Effect → List Effect
as_list None = []
as_list (Some effect) = effect ∷ []

-- the effects on a task
abbrev pub changes : Watched → Option Relations → List Effect
changes w now = as_list (ending w now) ++ as_list (moving w now)

-- the same in the state behind the call
abbrev pub changes_in : State → Watched → List Effect
changes_in new w = changes w (relations_at new.rows w.number)
