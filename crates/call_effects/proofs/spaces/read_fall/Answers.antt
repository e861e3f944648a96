use Rattle.std.proofs.Common.{◌≡◌, false, true, Some}
use Rattle.pid_types.specs.State.{State}
use Rattle.call_effects.specs.Effects.{takes_tasks}
use Rattle.call_effects.specs.Spaces.{ending_of_space}
use Rattle.call_effects.specs.declared.effect.Effect.TheVariants.{SpaceFell}
use Rattle.call_effects.specs.declared.spaces.WatchedSpace.{WatchedSpace}
use Rattle.call_effects.proofs.spaces.read_fall.Goals as goal

fell : (new : State) (watched : WatchedSpace) → watched.stood ≡ true → false ≡ takes_tasks new watched.id → Some (SpaceFell watched.id) ≡ ending_of_space new watched
fell new watched stood gone = rw (stood, ← gone)

pub returns-then-not-is_standing : goal.returns-then-not-is_standing
returns-then-not-is_standing c = fell c.args.table.now c.args.watched.now (assumption) c.if-not-is_standing.ensures
