-- The process groups and sessions of tasks before a call, and what became of each.
use Rattle.std.specs.Prelude.{ℕ, not, List}
use Rattle.pid_types.specs.declared.call.Kind.{Kind}
use Rattle.pid_types.specs.declared.call.Kind.TheVariants.{Task, Group, Session}
use Rattle.pid_types.specs.State.{State}
use Rattle.call_effects.specs.declared.effect.Effect.{Effect}
use Rattle.call_effects.specs.declared.tasks.Watched.{Watched}
use Rattle.call_effects.specs.Effects.{gone_as, has_members_as, where_so}

-- the root number of what the task belonged to, as the kind says
abbrev pub owner_by : Kind → Watched → ℕ
owner_by Task w = w.number
owner_by Group w = w.before.group
owner_by Session w = w.before.session

-- its end, where it has no members in the state
abbrev pub gone_in : Kind → State → ℕ → List Effect
gone_in kind state n = where_so (not (has_members_as kind state n)) (gone_as kind n)
