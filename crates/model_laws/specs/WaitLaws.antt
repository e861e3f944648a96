-- Which child a wait reaps.
use Rattle.std.specs.Prelude.{◌≡◌, ℕ, ◌≤◌, true, false, Some}
use Rattle.pid_types.specs.declared.call.Call.TheVariants.{Wait}
use Rattle.pid_types.specs.declared.call.Which.{Which}
use Rattle.pid_types.specs.declared.plain.Row.{Row}
use Rattle.pid_types.specs.declared.plain.Ended.{Ended}
use Rattle.pid_types.specs.declared.plain.Life.TheVariants.{Zombie}
use Rattle.pid_types.specs.declared.reply.Reply.TheVariants.{Reaped, NoneYet}
use Rattle.pid_types.specs.Membership.{IsIn}
use Rattle.pid_types.specs.State.{State}
use Rattle.pid_types.specs.Names.{number_or_zero, is_live}
use Rattle.pid_types.specs.Threads.{caller_of}
use Rattle.pid_types.specs.Step.{step}
use Rattle.model_laws.specs.Refusals.{IsChild, IsSelected}

-- the task is a child that the caller's wait selects
abbrev pub MayBeReaped : State → Row → Which → Row → Type 0
MayBeReaped state caller which row = IsIn row state.rows × IsChild caller row × IsSelected state caller which row

-- a child that the wait selects and that has ended so; it has the number, and none of the others that have ended has a lesser one
pub record IsReaped (state : State) (caller : Row) (which : Which) (n : ℕ) (ended : Ended) (row : Row) : Type 0 where
  pub selected : MayBeReaped state caller which row
  pub life : row.life ≡ Zombie ended
  pub number : number_or_zero state.spaces row.name caller.name.space ≡ n
  pub least : (other : Row) → MayBeReaped state caller which other → is_live other ≡ false
      → n ≤ number_or_zero state.spaces other.name caller.name.space

-- what a wait reaps is that child
abbrev pub WaitReapsLeast : Type 0
WaitReapsLeast =
    (state : State) (stamp n : ℕ) (which : Which) (caller : Row) (child : ℕ) (ended : Ended)
    → caller_of state n ≡ Some caller → (step state stamp (Wait n which)).reply ≡ Reaped child ended
    → (row : Row) × IsReaped state caller which child ended row

-- and where it finds none yet, all that it selects live
abbrev pub NoneYetHasEnded : Type 0
NoneYetHasEnded =
    (state : State) (stamp n : ℕ) (which : Which) (caller : Row)
    → caller_of state n ≡ Some caller → (step state stamp (Wait n which)).reply ≡ NoneYet
    → (row : Row) → MayBeReaped state caller which row → is_live row ≡ true
