-- States that tables have.
use Rattle.pid_types.specs.Settings.{HasGoodPidMax}
use Rattle.pid_types.specs.Sound.{IsSound}
use Rattle.pid_types.specs.State.{State}

-- the state is sound, and its bound of all numbers is one that may be
pub record IsOfTables (state : State) : Type 0 where
  pub sound : IsSound state
  pub bound : HasGoodPidMax state.pid_max
