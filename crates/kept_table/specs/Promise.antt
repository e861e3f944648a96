-- What is true of a record whenever nobody works on it.
use Rattle.std.specs.Prelude.{◌≡◌, ◌↔◌, ◌<◌, ◌^◌, ℕ, Bool, true, is_some, filter, length}
use Rattle.pid_types.specs.declared.plain.Name.{Name}
use Rattle.pid_types.specs.Names.{in_use, path_up, number}
use Rattle.pid_types.specs.State.{State}
use Rattle.pid_types.specs.Limits.{ForksStayWithinLimits}
use Rattle.pid_types.specs.Membership.{IsIn}
use Rattle.pid_types.specs.Sound.{HasDistinctNumbers, IsSound, IsBelow}
use Rattle.model_laws.specs.PathLaws.{homes, CountsSubtrees, TellsSubtree}
use Rattle.model_laws.specs.ReuseLaws.{ReusesNoNumber}
use Rattle.kept_table.specs.Chronicle.{Chronicle, total, first_kept_stamp, next_stamp, IsReplayed, IsSoundlyOpened}

-- each identifier in use has a number in each namespace from its own to the root, and in no other
abbrev pub HasAllNumbers : State → Type 0
HasAllNumbers state =
    (name : Name) (s : ℕ) → IsIn name (in_use state)
    → IsIn s (path_up state.spaces name.space) ↔ (is_some (number state.spaces name s) ≡ true)

-- so many tasks are in the control group or in one below it, told by the parents of groups alone
abbrev pub IsSubtreeCount : State → ℕ → ℕ → Type 0
IsSubtreeCount state control n = (test : ℕ → Bool) → TellsSubtree state control test → n ≡ length (filter test (homes state))

-- the headline
pub record KeepsPromise (c : Chronicle) : Type 0 where
  pub numbered : HasAllNumbers c.present
  -- no number of a namespace names two
  pub distinct : HasDistinctNumbers (in_use c.present) c.present.spaces
  -- each control group's count, as it is answered and shown, is the number of tasks in its subtree
  pub counts : CountsSubtrees c.present (next_stamp c)
  -- no fork raised a count above its limit
  pub limits : ForksStayWithinLimits c.opening (first_kept_stamp c) c.entries
  -- the kept history replays, reply for reply, as one thread's
  pub replayed : IsReplayed c
  -- the ledger's book, and so all shares together, is the number of recorded calls
  pub booked : c.booked ≡ total c
  pub sound : IsSound c.present
  -- while a name is in use, no fork of the kept history gives one of its numbers in the same namespace again
  pub reuse : ReusesNoNumber c.opening (first_kept_stamp c) c.entries
  -- the kept history begins in a sound state, whose ids are below the stamps of the kept calls
  pub opened : IsSoundlyOpened c
  -- no id is ever given again
  pub below : IsBelow (next_stamp c) c.present
  -- so each recorded call had a stamp below 2^64 - 1
  pub stamps : next_stamp c < 2 ^ 64
  -- the bound of all numbers is the configuration's
  pub bound : c.present.pid_max ≡ c.config.pid_max
