-- What is read of a namespace.
use Rattle.std.specs.Prelude.{◌≡◌, ◌≢◌, ◌↔◌, ℕ, Option, None, Some}
use Rattle.pid_types.specs.State.{State}
use Rattle.translate.specs.declared.space.SpaceStat.{SpaceStat}
use Rattle.translate.specs.Spaces.{space_stat_at}
use Rattle.foreign_numbers.specs.declared.space.SpaceNumbers.{SpaceNumbers}
use Rattle.foreign_numbers.specs.Spaces.{space_numbers}
use Rattle.foreign_numbers.specs.declared.status.TheConstants.{DONE, OUT_OF_RANGE}
use Rattle.foreign_calls.specs.Records.{Has}

-- the namespace with the id is told as numbers; or there is none, or nothing is held, and they stay as they were
pub record ReadsSpace {X : Type 0} (held : Option X) (state : X → State) (id : ℕ) (old new : SpaceNumbers) (status : ℕ) : Type 0 where
  pub done : status ≡ DONE → Has held (λ x. (read : SpaceStat) × (space_stat_at (state x) id ≡ Some read) × (new ≡ space_numbers read))
  pub not_done : status ≢ DONE → new ≡ old
  pub out_of_range : (status ≡ OUT_OF_RANGE) ↔ Has held (λ x. space_stat_at (state x) id ≡ None)
