-- What two tables hold that are told the same calls.
use Rattle.std.specs.Prelude.{◌≡◌, ℕ}
use Rattle.pid_types.specs.declared.plain.Plain.{Plain}
use Rattle.pid_types.specs.State.{State}

-- the state of the fast table, that of the plain one, and the stamp of the next call
pub record Two : Type 0 where
  pub fast : State
  pub plain : State
  pub stamp : ℕ

-- the snapshots show the same
pub record ShowSame (a b : Plain) : Type 0 where
  pub pid_max : a.pid_max ≡ b.pid_max
  pub rows : a.rows.items ≡ b.rows.items
  pub spaces : a.spaces.items ≡ b.spaces.items
  pub controls : a.controls.items ≡ b.controls.items
