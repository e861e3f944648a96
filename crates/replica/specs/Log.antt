-- What a replica knows of its log.
use Rattle.std.specs.Prelude.{ℕ, Bool, List}

-- the form of the log, and the settings of this replica; whether the log has begun; the position of the last entry that was applied;
-- the open sessions, each with the number of its last entry that counted, the one first that was used last; the digest; the digests
-- behind the last 4,096 entries, the last one first; how many calls were made; and whether there was no memory amid an entry, so that
-- the table is not that of the log any more
pub record Log : Type 0 where
  pub form : ℕ
  pub pid_max : ℕ
  pub model : ℕ
  pub begun : Bool
  pub position : ℕ
  pub sessions : List (ℕ × ℕ)
  pub digest : List ℕ
  pub kept : List (ℕ × List ℕ)
  pub calls : ℕ
  pub torn : Bool

-- what is known of a log, and the answers to the entry that was applied last
pub record Hosted : Type 0 where
  pub log : Log
  pub answers : List ℕ
