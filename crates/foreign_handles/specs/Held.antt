-- A table alone, or a table with its history.
use Rattle.std.specs.Prelude.{ℕ, length}
use Rattle.stamped_table.specs.Stamped.{Stamped}
use Rattle.kept_table.specs.Chronicle.{next_stamp}
use Rattle.foreign_handles.specs.declared.held.Held.{Held}
use Rattle.foreign_handles.specs.declared.held.Held.TheVariants.{Bare, Recorded}

-- the table without its history: its state, and the stamp of the next call
abbrev pub stamped : Held → Stamped
stamped (Bare s) = s
stamped (Recorded c) = record { state = c.present; stamp = next_stamp c }

-- how many workers make calls: one where there is no history
abbrev pub workers : Held → ℕ
workers (Bare s) = 1
workers (Recorded c) = length c.cut
