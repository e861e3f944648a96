use Rattle.std.proofs.Common.{◌≡◌, ◌++◌, ℕ, List, length}
use Rattle.std.specs.List.{AllByRecursion}
use Rattle.replica.specs.Snapshots.{IsSession, sessions_text}
use Rattle.replica.proofs.sessions.Sessions.push_lines.Given as goal

-- the lines that are left, behind what was written, come to all lines; and what was written has numbers of 64 bits
abbrev pub invariant-loop-session : goal.invariant-loop-session
invariant-loop-session l = record {
  text : l.text.items ++ sessions_text l.entries ≡ l.initial.text.items ++ sessions_text l.initial.entries;
  numbers : (written : List (ℕ × ℕ)) × (l.initial.entries ≡ l.entries ++ written) × AllByRecursion IsSession written;
}

abbrev pub decreases-loop-session : goal.decreases-loop-session
decreases-loop-session l = length l.entries
