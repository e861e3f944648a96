-- A replica, and what an entry of the log makes of it.
use Rattle.std.specs.Prelude.{ℕ, ◌≡◌, ◌+◌, ◌^◌, ◌-◌, ◌==◌, ◌&&◌, ◌||◌, not, nat_le, min, Bool, true, false, List, [], ◌∷◌, ◌++◌, length, take, filter, codes, nat_eq, nat_lt, Option, Some, None, Result, Ok, Err, if◌then◌else◌}
use Rattle.std.specs.Map.{lookup}
use Rattle.std.specs.List.{starts_with}
use Rattle.hex.specs.Hex.{encode_lower}
use Rattle.lru.specs.LruCache.{last_entry}
use Rattle.sha2.specs.Sha256.{sha256}
use Rattle.stamped_table.specs.Stamped.{Stamped, after_call, reply_to}
use Rattle.pid_script.specs.declared.line.Line.{Line}
use Rattle.pid_script.specs.declared.line.Line.TheVariants as says
use Rattle.pid_script.specs.Answers.{reply_text}
use Rattle.pid_script.specs.Reading.{parsed}
use Rattle.pid_script.specs.Script.{with_newline}
use Rattle.replica.specs.Entries.{LogEntry, Settings, Opened, Ended, Calls, Wanted, Announced, entry_text}
use Rattle.replica.specs.declared.outcome.Outcome.{Outcome}
use Rattle.replica.specs.declared.outcome.Outcome.TheVariants as outcome
use Rattle.replica.specs.declared.outcome.Applied.{Applied}
use Rattle.replica.specs.declared.outcome.ReplicaFault.{ReplicaFault}
use Rattle.replica.specs.declared.outcome.ReplicaFault.TheVariants as fault
use Rattle.replica.specs.Log.{Log}

-- a replica: what it knows of its log, and its table
pub record Replica : Type 0 where
  pub log : Log
  pub table : Stamped

abbrev pub replica_of : Log → Stamped → Replica
replica_of log table = record { log = log; table = table }

-- no stamp is left
abbrev pub is_spent : Stamped → Bool
is_spent t = t.stamp == 2 ^ 64 - 1

-- the answer to a line, and what the line leaves of the table
abbrev pub answer_to : Stamped → Line → List ℕ
answer_to t says.Empty = []
answer_to t says.Bad = codes "bad line"
answer_to t (says.Call call) = if is_spent t then codes "spent" else reply_text (reply_to t call)

abbrev pub after_line : Stamped → Line → Stamped
after_line t says.Empty = t
after_line t says.Bad = t
after_line t (says.Call call) = if is_spent t then t else after_call t call

-- what lines leave, one made after the other; their answers; and the lines with their answers. A newline is behind each
abbrev pub after_lines : Stamped → List (List ℕ) → Stamped
after_lines t [] = t
after_lines t (line ∷ lines) = after_lines (after_line t (parsed line)) lines

-- some of the lines were made, from the first on, and nothing else
abbrev pub MakesFront : List (List ℕ) → Stamped → Stamped → Type 0
MakesFront lines t t' = (n : ℕ) × (t' ≡ after_lines t (take n lines))

abbrev pub answers_to : Stamped → List (List ℕ) → List ℕ
answers_to t [] = []
answers_to t (line ∷ lines) = with_newline (answer_to t (parsed line)) ++ answers_to (after_line t (parsed line)) lines

abbrev pub dialogue : Stamped → List (List ℕ) → List ℕ
dialogue t [] = []
dialogue t (line ∷ lines) =
    (with_newline line ++ with_newline (answer_to t (parsed line))) ++ dialogue (after_line t (parsed line)) lines

-- pairs without that of a key; and with one that was used just now, for which the last may go: there are at most 4,096. The sessions
-- are so, each with its last number, and the digests behind entries, each at its position
abbrev pub without_key : {V : Type 0} → ℕ → List (ℕ × V) → List (ℕ × V)
without_key key = filter (λ e. not (key == e.0))

abbrev pub used : {V : Type 0} → ℕ → V → List (ℕ × V) → List (ℕ × V)
used key value pairs = (key, value) ∷ take 4095 (without_key key pairs)

-- what becomes of the entry with a number, behind the last one of its session
abbrev pub outcome_of : Option ℕ → ℕ → Outcome
outcome_of None sequence = outcome.Gone
outcome_of (Some last) sequence =
    if nat_le sequence last then outcome.Repeated else if sequence == last + 1 then outcome.Made else outcome.Gap

-- calls that are made
abbrev pub made : Replica → ℕ → ℕ → List (List ℕ) → Replica
made r session sequence lines = record {
  log = record r.log {
    sessions = used session sequence r.log.sessions;
    digest = sha256 (r.log.digest ++ dialogue r.table lines);
    calls = min (r.log.calls + length lines) (2 ^ 64 - 1);
  };
  table = after_lines r.table lines;
}

-- calls, by what becomes of them
abbrev pub called : Replica → ℕ → ℕ → List (List ℕ) → Outcome → Replica
called r session sequence lines outcome.Made = made r session sequence lines
called r session sequence lines outcome.Repeated = r
called r session sequence lines outcome.Gone = r
called r session sequence lines outcome.Gap = r
called r session sequence lines outcome.Noted = r

-- what becomes of an entry
abbrev pub outcome_at : Replica → LogEntry → Outcome
outcome_at r (Calls session sequence position digest lines) = outcome_of (lookup (λ s. session == s) r.log.sessions) sequence
outcome_at r (Settings form pid_max model) = outcome.Noted
outcome_at r Opened = outcome.Noted
outcome_at r (Ended session) = outcome.Noted
outcome_at r Wanted = outcome.Noted
outcome_at r (Announced position digest size sum key) = outcome.Noted

-- the log begins; later settings mean nothing
abbrev pub begins : Log → LogEntry → ℕ → Log
begins log e form =
    if log.begun then log else record log { begun = true; form = form; digest = sha256 (entry_text e) }

-- what an entry makes
abbrev pub entered : Replica → ℕ → LogEntry → Replica
entered r position (Settings form pid_max model) = record r { log = begins r.log (Settings form pid_max model) form }
entered r position Opened = record r { log = record r.log { sessions = used position 0 r.log.sessions } }
entered r position (Ended session) = record r { log = record r.log { sessions = without_key session r.log.sessions } }
entered r position (Calls session sequence place digest lines) =
    called r session sequence lines (outcome_at r (Calls session sequence place digest lines))
entered r position Wanted = r
entered r position (Announced place digest size sum key) = r

-- the replica behind the entry at the position, where it keeps the digest
abbrev pub at : ℕ → Replica → Replica
at position r = record r { log = record r.log { position = position; kept = used position r.log.digest r.log.kept } }

abbrev pub applied : Replica → ℕ → LogEntry → Replica
applied r position e = at position (entered r position e)

-- the answers to an entry
abbrev pub made_answers : Replica → List (List ℕ) → Outcome → List ℕ
made_answers r lines outcome.Made = answers_to r.table lines
made_answers r lines outcome.Repeated = []
made_answers r lines outcome.Gone = []
made_answers r lines outcome.Gap = []
made_answers r lines outcome.Noted = []

abbrev pub lines_at : LogEntry → List (List ℕ)
lines_at (Calls session sequence position digest lines) = lines
lines_at (Settings form pid_max model) = []
lines_at Opened = []
lines_at (Ended session) = []
lines_at Wanted = []
lines_at (Announced position digest size sum key) = []

-- the session of calls, and their number in it; of another entry there are none
abbrev pub session_in_entry : LogEntry → ℕ
session_in_entry (Calls session sequence position digest lines) = session
session_in_entry (Settings form pid_max model) = 0
session_in_entry Opened = 0
session_in_entry (Ended session) = 0
session_in_entry Wanted = 0
session_in_entry (Announced position digest size sum key) = 0

abbrev pub sequence_of : LogEntry → ℕ
sequence_of (Calls session sequence position digest lines) = sequence
sequence_of (Settings form pid_max model) = 0
sequence_of Opened = 0
sequence_of (Ended session) = 0
sequence_of Wanted = 0
sequence_of (Announced position digest size sum key) = 0

-- what is said of an entry
abbrev pub applied_of : Replica → LogEntry → Applied
applied_of r e = record { outcome = outcome_at r e; session = session_in_entry e; sequence = sequence_of e }

abbrev pub answers_at : Replica → LogEntry → List ℕ
answers_at r e = made_answers r (lines_at e) (outcome_at r e)

-- the entry may come: the settings of this replica as the first one, and later what the form of the log has
abbrev pub is_first : Log → LogEntry → Bool
is_first log (Settings form pid_max model) = (form == 1 || form == 2) && (pid_max == log.pid_max && model == log.model)
is_first log Opened = false
is_first log (Ended session) = false
is_first log (Calls session sequence position digest lines) = false
is_first log Wanted = false
is_first log (Announced position digest size sum key) = false

abbrev pub is_later : Log → LogEntry → Bool
is_later log Wanted = not (log.form == 1)
is_later log (Announced position digest size sum key) = not (log.form == 1)
is_later log (Settings form pid_max model) = true
is_later log Opened = true
is_later log (Ended session) = true
is_later log (Calls session sequence position digest lines) = true

abbrev pub may_come : Log → LogEntry → Bool
may_come log e = if log.begun then is_later log e else is_first log e

-- whether the position is before the oldest that is kept
abbrev pub is_before : ℕ → Option (ℕ × List ℕ) → Bool
is_before position None = true
is_before position (Some oldest) = nat_lt position oldest.0

-- digits of the digest that a writer had, by the one that is kept there, if there is one
abbrev pub judged : Option (List ℕ) → Bool → List ℕ → Result Unit ReplicaFault
judged None before digits = if before then Ok tt else Err fault.Missing
judged (Some digest) before digits = if starts_with nat_eq (encode_lower digest) digits then Ok tt else Err fault.Diverged

-- whether the writer of an entry had the digest that this replica had: that of calls at an entry that the log has, or had once; that of
-- a snapshot where it is kept
abbrev pub checked : Log → LogEntry → Result Unit ReplicaFault
checked log (Calls session sequence position digest lines) =
    judged (lookup (λ p. position == p) log.kept) (is_before position (last_entry log.kept)) digest
checked log (Announced position digest size sum key) = judged (lookup (λ p. position == p) log.kept) true digest
checked log (Settings form pid_max model) = Ok tt
checked log Opened = Ok tt
checked log (Ended session) = Ok tt
checked log Wanted = Ok tt
