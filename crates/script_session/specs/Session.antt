-- What running a script does to a table, a source and a sink.
use Rattle.std.specs.Prelude.{ℕ, ◌≡◌, ◌≢◌, ◌+◌, ◌-◌, ◌^◌, ◌<◌, ◌≤◌, Bool, true, false, List, [], ◌∷◌, ◌++◌, length, Option, Result, Ok, Err, IsTrue, ◌⊎◌}
use Rattle.std.specs.Io.KnownBytes.{Appends, Consumes, IsAtEnd}
use Rattle.pid_types.specs.declared.call.Call.{Call}
use Rattle.pid_types.specs.declared.reply.CallFault.{CallFault}
use Rattle.pid_types.specs.declared.reply.CallFault.TheVariants.{NoMemory, Spent}
use Rattle.pid_types.specs.declared.reply.Reply.{Reply}
use Rattle.pid_types.specs.State.{State}
use Rattle.pid_types.specs.Step.{step}
use Rattle.pid_script.specs.declared.line.Line.{Line}
use Rattle.script_session.specs.declared.tally.Tally.{Tally}
use Rattle.script_session.specs.declared.tally.RunScriptFault.{RunScriptFault}
use Rattle.script_session.specs.declared.tally.RunScriptFault.TheVariants as fault
use Rattle.pid_script.specs.Script.{said_of, said_whole}
use Rattle.script_session.specs.Progress.{Progress, after_saying, after_script, MayStarve, SaysScript}

-- a call of a table: one step at the stamp, which is used up then; or nothing has changed. Only a call that may find no memory finds none
abbrev pub Acts : (Call → Bool) → State → ℕ → Call → Result Reply CallFault → State → ℕ → Type 0
Acts may state stamp call (Ok reply) state' stamp' =
    let o = step state stamp call in
    (stamp ≢ 2 ^ 64 - 1) × (reply ≡ o.reply) × (state' ≡ o.state) × (stamp' ≡ stamp + 1)
Acts may state stamp call (Err NoMemory) state' stamp' = (stamp ≢ 2 ^ 64 - 1) × (state' ≡ state) × (stamp' ≡ stamp) × IsTrue (may call)
Acts may state stamp call (Err Spent) state' stamp' = (stamp ≡ 2 ^ 64 - 1) × (state' ≡ state) × (stamp' ≡ stamp)

-- where each call may find no memory
abbrev pub any_call : Call → Bool
any_call call = true

-- whether a call found no memory
abbrev pub is_starved : {T : Type 0} → Result T CallFault → Bool
is_starved (Ok done) = false
is_starved (Err NoMemory) = true
is_starved (Err Spent) = false

-- what a call of a table adds to those that it has made: itself with its reply, or nothing
abbrev pub made_by : Call → Result Reply CallFault → List (Call × Reply)
made_by call (Ok reply) = (call, reply) ∷ []
made_by call (Err fault) = []

-- how far a script has come, with all its answers and all its calls
abbrev pub ended_at : State → ℕ → Tally → List ℕ → List (Call × Reply) → Progress
ended_at state stamp tally text calls = record {
  state = state;
  stamp = stamp;
  text = text;
  calls = calls;
  lines = tally.lines;
  recorded = tally.recorded;
  bad = tally.bad;
  starved = tally.starved;
}

-- how far a script has come from here on, with the answers that are not sent yet
abbrev pub progress_of : State → ℕ → Tally → List ℕ → Progress
progress_of state stamp tally held = ended_at state stamp tally held []

-- whatever answers wait, the line leads from here to there by these calls, and this text waits behind them
abbrev pub Leads : (Call → Bool) → State → ℕ → Tally → Line → List ℕ → List (Call × Reply) → State → ℕ → Tally → Type 0
Leads may state stamp tally line text calls state' stamp' tally' =
    (starved : Bool)
    × MayStarve may line starved
    × ((held : List ℕ)
    → after_saying (progress_of state stamp tally held) starved line ≡ ended_at state' stamp' tally' (held ++ text) calls)

-- the lines took the script from p to q, what left the outbox of their answers was sent so, and their calls were made so
pub record Answers (may : Call → Bool) (p q : Progress) (IsSent : List ℕ → Type 0) (AreMade : List (Call × Reply) → Type 0)
    (lines : List Line) : Type 0 where
  pub sent : List ℕ
  pub calls : List (Call × Reply)
  pub script : List (Line × Bool)
  pub says : SaysScript may script lines
  pub appended : IsSent sent
  pub made : AreMade calls
  pub reached : record q { text = sent ++ q.text; calls = calls ++ q.calls } ≡ after_script p script

-- what was sent so of the answers to the lines is not all of them
pub record StopsShort (may : Call → Bool) (p : Progress) (IsSent : List ℕ → Type 0) (lines : List Line) : Type 0 where
  pub sent : List ℕ
  pub left : List ℕ
  pub script : List (Line × Bool)
  pub says : SaysScript may script lines
  pub appended : IsSent sent
  pub short : (after_script p script).text ≡ sent ++ left
  pub some_left : 0 < length left

-- there are at least as many lines as recorded calls, as bad ones, and as calls that found no memory
abbrev pub IsTallied : Tally → Type 0
IsTallied tally = (tally.recorded ≤ tally.lines) × (tally.bad ≤ tally.lines) × (tally.starved ≤ tally.lines)

-- the source is at its end, and what was written is the meaning of the lines of all that was read
pub record Finishes (may : Call → Bool) (start end : Progress) (from to before after : Option (List ℕ)) : Type 0 where
  pub read : List ℕ
  pub script : List (Line × Bool)
  pub consumed : Consumes from to read
  pub at_end : IsAtEnd to
  pub says : SaysScript may script (said_of read)
  pub reached : end ≡ after_script start script
  pub written : Appends before after end.text

-- at least so many bytes were read, and what was written is the meaning of the lines that had ended
pub record Halts (may : Call → Bool) (least : ℕ) (start : Progress) (from to before after : Option (List ℕ)) : Type 0 where
  pub read : List ℕ
  pub script : List (Line × Bool)
  pub consumed : Consumes from to read
  pub long : least ≤ length read
  pub says : SaysScript may script (said_whole read)
  pub written : Appends before after (after_script start script).text

-- what was written is not all of the meaning of the lines that had ended, or at the end of the source of all lines, but its front
pub record Breaks (may : Call → Bool) (start : Progress) (from to before after : Option (List ℕ)) : Type 0 where
  pub read : List ℕ
  pub script : List (Line × Bool)
  pub sent : List ℕ
  pub left : List ℕ
  pub consumed : Consumes from to read
  pub says : SaysScript may script (said_whole read) ⊎ (IsAtEnd to × SaysScript may script (said_of read))
  pub text : (after_script start script).text ≡ sent ++ left
  pub some_left : 0 < length left
  pub written : Appends before after sent

-- what each fault of a script means
abbrev pub Leaves : (Call → Bool) → ℕ → Progress → Option (List ℕ) → Option (List ℕ) → Option (List ℕ) → Option (List ℕ) → Bool
    → RunScriptFault → Type 0
Leaves may turns start from to before after failed fault.NoMemory = (to ≡ from) × (after ≡ before)
Leaves may turns start from to before after failed fault.Read = Halts may 0 start from to before after × IsTrue failed
Leaves may turns start from to before after failed fault.Write = Breaks may start from to before after
Leaves may turns start from to before after failed fault.TooManyTurns = Halts may turns start from to before after
