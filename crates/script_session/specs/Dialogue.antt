-- What a script does with its devices, in order.
use Rattle.std.specs.Prelude.{ℕ, ◌≡◌, ◌<◌, ◌≤◌, Bool, true, false, ⊤, List, [], ◌∷◌, ◌++◌, length, Option, Some, None, Result, OnOk, OnErr, IfErr, if◌then◌else◌, nat_lt}
use Rattle.std.specs.List.{list_any}
use Rattle.std.specs.Result.{result_err}
use Rattle.pid_types.specs.Devices.{Event, Reading, Writing, heard, said, readings, IsWell, AreWell}
use Rattle.pid_script.specs.declared.line.Line.{Line}
use Rattle.script_session.specs.declared.tally.RunScriptFault.{RunScriptFault}
use Rattle.script_session.specs.declared.tally.RunScriptFault.TheVariants as fault
use Rattle.pid_types.specs.declared.call.Call.{Call}
use Rattle.pid_types.specs.declared.reply.Reply.{Reply}
use Rattle.pid_script.specs.Script.{said_of, said_whole}
use Rattle.script_session.specs.Progress.{Progress, HasStopped, after_script, SaysScript}
use Rattle.script_session.specs.Session.{Answers, StopsShort}

-- the sink took these bytes, by writes that each took some
pub record Sends (did : List Event → Type 0) (bytes : List ℕ) : Type 0 where
  pub events : List Event
  pub done : did events
  pub well : AreWell events
  pub writes : readings events ≡ []
  pub sent : said events ≡ bytes

-- the sink took these bytes, and then a write failed or took nothing
pub record Stalls (did : List Event → Type 0) (bytes : List ℕ) : Type 0 where
  pub events : List Event
  pub offered : List ℕ
  pub taken : Option ℕ
  pub done : did (events ++ Writing offered taken ∷ [])
  pub well : AreWell events
  pub writes : readings events ≡ []
  pub stopped : ¬ IsWell (Writing offered taken)
  pub sent : said events ≡ bytes

-- of these bytes some were sent, and these wait
abbrev pub Queues : (List Event → Type 0) → List ℕ → List ℕ → Type 0
Queues did bytes held = (sent : List ℕ) × Sends did sent × (bytes ≡ sent ++ held)

-- of these bytes not all were sent
abbrev pub SendsPart : (List Event → Type 0) → List ℕ → Type 0
SendsPart did bytes = (sent left : List ℕ) × Stalls did sent × (bytes ≡ sent ++ left) × (0 < length left)

-- these bytes were sent, or not all of them, since the sink has stopped
pub record Writes {T : Type 0} (result : Result T RunScriptFault) (did : List Event → Type 0) (bytes : List ℕ)
    (failed full : Bool) : Type 0 where
  pub ok : OnOk result (Sends did bytes)
  pub err : OnErr result (SendsPart did bytes)
  pub fault : IfErr result (λ e. e ≡ fault.Write)
  pub stopped : OnErr result (HasStopped failed full)

-- the same of bytes of which some wait
pub record Holds {T : Type 0} (result : Result T RunScriptFault) (did : List Event → Type 0) (bytes held : List ℕ)
    (failed full : Bool) : Type 0 where
  pub ok : OnOk result (Queues did bytes held)
  pub err : OnErr result (SendsPart did bytes)
  pub fault : IfErr result (λ e. e ≡ fault.Write)
  pub stopped : OnErr result (HasStopped failed full)

-- how these lines went: they took the script from p to q; or the sink has stopped, and took not all of their answers
pub record Responds {T : Type 0} (may : Call → Bool) (result : Result T RunScriptFault) (p q : Progress) (did : List Event → Type 0)
    (made : List (Call × Reply) → Type 0) (lines : List Line) (failed full : Bool) : Type 0 where
  pub ok : OnOk result (Answers may p q (Sends did) made lines)
  pub err : OnErr result (StopsShort may p (Stalls did) lines)
  pub fault : IfErr result (λ e. e ≡ fault.Write)
  pub stopped : OnErr result (HasStopped failed full)

-- a read that asked for a byte, and found the end
abbrev pub is_end : Event → Bool
is_end (Reading asked (Some [])) = nat_lt 0 asked
is_end (Reading asked (Some (b ∷ bs))) = false
is_end (Reading asked None) = false
is_end (Writing offered taken) = false

-- the lines that were read: those that have ended, and at the end of the source what is left
abbrev pub lines_heard : List Event → List Line
lines_heard events = if list_any is_end events then said_of (heard events) else said_whole (heard events)

-- what was written is what the lines that were read come to
pub record IsAnswered (may : Call → Bool) (start : Progress) (events : List Event) : Type 0 where
  pub script : List (Line × Bool)
  pub says : SaysScript may script (lines_heard events)
  pub text : said events ≡ (after_script start script).text

-- what was written is not all that the lines that were read come to, but its front
pub record IsCutShort (may : Call → Bool) (start : Progress) (events : List Event) : Type 0 where
  pub script : List (Line × Bool)
  pub left : List ℕ
  pub says : SaysScript may script (lines_heard events)
  pub text : (after_script start script).text ≡ said events ++ left
  pub some_left : 0 < length left

-- no event comes after a fault. A read comes before the end alone, asks for at most 4,096 bytes, and comes once all that was
-- read is answered
abbrev pub Follows : (Call → Bool) → Progress → List Event → Event → Type 0
Follows may start before (Reading asked given) =
    AreWell before × (list_any is_end before ≡ false) × (asked ≤ 4096) × IsAnswered may start before
Follows may start before (Writing offered taken) = AreWell before

-- each event is so, given those before it
abbrev pub EachAfter : (List Event → Event → Type 0) → List Event → List Event → Type 0
EachAfter P before [] = ⊤
EachAfter P before (e ∷ es) = P before e × EachAfter P (before ++ e ∷ []) es

-- how the events end: at the end of the source, with all answered; with the fault of a device; or after so many reads
abbrev pub EndsBy : (Call → Bool) → ℕ → Progress → Option RunScriptFault → List Event → Type 0
EndsBy may turns start None events = AreWell events × (list_any is_end events ≡ true) × IsAnswered may start events
EndsBy may turns start (Some fault.NoMemory) events = events ≡ []
EndsBy may turns start (Some fault.Read) events = (before : List Event) × (asked : ℕ) × (events ≡ before ++ Reading asked None ∷ [])
EndsBy may turns start (Some fault.Write) events =
    (before : List Event) × (offered : List ℕ) × (taken : Option ℕ)
    × (events ≡ before ++ Writing offered taken ∷ []) × (¬ IsWell (Writing offered taken)) × IsCutShort may start events
EndsBy may turns start (Some fault.TooManyTurns) events =
    AreWell events × (list_any is_end events ≡ false) × (length (readings events) ≡ turns) × IsAnswered may start events

-- what a script did with its devices, from the first event to the last
pub record Converses
    {T : Type 0} (may : Call → Bool) (turns : ℕ) (start : Progress) (did : List Event → Type 0)
    (result : Result T RunScriptFault) : Type 0 where
  pub events : List Event
  pub done : did events
  pub each : EachAfter (Follows may start) [] events
  pub few : length (readings events) ≤ turns
  pub ended : EndsBy may turns start (result_err result) events
