-- What a job says: a script that is read to its end before any call is made.
use Rattle.std.specs.Prelude.{ℕ, ◌≡◌, ◌≢◌, ◌+◌, ◌^◌, ◌<◌, ◌≤◌, ◌⊎◌, Bool, List, [], ◌∷◌, ◌++◌, length, take, Option, All, IsTrue}
use Rattle.std.specs.Io.KnownBytes.{Consumes, IsAtEnd}
use Rattle.pid_types.specs.declared.call.Call.{Call}
use Rattle.script_session.specs.declared.job.JobFault.{JobFault}
use Rattle.script_session.specs.declared.job.JobFault.TheVariants as fault
use Rattle.pid_script.specs.declared.line.Line.{Line}
use Rattle.pid_script.specs.declared.line.Line.TheVariants as says
use Rattle.pid_script.specs.Script.{said_of, said_whole}

-- the calls that the lines say
abbrev pub calls_said : List Line → List Call
calls_said [] = []
calls_said (says.Empty ∷ lines) = calls_said lines
calls_said (says.Call call ∷ lines) = call ∷ calls_said lines
calls_said (says.Bad ∷ lines) = calls_said lines

abbrev pub AreGood : List Line → Type 0
AreGood lines = All (λ (line : Line). line ≢ says.Bad) lines

-- the line with the number, counted from 1, says this, and no line before it is bad
pub record IsReached (line : Line) (number : ℕ) (lines : List Line) : Type 0 where
  pub before : List Line
  pub after : List Line
  pub cut : lines ≡ before ++ line ∷ after
  pub good : AreGood before
  pub place : number ≡ length before + 1

-- the source is at its end, and its lines, of which none is bad, say the calls
pub record Yields (from to : Option (List ℕ)) (calls : List Call) : Type 0 where
  pub read : List ℕ
  pub consumed : Consumes from to read
  pub at_end : IsAtEnd to
  pub short : length read ≤ 2 ^ 20
  pub good : AreGood (said_of read)
  pub said : calls ≡ calls_said (said_of read)

-- a line that ends within the most bytes that a job may have is reached; or the last one is, which ends with the source
abbrev pub IsLineRead : List ℕ → Option (List ℕ) → Line → ℕ → Type 0
IsLineRead read to line number =
    IsReached line number (said_whole (take (2 ^ 20) read)) ⊎ ((length read ≤ 2 ^ 20) × IsAtEnd to × IsReached line number (said_of read))

-- the fault is the first that is met in these bytes, read forwards. A line is judged where it ends, and the byte behind the most
-- that a job may have is one too many. Only a call takes memory
abbrev pub IsMet : List ℕ → Option (List ℕ) → Bool → JobFault → Type 0
IsMet read to failed fault.Read = (length read ≤ 2 ^ 20) × AreGood (said_whole read) × IsTrue failed
IsMet read to failed fault.TooLong = (2 ^ 20 < length read) × AreGood (said_whole (take (2 ^ 20) read))
IsMet read to failed (fault.BadLine number) = IsLineRead read to says.Bad number
IsMet read to failed fault.NoMemory = (call : Call) × (number : ℕ) × IsLineRead read to (says.Call call) number

-- some bytes were read, and the fault is the first in them
pub record MeetsFault (from to : Option (List ℕ)) (failed : Bool) (fault : JobFault) : Type 0 where
  pub read : List ℕ
  pub consumed : Consumes from to read
  pub met : IsMet read to failed fault

-- the lines, of which none is bad, were added to the calls and to the number of lines
pub record Adds (calls : List Call) (number : ℕ) (calls' : List Call) (number' : ℕ) (lines : List Line) : Type 0 where
  pub good : AreGood lines
  pub said : calls' ≡ calls ++ calls_said lines
  pub counted : number' ≡ number + length lines

-- behind so many lines, the first bad one of these was met, or one with a call for which there was no memory
abbrev pub IsStopped : ℕ → List Line → JobFault → Type 0
IsStopped number lines fault.Read = ⊥
IsStopped number lines fault.TooLong = ⊥
IsStopped number lines (fault.BadLine k) = (j : ℕ) × (k ≡ number + j) × IsReached says.Bad j lines
IsStopped number lines fault.NoMemory = (call : Call) × (j : ℕ) × IsReached (says.Call call) j lines
