-- How a session counts its lines.
use Rattle.std.specs.Prelude.{ℕ, ◌≡◌, ◌+◌, ◌^◌, ◌<◌, ◌≤◌, List, length, Result, OnOk}
use Rattle.pid_script.specs.Script.{kept_after}
use Rattle.script_session.specs.declared.session.Session.{Session}
use Rattle.script_session.specs.declared.tally.RunScriptFault.{RunScriptFault}
use Rattle.script_session.specs.declared.tally.Tally.{Tally}
use Rattle.script_session.specs.Session.{IsTallied}

-- so many lines more may be counted
pub record MayCount (tally : Tally) (more : ℕ) : Type 0 where
  pub counted : IsTallied tally
  pub room : tally.lines + more < 2 ^ 64

-- one line more is counted, and the unfinished line stays
pub record CountsLine (old new : Session) : Type 0 where
  pub part : new.part ≡ old.part
  pub counted : IsTallied new.tally
  pub lines : new.tally.lines ≡ old.tally.lines + 1

-- no more lines are counted than the piece has bytes, and its end is kept; at the end of the source nothing is said
pub record CountsPiece {T : Type 0} (result : Result T RunScriptFault) (old new : Session) (piece : List ℕ) : Type 0 where
  pub part : OnOk result (0 < length piece → new.part ≡ kept_after old.part piece)
  pub counted : 0 < length piece → IsTallied new.tally
  pub lines : 0 < length piece → new.tally.lines ≤ old.tally.lines + length piece
