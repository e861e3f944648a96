-- Worked scripts of process groups and sessions.
use Rattle.std.specs.Prelude.{[], ◌∷◌, false, pos, negsuc}
use Rattle.pid_types.specs.declared.call.Call.TheVariants.{Fork, Exec, SetPgid, SetSid, GetPgid, GetSid}
use Rattle.pid_types.specs.declared.reply.Reply.TheVariants.{Forked, Done, Number, Refused}
use Rattle.pid_types.specs.declared.reply.Refusal.TheVariants.{NoTask, BadGroup, OtherSession, IsLeader, NoGroup, Executed}
use Rattle.model_laws.specs.Script.{AnswersScript}

-- the refusals of setpgid, each in its turn
abbrev pub SetPgidInOrder : Type 0
SetPgidInOrder = AnswersScript 32768 ((Fork 1 false, Forked 2 2) ∷
    (Fork 2 false, Forked 3 3) ∷
    (Fork 3 false, Forked 4 4) ∷
    (SetPgid 2 (pos 99) (negsuc 0), Refused BadGroup) ∷
    (SetPgid 2 (pos 99) (pos 0), Refused NoTask) ∷
    (SetPgid 2 (negsuc 4) (pos 0), Refused NoTask) ∷
    (SetPgid 2 (pos 4) (pos 0), Refused NoTask) ∷
    (Exec 3, Done) ∷
    (SetPgid 2 (pos 3) (pos 0), Refused Executed) ∷
    (SetSid 3, Number 3) ∷
    (SetPgid 2 (pos 3) (pos 0), Refused OtherSession) ∷
    (SetPgid 3 (pos 0) (pos 0), Refused IsLeader) ∷
    (SetPgid 2 (pos 0) (pos 77), Refused NoGroup) ∷
    (SetPgid 4 (pos 0) (pos 3), Refused NoGroup) ∷
    (SetPgid 4 (pos 0) (pos 0), Done) ∷
    (GetPgid 2 4, Number 4) ∷ [])

-- a leader starts no session
abbrev pub SetSidOnce : Type 0
SetSidOnce = AnswersScript 32768 ((Fork 1 false, Forked 2 2) ∷
    (Fork 1 false, Forked 3 3) ∷
    (SetSid 2, Number 2) ∷
    (SetSid 2, Refused IsLeader) ∷
    (SetPgid 3 (pos 0) (pos 0), Done) ∷
    (SetSid 3, Refused IsLeader) ∷
    (GetSid 1 2, Number 2) ∷
    (GetSid 1 3, Number 1) ∷ [])
