-- Worked scripts of control groups.
use Rattle.std.specs.Prelude.{[], ◌∷◌, None, Some, false}
use Rattle.pid_types.specs.declared.call.Call.TheVariants.{Fork, Exit, Wait, MakeControl, RemoveControl, SetLimit, Move, Count}
use Rattle.pid_types.specs.declared.call.Which.TheVariants.{Any}
use Rattle.pid_types.specs.declared.plain.Ended.TheVariants.{Exited}
use Rattle.pid_types.specs.declared.reply.Reply.TheVariants.{Forked, Done, Reaped, Counted, Control as ControlMade, Refused}
use Rattle.pid_types.specs.declared.reply.Refusal.TheVariants.{NoTask, PidsLimit, NoControl, ControlBusy, RootControl, BadLimit}
use Rattle.model_laws.specs.Script.{AnswersScript}

-- a limit holds for forks, and for no move
abbrev pub LimitsAndMoves : Type 0
LimitsAndMoves = AnswersScript 32768 ((MakeControl 0, ControlMade 1) ∷
    (SetLimit 1 (Some 2), Done) ∷
    (Move 1 1, Done) ∷
    (Fork 1 false, Forked 2 2) ∷
    (Fork 1 false, Refused (PidsLimit 1)) ∷
    (SetLimit 1 (Some 1), Done) ∷
    (Count 1, Counted 2) ∷
    (MakeControl 0, ControlMade 8) ∷
    (Move 2 8, Done) ∷
    (Count 1, Counted 1) ∷
    (Move 2 1, Done) ∷
    (Count 1, Counted 2) ∷
    (MakeControl 1, ControlMade 13) ∷
    (Move 1 13, Done) ∷
    (Fork 1 false, Refused (PidsLimit 1)) ∷
    (Count 0, Counted 2) ∷ [])

-- the zombies of a control group that is removed
abbrev pub ZombiesGoUp : Type 0
ZombiesGoUp = AnswersScript 32768 ((MakeControl 0, ControlMade 1) ∷
    (MakeControl 1, ControlMade 2) ∷
    (Fork 1 false, Forked 2 2) ∷
    (Move 2 2, Done) ∷
    (Exit 2 0, Done) ∷
    (Move 2 0, Refused NoTask) ∷
    (RemoveControl 1, Refused ControlBusy) ∷
    (RemoveControl 2, Done) ∷
    (Count 1, Counted 1) ∷
    (Wait 1 Any, Reaped 2 (Exited 0)) ∷
    (Count 1, Counted 0) ∷
    (Count 2, Refused NoControl) ∷ [])

-- the refusals of control groups
abbrev pub ControlRefusals : Type 0
ControlRefusals = AnswersScript 32768 ((MakeControl 5, Refused NoControl) ∷
    (SetLimit 0 (Some 5), Refused RootControl) ∷
    (RemoveControl 0, Refused RootControl) ∷
    (MakeControl 0, ControlMade 4) ∷
    (SetLimit 4 (Some 4194305), Refused BadLimit) ∷
    (SetLimit 4 (Some 4194304), Done) ∷
    (SetLimit 4 None, Done) ∷
    (Move 9 9, Refused NoTask) ∷
    (Move 1 9, Refused NoControl) ∷
    (Move 1 4, Done) ∷
    (RemoveControl 4, Refused ControlBusy) ∷
    (SetLimit 4 (Some 0), Done) ∷
    (Fork 1 false, Refused (PidsLimit 4)) ∷ [])

-- the nearest control group refuses
abbrev pub NearestLimitFirst : Type 0
NearestLimitFirst = AnswersScript 32768 ((MakeControl 0, ControlMade 1) ∷
    (MakeControl 1, ControlMade 2) ∷
    (SetLimit 1 (Some 0), Done) ∷
    (SetLimit 2 (Some 0), Done) ∷
    (Move 1 2, Done) ∷
    (Fork 1 false, Refused (PidsLimit 2)) ∷
    (SetLimit 2 None, Done) ∷
    (Fork 1 false, Refused (PidsLimit 1)) ∷ [])
