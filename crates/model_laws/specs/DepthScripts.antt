-- A worked script of the depth of control groups.
use Rattle.std.specs.Prelude.{[], ◌∷◌}
use Rattle.pid_types.specs.declared.call.Call.TheVariants.{MakeControl}
use Rattle.pid_types.specs.declared.reply.Reply.TheVariants.{Control as ControlMade, Refused}
use Rattle.pid_types.specs.declared.reply.Refusal.TheVariants.{ControlDepth}
use Rattle.model_laws.specs.Script.{AnswersScript}

-- a control group at each depth, and none below the deepest
abbrev pub ControlDepthIs64 : Type 0
ControlDepthIs64 = AnswersScript 32768 ((MakeControl 0, ControlMade 1) ∷
    (MakeControl 1, ControlMade 2) ∷
    (MakeControl 2, ControlMade 3) ∷
    (MakeControl 3, ControlMade 4) ∷
    (MakeControl 4, ControlMade 5) ∷
    (MakeControl 5, ControlMade 6) ∷
    (MakeControl 6, ControlMade 7) ∷
    (MakeControl 7, ControlMade 8) ∷
    (MakeControl 8, ControlMade 9) ∷
    (MakeControl 9, ControlMade 10) ∷
    (MakeControl 10, ControlMade 11) ∷
    (MakeControl 11, ControlMade 12) ∷
    (MakeControl 12, ControlMade 13) ∷
    (MakeControl 13, ControlMade 14) ∷
    (MakeControl 14, ControlMade 15) ∷
    (MakeControl 15, ControlMade 16) ∷
    (MakeControl 16, ControlMade 17) ∷
    (MakeControl 17, ControlMade 18) ∷
    (MakeControl 18, ControlMade 19) ∷
    (MakeControl 19, ControlMade 20) ∷
    (MakeControl 20, ControlMade 21) ∷
    (MakeControl 21, ControlMade 22) ∷
    (MakeControl 22, ControlMade 23) ∷
    (MakeControl 23, ControlMade 24) ∷
    (MakeControl 24, ControlMade 25) ∷
    (MakeControl 25, ControlMade 26) ∷
    (MakeControl 26, ControlMade 27) ∷
    (MakeControl 27, ControlMade 28) ∷
    (MakeControl 28, ControlMade 29) ∷
    (MakeControl 29, ControlMade 30) ∷
    (MakeControl 30, ControlMade 31) ∷
    (MakeControl 31, ControlMade 32) ∷
    (MakeControl 32, ControlMade 33) ∷
    (MakeControl 33, ControlMade 34) ∷
    (MakeControl 34, ControlMade 35) ∷
    (MakeControl 35, ControlMade 36) ∷
    (MakeControl 36, ControlMade 37) ∷
    (MakeControl 37, ControlMade 38) ∷
    (MakeControl 38, ControlMade 39) ∷
    (MakeControl 39, ControlMade 40) ∷
    (MakeControl 40, ControlMade 41) ∷
    (MakeControl 41, ControlMade 42) ∷
    (MakeControl 42, ControlMade 43) ∷
    (MakeControl 43, ControlMade 44) ∷
    (MakeControl 44, ControlMade 45) ∷
    (MakeControl 45, ControlMade 46) ∷
    (MakeControl 46, ControlMade 47) ∷
    (MakeControl 47, ControlMade 48) ∷
    (MakeControl 48, ControlMade 49) ∷
    (MakeControl 49, ControlMade 50) ∷
    (MakeControl 50, ControlMade 51) ∷
    (MakeControl 51, ControlMade 52) ∷
    (MakeControl 52, ControlMade 53) ∷
    (MakeControl 53, ControlMade 54) ∷
    (MakeControl 54, ControlMade 55) ∷
    (MakeControl 55, ControlMade 56) ∷
    (MakeControl 56, ControlMade 57) ∷
    (MakeControl 57, ControlMade 58) ∷
    (MakeControl 58, ControlMade 59) ∷
    (MakeControl 59, ControlMade 60) ∷
    (MakeControl 60, ControlMade 61) ∷
    (MakeControl 61, ControlMade 62) ∷
    (MakeControl 62, ControlMade 63) ∷
    (MakeControl 63, ControlMade 64) ∷
    (MakeControl 64, Refused ControlDepth) ∷ [])
