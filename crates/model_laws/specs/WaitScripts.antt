-- Worked scripts of exit and wait.
use Rattle.std.specs.Prelude.{[], ◌∷◌, false}
use Rattle.pid_types.specs.declared.call.Call.TheVariants.{Fork, Exit, Wait}
use Rattle.pid_types.specs.declared.call.Which.TheVariants.{Any, Pid, OwnGroup, Group as OfGroup}
use Rattle.pid_types.specs.declared.plain.Ended.TheVariants.{Exited}
use Rattle.pid_types.specs.declared.reply.Reply.TheVariants.{Forked, Done, Reaped, NoneYet, Refused}
use Rattle.pid_types.specs.declared.reply.Refusal.TheVariants.{NoCaller, NoChild, RootInit}
use Rattle.model_laws.specs.Script.{AnswersScript}

-- which child a wait reaps
abbrev pub WaitSelects : Type 0
WaitSelects = AnswersScript 32768 ((Wait 1 Any, Refused NoChild) ∷
    (Fork 1 false, Forked 2 2) ∷
    (Fork 1 false, Forked 3 3) ∷
    (Wait 1 Any, NoneYet) ∷
    (Exit 3 3, Done) ∷
    (Exit 2 2, Done) ∷
    (Wait 1 (OfGroup 9), Refused NoChild) ∷
    (Wait 1 OwnGroup, Reaped 2 (Exited 2)) ∷
    (Wait 1 (Pid 2), Refused NoChild) ∷
    (Wait 1 Any, Reaped 3 (Exited 3)) ∷
    (Wait 1 Any, Refused NoChild) ∷ [])

-- the children of a task that ended
abbrev pub OrphansGoToInit : Type 0
OrphansGoToInit = AnswersScript 32768 ((Fork 1 false, Forked 2 2) ∷
    (Fork 2 false, Forked 3 3) ∷
    (Exit 3 4, Done) ∷
    (Exit 2 5, Done) ∷
    (Exit 2 5, Refused NoCaller) ∷
    (Wait 1 Any, Reaped 2 (Exited 5)) ∷
    (Wait 1 Any, Reaped 3 (Exited 4)) ∷
    (Exit 1 0, Refused RootInit) ∷ [])
