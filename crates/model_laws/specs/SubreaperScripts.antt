-- Worked scripts of child subreapers.
use Rattle.std.specs.Prelude.{[], ◌∷◌, true, false}
use Rattle.pid_types.specs.declared.call.Call.TheVariants.{Fork, Exec, Exit, GetPpid, Join, SetSubreaper}
use Rattle.pid_types.specs.declared.reply.Reply.TheVariants.{Forked, Done, Number}
use Rattle.model_laws.specs.Script.{AnswersScript}

-- the nearest subreaper takes the children, while it has the mark
abbrev pub SubreaperTakesChildren : Type 0
SubreaperTakesChildren = AnswersScript 32768 ((Fork 1 false, Forked 2 2) ∷
    (SetSubreaper 2 true, Done) ∷
    (Fork 2 false, Forked 3 3) ∷
    (Fork 3 false, Forked 4 4) ∷
    (Exit 3 0, Done) ∷
    (GetPpid 4, Number 2) ∷
    (SetSubreaper 2 false, Done) ∷
    (Fork 4 false, Forked 5 5) ∷
    (Exit 4 0, Done) ∷
    (GetPpid 5, Number 1) ∷ [])

-- the mark is kept over exec, and not inherited
abbrev pub MarkKeptOverExec : Type 0
MarkKeptOverExec = AnswersScript 32768 ((Fork 1 false, Forked 2 2) ∷
    (SetSubreaper 2 true, Done) ∷
    (Exec 2, Done) ∷
    (Fork 2 false, Forked 3 3) ∷
    (Fork 3 false, Forked 4 4) ∷
    (Fork 4 false, Forked 5 5) ∷
    (Exit 4 0, Done) ∷
    (GetPpid 5, Number 2) ∷ [])

-- a subreaper in another namespace takes no children
abbrev pub MarkOfOtherSpace : Type 0
MarkOfOtherSpace = AnswersScript 32768 ((Fork 1 false, Forked 2 2) ∷
    (SetSubreaper 2 true, Done) ∷
    (Fork 2 true, Forked 3 3) ∷
    (Fork 3 false, Forked 2 4) ∷
    (Fork 4 false, Forked 3 5) ∷
    (Exit 4 0, Done) ∷
    (GetPpid 5, Number 1) ∷ [])

-- the same where the subreaper is the parent by a join
abbrev pub MarkOfJoined : Type 0
MarkOfJoined = AnswersScript 32768 ((Fork 1 false, Forked 2 2) ∷
    (Fork 2 true, Forked 3 3) ∷
    (Join 2 3, Done) ∷
    (SetSubreaper 2 true, Done) ∷
    (Fork 2 false, Forked 4 4) ∷
    (Fork 4 false, Forked 3 5) ∷
    (Exit 4 0, Done) ∷
    (GetPpid 5, Number 1) ∷ [])
