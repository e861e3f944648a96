-- Worked scripts of threads.
use Rattle.std.specs.Prelude.{[], ◌∷◌, None, Some, true, false, pos}
use Rattle.pid_types.specs.declared.call.Call.TheVariants.{Fork, GetPid, GetPpid, GetPgid, NsPid, Next, Exec, Exit, Wait, SetPgid, Join, MakeControl, RemoveControl, SetLimit, Move, Count}
use Rattle.pid_types.specs.declared.call.Kind.TheVariants.{Task}
use Rattle.pid_types.specs.declared.call.Which.TheVariants.{Any, Pid}
use Rattle.pid_types.specs.declared.plain.Ended.TheVariants.{Exited}
use Rattle.pid_types.specs.declared.reply.Reply.TheVariants.{Forked, Done, Number, Levels as LevelList, Reaped, NoneYet, Counted, Control as ControlMade, End, Refused}
use Rattle.pid_types.specs.declared.reply.Refusal.TheVariants.{NoCaller, NoTask, NoChild, BadGroup, Elsewhere, PidsLimit, RootInit, ControlBusy}
use Rattle.pid_types.specs.State.{root_state, root_init, root_name}
use Rattle.pid_types.specs.declared.call.ThreadCall.TheVariants.{NewThread, Leave, GetTid, GetTgid, NextThread}
use Rattle.pid_types.specs.ThreadStep.{of_table, of_threads}
use Rattle.model_laws.specs.Script.{AnswersAny, AnyEndsSound, name_with}

-- a thread has numbers of its own, and those of its process
abbrev pub ThreadsHaveNumbers : Type 0
ThreadsHaveNumbers = AnswersAny 32768 ((of_table (Fork 1 true), Forked 2 2) ∷
    (of_threads (NewThread 2), Forked 2 3) ∷
    (of_threads (GetTid 3), Number 2) ∷
    (of_table (GetPid 3), Number 1) ∷
    (of_table (GetPpid 3), Number 0) ∷
    (of_table (NsPid 1 3), LevelList (record { items = 3 ∷ 2 ∷ [] })) ∷
    (of_threads (GetTgid 1 3), Number 2) ∷
    (of_table (GetPgid 1 3), Number 1) ∷
    (of_table (Next 1 Task 3), End) ∷
    (of_threads (NextThread 1 3), Number 3) ∷
    (of_table (Fork 3 false), Forked 3 4) ∷
    (of_table (GetPpid 4), Number 1) ∷
    (of_table (SetPgid 2 (pos 2) (pos 0)), Refused BadGroup) ∷
    (of_table (Wait 1 (Pid 3)), Refused NoChild) ∷ [])

-- the first thread leaves before the other: the process ends with the status of the last
abbrev pub LastThreadEnds : Type 0
LastThreadEnds = AnswersAny 32768 ((of_table (Fork 1 false), Forked 2 2) ∷
    (of_threads (NewThread 2), Forked 3 3) ∷
    (of_threads (Leave 2 5), Done) ∷
    (of_table (GetPid 2), Refused NoCaller) ∷
    (of_table (Wait 1 Any), NoneYet) ∷
    (of_threads (GetTid 3), Number 3) ∷
    (of_table (GetPid 3), Number 2) ∷
    (of_table (Count 0), Counted 3) ∷
    (of_threads (Leave 3 9), Done) ∷
    (of_table (Count 0), Counted 2) ∷
    (of_table (Wait 1 Any), Reaped 2 (Exited 9)) ∷
    (of_threads (Leave 1 0), Refused RootInit) ∷ [])

-- the other thread leaves first: its number and its charge are free at once
abbrev pub FirstThreadEnds : Type 0
FirstThreadEnds = AnswersAny 32768 ((of_table (Fork 1 false), Forked 2 2) ∷
    (of_threads (NewThread 2), Forked 3 3) ∷
    (of_threads (GetTgid 1 3), Number 2) ∷
    (of_threads (Leave 3 7), Done) ∷
    (of_threads (GetTgid 1 3), Refused NoTask) ∷
    (of_table (Count 0), Counted 2) ∷
    (of_table (Wait 1 Any), NoneYet) ∷
    (of_threads (Leave 2 5), Done) ∷
    (of_table (Wait 1 Any), Reaped 2 (Exited 5)) ∷ [])

-- an exec goes on in the calling thread, under the process's number
abbrev pub ExecTakesThreads : Type 0
ExecTakesThreads = AnswersAny 32768 ((of_table (Fork 1 false), Forked 2 2) ∷
    (of_table (Fork 2 true), Forked 3 3) ∷
    (of_threads (NewThread 2), Forked 4 4) ∷
    (of_table (Join 4 3), Done) ∷
    (of_threads (NewThread 4), Refused Elsewhere) ∷
    (of_threads (Leave 2 0), Done) ∷
    (of_table (Exec 4), Done) ∷
    (of_table (GetPid 4), Refused NoCaller) ∷
    (of_threads (GetTid 2), Number 2) ∷
    (of_table (Fork 2 false), Forked 5 5) ∷
    (of_table (NsPid 1 5), LevelList (record { items = 5 ∷ 2 ∷ [] })) ∷ [])

-- threads are charged, and move with their process; a first one that has left stays behind
abbrev pub ThreadsAreCharged : Type 0
ThreadsAreCharged = AnswersAny 32768 ((of_table (MakeControl 0), ControlMade 1) ∷
    (of_table (MakeControl 0), ControlMade 2) ∷
    (of_table (Fork 1 false), Forked 2 2) ∷
    (of_table (Move 2 1), Done) ∷
    (of_threads (NewThread 2), Forked 3 3) ∷
    (of_table (Count 1), Counted 2) ∷
    (of_table (SetLimit 1 (Some 2)), Done) ∷
    (of_threads (NewThread 2), Refused (PidsLimit 1)) ∷
    (of_table (Fork 3 false), Refused (PidsLimit 1)) ∷
    (of_threads (Leave 2 0), Done) ∷
    (of_table (Count 1), Counted 2) ∷
    (of_table (RemoveControl 1), Refused ControlBusy) ∷
    (of_table (Move 3 2), Done) ∷
    (of_table (Count 1), Counted 1) ∷
    (of_table (Count 2), Counted 1) ∷
    (of_table (RemoveControl 1), Done) ∷
    (of_table (Exit 3 4), Done) ∷
    (of_table (Count 2), Counted 0) ∷
    (of_table (Wait 1 Any), Reaped 2 (Exited 4)) ∷ [])

-- the last thread of an init leaves, and its namespace falls
abbrev pub LastOfInitFalls : Type 0
LastOfInitFalls = AnswersAny 32768 ((of_table (Fork 1 true), Forked 2 2) ∷
    (of_threads (NewThread 2), Forked 2 3) ∷
    (of_table (Fork 3 false), Forked 3 4) ∷
    (of_threads (NewThread 4), Forked 4 5) ∷
    (of_threads (Leave 2 0), Done) ∷
    (of_table (Fork 3 false), Forked 5 6) ∷
    (of_threads (Leave 3 8), Done) ∷
    (of_threads (GetTid 5), Refused NoCaller) ∷
    (of_threads (NextThread 1 2), End) ∷
    (of_table (Wait 1 Any), Reaped 2 (Exited 8)) ∷ [])

-- a state with a thread and a first one that has left, which is sound
abbrev pub LastThreadEndsEnd : Type 0
LastThreadEndsEnd =
    AnyEndsSound 32768 (of_table (Fork 1 false) ∷ of_threads (NewThread 2) ∷ of_threads (Leave 2 5) ∷ [])
    (record (root_state 32768) {
      rows = root_init ∷ record root_init { name = name_with 0 (2 ∷ []); parent = Some root_name } ∷ [];
      threads = record { name = name_with 0 (3 ∷ []); process = name_with 0 (2 ∷ []); home = 0; children_space = 0 } ∷ [];
      left = name_with 0 (2 ∷ []) ∷ [];
      spaces = record { id = 0; parent = None; cursor = 4; fallen = false } ∷ [];
    })
