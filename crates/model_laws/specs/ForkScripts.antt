-- Worked scripts of fork and the queries of numbers.
use Rattle.std.specs.Prelude.{[], ◌∷◌, None, Some, true, false}
use Rattle.pid_types.specs.declared.call.Call.TheVariants.{Fork, GetPid, NsPid, GetPpid, GetPgid, GetSid, Next}
use Rattle.pid_types.specs.declared.call.Kind.TheVariants.{Task, Group}
use Rattle.pid_types.specs.declared.reply.Reply.TheVariants.{Forked, Number, Levels as LevelList, End, Refused}
use Rattle.pid_types.specs.declared.reply.Refusal.TheVariants.{NoCaller, NoTask}
use Rattle.pid_types.specs.State.{root_state, root_init, root_name}
use Rattle.model_laws.specs.Script.{AnswersScript, SeesAlike, EndsSound, name_with}

-- the caller's own number, a fork, and the number of the new task
abbrev pub ForkAndGetPid : Type 0
ForkAndGetPid = AnswersScript 32768 ((GetPid 1, Number 1) ∷
    (Fork 1 false, Forked 2 2) ∷
    (GetPid 2, Number 2) ∷
    (GetPid 3, Refused NoCaller) ∷ [])

-- numbers are given in turn
abbrev pub ThreeForks : Type 0
ThreeForks = AnswersScript 32768 ((Fork 1 false, Forked 2 2) ∷
    (Fork 1 false, Forked 3 3) ∷
    (Fork 1 false, Forked 4 4) ∷ [])

-- a namespace, in which the tasks have numbers of their own
abbrev pub ForkIntoNewSpace : Type 0
ForkIntoNewSpace = AnswersScript 32768 ((Fork 1 true, Forked 2 2) ∷
    (Fork 2 false, Forked 2 3) ∷
    (NsPid 1 3, LevelList (record { items = 3 ∷ 2 ∷ [] })) ∷
    (NsPid 2 2, LevelList (record { items = 2 ∷ [] })) ∷
    (NsPid 2 3, Refused NoTask) ∷
    (GetPpid 2, Number 0) ∷
    (GetPgid 2 0, Number 0) ∷
    (GetSid 1 3, Number 1) ∷ [])

-- the state that it ends in, which is sound
abbrev pub ForkIntoNewSpaceEnd : Type 0
ForkIntoNewSpaceEnd =
    EndsSound 32768 (Fork 1 true ∷ Fork 2 false ∷ NsPid 1 3 ∷ NsPid 2 2 ∷ NsPid 2 3 ∷ GetPpid 2 ∷ GetPgid 2 0 ∷ GetSid 1 3 ∷ [])
    (record (root_state 32768) {
      rows =
          root_init
          ∷ record root_init { name = name_with 1 (2 ∷ 1 ∷ []); parent = Some root_name; children_space = 1 }
          ∷ record root_init { name = name_with 1 (3 ∷ 2 ∷ []); parent = Some (name_with 1 (2 ∷ 1 ∷ [])); children_space = 1 }
          ∷ [];
      spaces =
          record { id = 0; parent = None; cursor = 4; fallen = false }
          ∷ record { id = 1; parent = Some 0; cursor = 3; fallen = false }
          ∷ [];
    })

-- what a namespace sees where its init is task 2
abbrev pub OneWorld : Type 0
OneWorld = AnswersScript 32768 ((Fork 1 true, Forked 2 2) ∷
    (Fork 2 false, Forked 2 3) ∷
    (NsPid 2 2, LevelList (record { items = 2 ∷ [] })) ∷
    (GetPpid 2, Number 0) ∷
    (Next 2 Task 2, Number 2) ∷
    (Next 2 Group 0, End) ∷ [])

-- the same answers where its init is task 3
abbrev pub OtherWorld : Type 0
OtherWorld = AnswersScript 32768 ((Fork 1 false, Forked 2 2) ∷
    (Fork 1 true, Forked 3 3) ∷
    (Fork 3 false, Forked 2 4) ∷
    (NsPid 3 2, LevelList (record { items = 2 ∷ [] })) ∷
    (GetPpid 3, Number 0) ∷
    (Next 3 Task 2, Number 2) ∷
    (Next 3 Group 0, End) ∷ [])

-- the two worlds are seen alike from inside, though the second has one task more
abbrev pub WorldsSeenAlike : Type 0
WorldsSeenAlike = SeesAlike (Fork 1 true ∷ Fork 2 false ∷ []) 1 (Fork 1 false ∷ Fork 1 true ∷ Fork 3 false ∷ []) 2
