-- Worked scripts of the fall of a namespace.
use Rattle.std.specs.Prelude.{[], ◌∷◌, None, Some, true, false, pos}
use Rattle.pid_types.specs.declared.call.Call.TheVariants.{Fork, Exit, Wait, SetPgid, MakeControl, Move, Count, Next}
use Rattle.pid_types.specs.declared.call.Kind.TheVariants.{Task, Group}
use Rattle.pid_types.specs.declared.call.Which.TheVariants.{Any}
use Rattle.pid_types.specs.declared.plain.Ended.TheVariants.{Exited}
use Rattle.pid_types.specs.declared.reply.Reply.TheVariants.{Forked, Done, Number, Reaped, Counted, Control as ControlMade, End}
use Rattle.pid_types.specs.State.{root_state, root_init, root_name}
use Rattle.model_laws.specs.Script.{AnswersScript, EndsSound, name_with}

-- the members of a namespace end with its init
abbrev pub FallTakesMembers : Type 0
FallTakesMembers = AnswersScript 32768 ((Fork 1 true, Forked 2 2) ∷
    (Fork 2 false, Forked 2 3) ∷
    (Fork 3 true, Forked 3 4) ∷
    (Exit 2 7, Done) ∷
    (Next 1 Task 2, Number 2) ∷
    (Next 1 Task 3, End) ∷
    (Wait 1 Any, Reaped 2 (Exited 7)) ∷ [])

-- the state that it ends in, which is sound
abbrev pub FallTakesMembersEnd : Type 0
FallTakesMembersEnd =
    EndsSound 32768 (Fork 1 true ∷ Fork 2 false ∷ Fork 3 true ∷ Exit 2 7 ∷ Next 1 Task 2 ∷ Next 1 Task 3 ∷ Wait 1 Any ∷ [])
    (record (root_state 32768) { spaces = record { id = 0; parent = None; cursor = 5; fallen = false } ∷ [] })

-- a group of a task outside keeps a fallen namespace
abbrev pub GroupKeepsSpace : Type 0
GroupKeepsSpace = AnswersScript 32768 ((Fork 1 false, Forked 2 2) ∷
    (Fork 2 true, Forked 3 3) ∷
    (SetPgid 3 (pos 0) (pos 0), Done) ∷
    (SetPgid 2 (pos 0) (pos 3), Done) ∷
    (Exit 3 0, Done) ∷
    (Wait 2 Any, Reaped 3 (Exited 0)) ∷
    (Next 1 Group 2, Number 3) ∷ [])

-- the state that it ends in, which is sound
abbrev pub GroupKeepsSpaceEnd : Type 0
GroupKeepsSpaceEnd =
    EndsSound 32768 (Fork 1 false ∷ Fork 2 true ∷ SetPgid 3 (pos 0) (pos 0) ∷ SetPgid 2 (pos 0) (pos 3) ∷ Exit 3 0 ∷ Wait 2 Any
    ∷ Next 1 Group 2 ∷ [])
    (record (root_state 32768) {
      rows = root_init ∷ record root_init { name = name_with 0 (2 ∷ []); parent = Some root_name; group = name_with 2 (3 ∷ 1 ∷ []) } ∷ [];
      spaces =
          record { id = 0; parent = None; cursor = 4; fallen = false }
          ∷ record { id = 2; parent = Some 0; cursor = 2; fallen = true }
          ∷ [];
    })

-- the namespace goes when the task leaves that group
abbrev pub GroupLetsSpaceGo : Type 0
GroupLetsSpaceGo = AnswersScript 32768 ((Fork 1 false, Forked 2 2) ∷
    (Fork 2 true, Forked 3 3) ∷
    (SetPgid 3 (pos 0) (pos 0), Done) ∷
    (SetPgid 2 (pos 0) (pos 3), Done) ∷
    (Exit 3 0, Done) ∷
    (Wait 2 Any, Reaped 3 (Exited 0)) ∷
    (Next 1 Group 2, Number 3) ∷
    (SetPgid 2 (pos 0) (pos 1), Done) ∷
    (Next 1 Group 2, End) ∷ [])

-- the state that it ends in, which is sound
abbrev pub GroupLetsSpaceGoEnd : Type 0
GroupLetsSpaceGoEnd =
    EndsSound 32768 (Fork 1 false ∷ Fork 2 true ∷ SetPgid 3 (pos 0) (pos 0) ∷ SetPgid 2 (pos 0) (pos 3) ∷ Exit 3 0 ∷ Wait 2 Any
    ∷ Next 1 Group 2 ∷ SetPgid 2 (pos 0) (pos 1) ∷ Next 1 Group 2 ∷ [])
    (record (root_state 32768) {
      rows = root_init ∷ record root_init { name = name_with 0 (2 ∷ []); parent = Some root_name } ∷ [];
      spaces = record { id = 0; parent = None; cursor = 4; fallen = false } ∷ [];
    })

-- the members that a fall takes are counted no more
abbrev pub FallUncharges : Type 0
FallUncharges = AnswersScript 32768 ((MakeControl 0, ControlMade 1) ∷
    (Fork 1 true, Forked 2 2) ∷
    (Move 2 1, Done) ∷
    (Fork 2 false, Forked 2 3) ∷
    (Count 1, Counted 2) ∷
    (Exit 2 7, Done) ∷
    (Count 1, Counted 1) ∷
    (Wait 1 Any, Reaped 2 (Exited 7)) ∷
    (Count 1, Counted 0) ∷ [])
