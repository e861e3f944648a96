-- Worked scripts of join.
use Rattle.std.specs.Prelude.{[], ◌∷◌, None, Some, true, false}
use Rattle.pid_types.specs.declared.call.Call.TheVariants.{Fork, NsPid, Exit, Wait, GetPpid, Join}
use Rattle.pid_types.specs.declared.call.Which.TheVariants.{Any}
use Rattle.pid_types.specs.declared.plain.Ended.TheVariants.{Exited, Killed}
use Rattle.pid_types.specs.declared.reply.Reply.TheVariants.{Forked, Done, Number, Levels as LevelList, Reaped, Refused}
use Rattle.pid_types.specs.declared.reply.Refusal.TheVariants.{NoTask, SpaceFallen, Elsewhere}
use Rattle.pid_types.specs.State.{root_state, root_init, root_name}
use Rattle.model_laws.specs.Script.{AnswersScript, EndsSound, name_with}

-- children below their parent's namespace, and its fall
abbrev pub JoinAndFall : Type 0
JoinAndFall = AnswersScript 32768 ((Fork 1 false, Forked 2 2) ∷
    (Fork 2 true, Forked 3 3) ∷
    (Fork 3 false, Forked 2 4) ∷
    (Join 2 3, Done) ∷
    (Fork 2 false, Forked 5 5) ∷
    (NsPid 1 5, LevelList (record { items = 5 ∷ 3 ∷ [] })) ∷
    (GetPpid 5, Number 0) ∷
    (Exit 3 0, Done) ∷
    (Fork 2 false, Refused SpaceFallen) ∷
    (Fork 2 true, Refused Elsewhere) ∷
    (Wait 2 Any, Reaped 3 (Exited 0)) ∷
    (Wait 2 Any, Reaped 5 Killed) ∷
    (Fork 2 false, Refused SpaceFallen) ∷
    (Join 2 1, Done) ∷
    (Fork 2 false, Forked 6 6) ∷ [])

-- the state that it ends in, which is sound
abbrev pub JoinAndFallEnd : Type 0
JoinAndFallEnd =
    EndsSound 32768 (Fork 1 false ∷ Fork 2 true ∷ Fork 3 false ∷ Join 2 3 ∷ Fork 2 false ∷ NsPid 1 5 ∷ GetPpid 5 ∷ Exit 3 0 ∷ Fork 2 false
    ∷ Fork 2 true ∷ Wait 2 Any ∷ Wait 2 Any ∷ Fork 2 false ∷ Join 2 1 ∷ Fork 2 false ∷ [])
    (record (root_state 32768) {
      rows =
          root_init
          ∷ record root_init { name = name_with 0 (2 ∷ []); parent = Some root_name }
          ∷ record root_init { name = name_with 0 (6 ∷ []); parent = Some (name_with 0 (2 ∷ [])) }
          ∷ [];
      spaces = record { id = 0; parent = None; cursor = 7; fallen = false } ∷ [];
    })

-- a children's namespace that was dropped
abbrev pub NoForkIntoDropped : Type 0
NoForkIntoDropped = AnswersScript 32768 ((Fork 1 false, Forked 2 2) ∷
    (Fork 2 true, Forked 3 3) ∷
    (Fork 3 false, Forked 2 4) ∷
    (Join 2 3, Done) ∷
    (Fork 2 false, Forked 5 5) ∷
    (NsPid 1 5, LevelList (record { items = 5 ∷ 3 ∷ [] })) ∷
    (GetPpid 5, Number 0) ∷
    (Exit 3 0, Done) ∷
    (Fork 2 false, Refused SpaceFallen) ∷
    (Fork 2 true, Refused Elsewhere) ∷
    (Wait 2 Any, Reaped 3 (Exited 0)) ∷
    (Wait 2 Any, Reaped 5 Killed) ∷
    (Fork 2 true, Refused Elsewhere) ∷
    (Fork 1 true, Forked 6 6) ∷
    (Fork 2 false, Refused SpaceFallen) ∷ [])

-- a child whose parent ended outside its namespace
abbrev pub OrphanOfJoined : Type 0
OrphanOfJoined = AnswersScript 32768 ((Fork 1 false, Forked 2 2) ∷
    (Fork 2 true, Forked 3 3) ∷
    (Join 2 3, Done) ∷
    (Fork 2 false, Forked 4 4) ∷
    (Join 2 0, Refused NoTask) ∷
    (Exit 2 0, Done) ∷
    (Wait 1 Any, Reaped 2 (Exited 0)) ∷
    (Exit 4 1, Done) ∷
    (Wait 1 Any, Reaped 4 (Exited 1)) ∷
    (GetPpid 3, Number 0) ∷ [])
