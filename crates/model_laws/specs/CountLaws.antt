-- What changes a control group's count: a fork, a new thread, a thread that leaves and a reaping by one, a fall, an end, an exec and a
-- move by what they take, and nothing else.
use Rattle.std.specs.Prelude.{◌≡◌, ℕ, ◌+◌, Bool, true, false, ◌&&◌, ◌||◌, not, ◌==◌, List, [], ◌∷◌, ◌++◌, map, length, filter, None, Some, if◌then◌else◌}
use Rattle.std.specs.Option.{option_map_or}
use Rattle.pid_types.specs.declared.call.Call.{Call}
use Rattle.pid_types.specs.declared.call.Call.TheVariants.{Fork, Exec, Exit, Wait, Move}
use Rattle.pid_types.specs.declared.call.Which.{Which}
use Rattle.pid_types.specs.declared.plain.Row.{Row}
use Rattle.pid_types.specs.declared.plain.Ended.{Ended}
use Rattle.pid_types.specs.declared.plain.Control.{Control}
use Rattle.pid_types.specs.declared.reply.Reply.TheVariants.{Forked, Done, Reaped}
use Rattle.pid_types.specs.declared.plain.Thread.{Thread}
use Rattle.pid_types.specs.State.{State}
use Rattle.pid_types.specs.Names.{is_live, root_number, number_or_zero}
use Rattle.pid_types.specs.Threads.{is_thread_of, has_left, running, thread_at, caller_of, as_thread, process_at}
use Rattle.pid_types.specs.Controls.{control_at, count, is_below}
use Rattle.pid_types.specs.Exit.{is_init, goes_in_fall, is_of}
use Rattle.pid_types.specs.Step.{step}
use Rattle.pid_types.specs.declared.call.ThreadCall.{ThreadCall}
use Rattle.pid_types.specs.declared.call.ThreadCall.TheVariants.{NewThread, Leave}
use Rattle.pid_types.specs.ThreadStep.{thread_step}
use Rattle.pid_types.specs.Sound.{IsSound, IsBelow}
use Rattle.pid_types.specs.Membership.{IsIn}

-- 1 where it holds, and else 0
abbrev pub one_where : Bool → ℕ
one_where true = 1
one_where false = 0

-- a fork counts one more in each control group from the calling thread's home to the root, and in no other
abbrev pub ForkCountsOne : Type 0
ForkCountsOne =
    (state : State) (stamp n : ℕ) (new_space : Bool) (caller : Row) (child root : ℕ)
    → caller_of state n ≡ Some caller → (step state stamp (Fork n new_space)).reply ≡ Forked child root
    → (c : ℕ) → count (step state stamp (Fork n new_space)).state c
    ≡ count state c + one_where (is_below state.controls (as_thread state n caller).home c)

-- and so does a new thread
abbrev pub ThreadCountsOne : Type 0
ThreadCountsOne =
    (state : State) (n : ℕ) (caller : Row) (thread root : ℕ)
    → caller_of state n ≡ Some caller → (thread_step state (NewThread n)).reply ≡ Forked thread root
    → (c : ℕ) → count (thread_step state (NewThread n)).state c
    ≡ count state c + one_where (is_below state.controls (as_thread state n caller).home c)

-- a thread that leaves others running counts one less, unless it is a first one, which stays as a zombie would
abbrev pub LeavingCountsOneLess : Type 0
LeavingCountsOneLess =
    (state : State) (n status : ℕ) (caller : Row)
    → IsSound state → caller_of state n ≡ Some caller → (running state caller == 1) ≡ false
    → ((t : Thread) → thread_at state n ≡ Some t
    → (c : ℕ) → count state c ≡ count (thread_step state (Leave n status)).state c + one_where (is_below state.controls t.home c))
    × (thread_at state n ≡ None → (c : ℕ) → count (thread_step state (Leave n status)).state c ≡ count state c)

-- a reaping counts one less in each control group from the reaped task's home to the root, and in no other
abbrev pub ReapingCountsOneLess : Type 0
ReapingCountsOneLess =
    (state : State) (stamp n : ℕ) (which : Which) (caller : Row) (child : ℕ) (ended : Ended)
    → IsSound state → caller_of state n ≡ Some caller → (step state stamp (Wait n which)).reply ≡ Reaped child ended
    → (row : Row) × IsIn row state.rows × (is_live row ≡ false) × (number_or_zero state.spaces row.name caller.name.space ≡ child)
    × ((c : ℕ) → count state c ≡ count (step state stamp (Wait n which)).state c + one_where (is_below state.controls row.home c))

-- a fall counts as many less as it takes rows and threads away whose homes are in the subtree
abbrev pub FallCountsTaken : Type 0
FallCountsTaken =
    (state : State) (stamp n status : ℕ) (init : Row)
    → caller_of state n ≡ Some init → is_init state init ≡ true → (step state stamp (Exit n status)).reply ≡ Done
    → (c : ℕ) → count state c
    ≡ count (step state stamp (Exit n status)).state c
    + length (filter (λ row. goes_in_fall state init row && is_below state.controls row.home c) state.rows)
    + length (filter (λ t. is_of state.spaces init.name.space t.name && is_below state.controls t.home c) state.threads)

-- an exit by which no namespace falls counts as many less as it takes threads away whose homes are in the subtree
abbrev pub EndCountsThreads : Type 0
EndCountsThreads =
    (state : State) (stamp n status : ℕ) (caller : Row)
    → caller_of state n ≡ Some caller → is_init state caller ≡ false → (step state stamp (Exit n status)).reply ≡ Done
    → (c : ℕ) → count state c
    ≡ count (step state stamp (Exit n status)).state c
    + length (filter (λ t. is_thread_of caller.name t && is_below state.controls t.home c) state.threads)

-- an exec counts its process once, where the calling thread is counted, and its threads no more
abbrev pub ExecCountsOne : Type 0
ExecCountsOne =
    (state : State) (stamp n : ℕ) (caller : Row)
    → IsSound state → caller_of state n ≡ Some caller
    → (c : ℕ) → count state c + one_where (is_below state.controls (as_thread state n caller).home c)
    ≡ count (step state stamp (Exec n)).state c + one_where (is_below state.controls caller.home c)
    + length (filter (λ t. is_thread_of caller.name t && is_below state.controls t.home c) state.threads)

-- the homes of the process's running threads
abbrev pub homes_running : State → Row → List ℕ
homes_running state row =
    map (λ t. t.home) (filter (is_thread_of row.name) state.threads)
    ++ (if has_left state (root_number row.name) then [] else row.home ∷ [])

-- a move counts each running thread of the process one less from its old home to the root, and one more from the new home to the root
abbrev pub MoveCountsBoth : Type 0
MoveCountsBoth =
    (state : State) (stamp n id : ℕ) (task : Row)
    → IsSound state → process_at state n ≡ Some task → (step state stamp (Move n id)).reply ≡ Done
    → (c : ℕ) → count (step state stamp (Move n id)).state c
    + length (filter (λ home. is_below state.controls home c) (homes_running state task))
    ≡ count state c + length (filter (λ home. is_below state.controls id c) (homes_running state task))

-- whether the process has its first thread alone
abbrev pub is_alone : State → Row → Bool
is_alone state row = (length (filter (is_thread_of row.name) state.threads) == 0) && not (has_left state (root_number row.name))

-- whether the call is a fork, a wait, a move, an exit by which a namespace falls, or an exit or an exec of a process that has threads or
-- whose first thread has left
abbrev pub may_change_counts : State → Call → Bool
may_change_counts state (Fork caller new_space) = true
may_change_counts state (Wait caller which) = true
may_change_counts state (Move task id) = true
may_change_counts state (Exit caller status) =
    option_map_or (λ row. is_init state row || not (is_alone state row)) (caller_of state caller) false
may_change_counts state (Exec caller) = option_map_or (λ row. not (is_alone state row)) (caller_of state caller) false
may_change_counts state _ = false

-- no other call changes the count of a control group that is there before and after it
abbrev pub NothingElseCounts : Type 0
NothingElseCounts =
    (state : State) (stamp : ℕ) (call : Call) → IsSound state → IsBelow stamp state → may_change_counts state call ≡ false
    → (c : ℕ) (g h : Control) → control_at state.controls c ≡ Some g → control_at (step state stamp call).state.controls c ≡ Some h
    → count (step state stamp call).state c ≡ count state c

-- whether the call about threads is a new thread, or the end of one
abbrev pub makes_or_ends : ThreadCall → Bool
makes_or_ends (NewThread caller) = true
makes_or_ends (Leave caller status) = true
makes_or_ends _ = false

-- no other call about threads changes a count
abbrev pub ThreadQueriesCountNothing : Type 0
ThreadQueriesCountNothing =
    (state : State) (call : ThreadCall) → makes_or_ends call ≡ false → (c : ℕ) → count (thread_step state call).state c ≡ count state c
