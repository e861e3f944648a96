-- A query is answered from what the caller's namespace sees.
use Rattle.std.specs.Prelude.{◌≡◌, ◌↔◌, ◌&&◌, ℕ, nat_lt, nat_le, List, map, filter, slice_index, Some}
use Rattle.std.specs.Option.{option_map_or}
use Rattle.pid_types.specs.declared.call.Call.{Call}
use Rattle.pid_types.specs.declared.call.Call.TheVariants.{GetPid, GetPpid, GetPgid, GetSid, NsPid, Next}
use Rattle.pid_types.specs.declared.call.Kind.{Kind}
use Rattle.pid_types.specs.declared.call.Kind.TheVariants.{Task}
use Rattle.pid_types.specs.declared.plain.Row.{Row}
use Rattle.pid_types.specs.declared.reply.Reply.{Reply}
use Rattle.pid_types.specs.declared.reply.Reply.TheVariants.{Number, End, Done}
use Rattle.pid_types.specs.Chains.{least_of}
use Rattle.pid_types.specs.State.{State}
use Rattle.pid_types.specs.Names.{number}
use Rattle.pid_types.specs.Threads.{thread_at, caller_of}
use Rattle.pid_types.specs.Sight.{Glimpse, ThreadGlimpse, sight, thread_sight, glimpse_at, process_seen, number_by, of_glimpse, seen}
use Rattle.pid_types.specs.Sound.{IsSound}
use Rattle.pid_types.specs.Step.{step}
use Rattle.pid_types.specs.declared.call.ThreadCall.{ThreadCall}
use Rattle.pid_types.specs.declared.call.ThreadCall.TheVariants.{GetTid, GetTgid, NextThread}
use Rattle.pid_types.specs.ThreadStep.{thread_step}
use Rattle.pid_types.specs.Membership.{IsIn}

-- the caller's queries: its own number and its parent's, those of a task's group and session, a task's numbers, and the next in use
abbrev pub Query : Type 0
Query = ℕ → Call

-- the query, which its caller makes, is one of the six
pub data IsQuery : Query → Type 0 where
  own_number : IsQuery GetPid
  parent_number : IsQuery GetPpid
  group_of : (pid : ℕ) → IsQuery (λ caller. GetPgid caller pid)
  session_of : (pid : ℕ) → IsQuery (λ caller. GetSid caller pid)
  numbers_of : (target : ℕ) → IsQuery (λ caller. NsPid caller target)
  next_from : (kind : Kind) (from : ℕ) → IsQuery (λ caller. Next caller kind from)

-- in a sound state a running thread of the process with this row has the root number, and the process's number in its own namespace is n
pub record IsLiveCaller (state : State) (root : ℕ) (caller : Row) (n : ℕ) : Type 0 where
  pub sound : IsSound state
  pub live : caller_of state root ≡ Some caller
  pub own : number state.spaces caller.name caller.name.space ≡ Some n

-- a query is answered from what the process's namespace sees, and its own number, alone
abbrev pub QueriesAnswerSeen : Type 0
QueriesAnswerSeen =
    (state : State) (stamp root : ℕ) (caller : Row) (n : ℕ) (query : Query) → IsLiveCaller state root caller n → IsQuery query
    → (step state stamp (query root)).reply ≡ seen (sight state caller.name.space) (thread_sight state caller.name.space) n (query root)

-- two namespaces see the same, of processes or of threads: order and repetition do not count
abbrev pub SeesSame : {X : Type 0} → List X → List X → Type 0
SeesSame {X} a b = (g : X) → IsIn g a ↔ IsIn g b

-- two processes, in any two sound states, whose namespaces see the same and whose own numbers are equal get the same answers
abbrev pub SameSightSameAnswers : Type 0
SameSightSameAnswers =
    (one other : State) (stamp later root elsewhere n : ℕ) (caller like : Row) (query : Query)
    → IsLiveCaller one root caller n → IsLiveCaller other elsewhere like n
    → SeesSame (sight one caller.name.space) (sight other like.name.space)
    → SeesSame (thread_sight one caller.name.space) (thread_sight other like.name.space) → IsQuery query
    → (step one stamp (query root)).reply ≡ (step other later (query elsewhere)).reply

-- ---- the queries about threads

-- the calling thread's own number, the number of a thread's process, and the next number of a thread beside the first ones
abbrev pub ThreadQuery : Type 0
ThreadQuery = ℕ → ThreadCall

-- the query, which its caller makes, is one of the three
pub data IsThreadQuery : ThreadQuery → Type 0 where
  own_thread : IsThreadQuery GetTid
  process_of : (target : ℕ) → IsThreadQuery (λ caller. GetTgid caller target)
  next_thread_from : (from : ℕ) → IsThreadQuery (λ caller. NextThread caller from)

-- in a sound state a running thread of the process with this row has the root number, and its own number in the process's namespace is n
pub record IsCallingThread (state : State) (root : ℕ) (caller : Row) (n : ℕ) : Type 0 where
  pub sound : IsSound state
  pub live : caller_of state root ≡ Some caller
  pub own : number state.spaces (option_map_or (λ t. t.name) (thread_at state root) caller.name) caller.name.space ≡ Some n

-- the first number that is seen of the thread
abbrev pub thread_number : ThreadGlimpse → ℕ
thread_number t = slice_index t.numbers 0

-- the answer to the thread with the number n, from what is seen of processes and of threads
unfoldable pub thread_seen : List Glimpse → List ThreadGlimpse → ℕ → ThreadCall → Reply
thread_seen sight threads n (GetTid caller) = Number n
thread_seen sight threads n (GetTgid caller target) =
    of_glimpse (glimpse_at sight (process_seen threads target)) (λ g. Number (number_by Task g))
thread_seen sight threads n (NextThread caller from) =
    option_map_or Number (least_of (filter (λ m. nat_lt 0 m && nat_le from m) (map thread_number threads))) End
thread_seen sight threads n _ = Done

-- such a query is answered from what the thread's namespace sees, and its own number, alone
abbrev pub ThreadQueriesAnswerSeen : Type 0
ThreadQueriesAnswerSeen =
    (state : State) (root : ℕ) (caller : Row) (n : ℕ) (query : ThreadQuery) → IsCallingThread state root caller n → IsThreadQuery query
    → (thread_step state (query root)).reply
    ≡ thread_seen (sight state caller.name.space) (thread_sight state caller.name.space) n (query root)

-- two threads, in any two sound states, whose namespaces see the same and whose own numbers are equal get the same answers to them
abbrev pub SameSightSameThreadAnswers : Type 0
SameSightSameThreadAnswers =
    (one other : State) (root elsewhere n : ℕ) (caller like : Row) (query : ThreadQuery)
    → IsCallingThread one root caller n → IsCallingThread other elsewhere like n
    → SeesSame (sight one caller.name.space) (sight other like.name.space)
    → SeesSame (thread_sight one caller.name.space) (thread_sight other like.name.space) → IsThreadQuery query
    → (thread_step one (query root)).reply ≡ (thread_step other (query elsewhere)).reply
