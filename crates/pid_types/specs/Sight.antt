-- What a namespace can see, and the answers read off that alone.
use Rattle.std.specs.Prelude.{ℕ, Bool, ◌&&◌, ◌||◌, ◌==◌, nat_lt, nat_le, List, map, filter, Option, if◌then◌else◌, is_some, find, slice_index}
use Rattle.std.specs.Option.{option_map_or}
use Rattle.pid_types.specs.declared.plain.Row.{Row}
use Rattle.pid_types.specs.declared.call.Call.{Call}
use Rattle.pid_types.specs.declared.call.Call.TheVariants.{GetPid, GetPpid, GetPgid, GetSid, NsPid, Next}
use Rattle.pid_types.specs.declared.call.Kind.{Kind}
use Rattle.pid_types.specs.declared.call.Kind.TheVariants.{Task, Group, Session}
use Rattle.pid_types.specs.declared.reply.Reply.{Reply}
use Rattle.pid_types.specs.declared.reply.Reply.TheVariants.{Number, Levels as LevelList, End, Done, Refused}
use Rattle.pid_types.specs.declared.reply.Refusal.TheVariants.{NoTask}
use Rattle.pid_types.specs.Chains.{least_of}
use Rattle.pid_types.specs.declared.plain.Thread.{Thread}
use Rattle.pid_types.specs.State.{State}
use Rattle.pid_types.specs.Names.{number_or_zero, numbers_from, is_live, number}

-- what is seen of one task: its numbers from the namespace inwards, and there those of its parent, group and session
pub record Glimpse : Type 0 where
  pub numbers : List ℕ
  pub parent : ℕ
  pub group : ℕ
  pub session : ℕ
  pub live : Bool

-- whether the task, its group or its session has a number in the namespace
abbrev pub is_seen : State → ℕ → Row → Bool
is_seen state s row =
    is_some (number state.spaces row.name s) || is_some (number state.spaces row.group s) || is_some (number state.spaces row.session s)

-- what the namespace sees of the task, 0 for a parent, group or session that has no number there
abbrev pub glimpse_of : State → ℕ → Row → Glimpse
glimpse_of state s row = record {
  numbers = numbers_from state.spaces row.name s;
  parent = option_map_or (λ parent. number_or_zero state.spaces parent s) row.parent 0;
  group = number_or_zero state.spaces row.group s;
  session = number_or_zero state.spaces row.session s;
  live = is_live row;
}

-- what the namespace sees. It counts as a set: only which glimpses there are, and neither their order nor how often each stands
unfoldable pub sight : State → ℕ → List Glimpse
sight state s = map (glimpse_of state s) (filter (is_seen state s) state.rows)

-- what is seen of one thread beside the first ones: its numbers from the namespace inwards, and its process's there
pub record ThreadGlimpse : Type 0 where
  pub numbers : List ℕ
  pub process : ℕ

-- what the namespace sees of the thread
abbrev pub thread_glimpse : State → ℕ → Thread → ThreadGlimpse
thread_glimpse state s t = record { numbers = numbers_from state.spaces t.name s; process = number_or_zero state.spaces t.process s }

-- what the namespace sees of threads. It counts as a set too
abbrev pub thread_sight : State → ℕ → List ThreadGlimpse
thread_sight state s = map (thread_glimpse state s) (filter (λ t. is_some (number state.spaces t.name s)) state.threads)

-- what is seen of the task with the number
abbrev pub glimpse_at : List Glimpse → ℕ → Option Glimpse
glimpse_at seen n = find (λ g. nat_lt 0 n && (slice_index g.numbers 0 == n)) seen

-- the same, where 0 is the caller's own number
abbrev pub self_or_glimpse : List Glimpse → ℕ → ℕ → Option Glimpse
self_or_glimpse seen n pid = glimpse_at seen (if pid == 0 then n else pid)

-- what is seen of the thread with the number
abbrev pub thread_glimpse_at : List ThreadGlimpse → ℕ → Option ThreadGlimpse
thread_glimpse_at threads n = find (λ t. nat_lt 0 n && (slice_index t.numbers 0 == n)) threads

-- the number of the process, where the number is a thread's
abbrev pub process_seen : List ThreadGlimpse → ℕ → ℕ
process_seen threads n = option_map_or (λ t. t.process) (thread_glimpse_at threads n) n

-- the number that is seen in use as the kind
abbrev pub number_by : Kind → Glimpse → ℕ
number_by Task g = slice_index g.numbers 0
number_by Group g = g.group
number_by Session g = g.session

-- the answer about the task that is seen
abbrev pub of_glimpse : Option Glimpse → (Glimpse → Reply) → Reply
of_glimpse g reply = option_map_or reply g (Refused NoTask)

-- the answer that tells the numbers
abbrev pub levels_seen : List ℕ → Reply
levels_seen numbers = LevelList (record { items = numbers })

-- the answer to the live process with the number n, from what is seen of processes and of threads
unfoldable pub seen : List Glimpse → List ThreadGlimpse → ℕ → Call → Reply
seen sight threads n (GetPid caller) = Number n
seen sight threads n (GetPpid caller) = of_glimpse (glimpse_at sight n) (λ g. Number g.parent)
seen sight threads n (GetPgid caller pid) = of_glimpse (self_or_glimpse sight n (process_seen threads pid)) (λ g. Number g.group)
seen sight threads n (GetSid caller pid) = of_glimpse (self_or_glimpse sight n (process_seen threads pid)) (λ g. Number g.session)
seen sight threads n (NsPid caller target) =
    option_map_or (λ t. levels_seen t.numbers) (thread_glimpse_at threads target)
    (of_glimpse (glimpse_at sight target) (λ g. levels_seen g.numbers))
seen sight threads n (Next caller kind from) =
    option_map_or Number (least_of (filter (λ m. nat_lt 0 m && nat_le from m) (map (number_by kind) sight))) End
seen sight threads n _ = Done
