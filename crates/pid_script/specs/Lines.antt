-- How calls are written.
use Rattle.std.specs.Prelude.{ℕ, ◌≡◌, ◌≢◌, ◌<◌, ◌^◌, true, false, List, [], ◌∷◌, codes, decimal, Some, None, IfSome, FitsSigned}
use Rattle.std.specs.Int.{w32}
use Rattle.std.specs.Fmt.{signed_decimal}
use Rattle.std.specs.List.{join_with_byte}
use Rattle.pid_types.specs.declared.call.Call.{Call}
use Rattle.pid_types.specs.declared.call.Call.TheVariants.{Fork, GetPid, NsPid, Exec, Exit, Wait, GetPpid, SetPgid, SetSid, MakeControl, RemoveControl, SetLimit, Move, Count, GetPgid, GetSid, Next, Join, SetSubreaper}
use Rattle.pid_script.specs.declared.line.Line.{Line}
use Rattle.pid_script.specs.declared.line.Line.TheVariants as says
use Rattle.pid_types.specs.declared.call.Which.{Which}
use Rattle.pid_types.specs.declared.call.Which.TheVariants.{Any, Pid, OwnGroup, Group}
use Rattle.pid_types.specs.declared.call.Kind.{Kind}
use Rattle.pid_types.specs.declared.call.Kind.TheVariants as kind

-- the words of a kind of number
abbrev pub word_of_kind : Kind → List ℕ
word_of_kind kind.Task = codes "task"
word_of_kind kind.Group = codes "group"
word_of_kind kind.Session = codes "session"

-- the words that say which children a wait selects
abbrev pub words_of_which : Which → List (List ℕ)
words_of_which Any = codes "any" ∷ []
words_of_which (Pid number) = codes "pid" ∷ decimal number ∷ []
words_of_which OwnGroup = codes "own" ∷ []
words_of_which (Group number) = codes "group" ∷ decimal number ∷ []

-- the words of a call: its command and its arguments
abbrev pub words_of : Call → List (List ℕ)
words_of (Fork caller false) = codes "fork" ∷ decimal caller ∷ []
words_of (Fork caller true) = codes "fork" ∷ decimal caller ∷ codes "new" ∷ []
words_of (Exec caller) = codes "exec" ∷ decimal caller ∷ []
words_of (Exit caller status) = codes "exit" ∷ decimal caller ∷ decimal status ∷ []
words_of (Wait caller which) = codes "wait" ∷ decimal caller ∷ words_of_which which
words_of (SetPgid caller pid pgid) = codes "setpgid" ∷ decimal caller ∷ signed_decimal pid ∷ signed_decimal pgid ∷ []
words_of (SetSid caller) = codes "setsid" ∷ decimal caller ∷ []
words_of (GetPid caller) = codes "getpid" ∷ decimal caller ∷ []
words_of (GetPpid caller) = codes "getppid" ∷ decimal caller ∷ []
words_of (GetPgid caller pid) = codes "getpgid" ∷ decimal caller ∷ decimal pid ∷ []
words_of (GetSid caller pid) = codes "getsid" ∷ decimal caller ∷ decimal pid ∷ []
words_of (NsPid caller target) = codes "nspid" ∷ decimal caller ∷ decimal target ∷ []
words_of (Next caller kind from) = codes "next" ∷ decimal caller ∷ word_of_kind kind ∷ decimal from ∷ []
words_of (MakeControl parent) = codes "mk" ∷ decimal parent ∷ []
words_of (RemoveControl id) = codes "rm" ∷ decimal id ∷ []
words_of (SetLimit id (Some limit)) = codes "limit" ∷ decimal id ∷ decimal limit ∷ []
words_of (SetLimit id None) = codes "limit" ∷ decimal id ∷ codes "max" ∷ []
words_of (Move task id) = codes "move" ∷ decimal task ∷ decimal id ∷ []
words_of (Count id) = codes "count" ∷ decimal id ∷ []
words_of (Join caller target) = codes "join" ∷ decimal caller ∷ decimal target ∷ []
words_of (SetSubreaper caller true) = codes "subreaper" ∷ decimal caller ∷ codes "on" ∷ []
words_of (SetSubreaper caller false) = codes "subreaper" ∷ decimal caller ∷ codes "off" ∷ []

-- the line of a call: its words, with one space between
unfoldable pub line_of : Call → List ℕ
line_of call = join_with_byte 32 (words_of call)

-- the number is one that the words can name
abbrev pub FitsWhich : Which → Type 0
FitsWhich Any = Unit {0}
FitsWhich (Pid number) = number < 2 ^ 32
FitsWhich OwnGroup = Unit {0}
FitsWhich (Group number) = number < 2 ^ 32

-- each number of the call is one of its type
abbrev pub Fits : Call → Type 0
Fits (Fork caller new_space) = caller < 2 ^ 32
Fits (Exec caller) = caller < 2 ^ 32
Fits (Exit caller status) = (caller < 2 ^ 32) × (status < 2 ^ 8)
Fits (Wait caller which) = (caller < 2 ^ 32) × FitsWhich which
Fits (SetPgid caller pid pgid) = (caller < 2 ^ 32) × FitsSigned w32 pid × FitsSigned w32 pgid
Fits (SetSid caller) = caller < 2 ^ 32
Fits (GetPid caller) = caller < 2 ^ 32
Fits (GetPpid caller) = caller < 2 ^ 32
Fits (GetPgid caller pid) = (caller < 2 ^ 32) × (pid < 2 ^ 32)
Fits (GetSid caller pid) = (caller < 2 ^ 32) × (pid < 2 ^ 32)
Fits (NsPid caller target) = (caller < 2 ^ 32) × (target < 2 ^ 32)
Fits (Next caller kind from) = (caller < 2 ^ 32) × (from < 2 ^ 32)
Fits (MakeControl parent) = parent < 2 ^ 64
Fits (RemoveControl id) = id < 2 ^ 64
Fits (SetLimit id limit) = (id < 2 ^ 64) × IfSome limit (λ n. n < 2 ^ 32)
Fits (Move task id) = (task < 2 ^ 32) × (id < 2 ^ 64)
Fits (Count id) = id < 2 ^ 64
Fits (Join caller target) = (caller < 2 ^ 32) × (target < 2 ^ 32)
Fits (SetSubreaper caller on) = caller < 2 ^ 32

-- the bytes are the line of the call
pub record IsLineOf (bytes : List ℕ) (call : Call) : Type 0 where
  pub written : bytes ≡ line_of call
  pub fits : Fits call

-- what a line says is what the table says of it: nothing, the one call that is written so, or no call
abbrev pub Says : Line → List ℕ → Type 0
Says says.Empty bytes = bytes ≡ []
Says (says.Call call) bytes = IsLineOf bytes call
Says says.Bad bytes = (bytes ≢ []) × ((call : Call) → IsLineOf bytes call → ⊥)
