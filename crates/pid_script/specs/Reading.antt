-- What a line of a script says: a table of commands, and small readers for the words behind them.
use Rattle.std.specs.Prelude.{ℕ, ◌^◌, ◌+◌, ◌<◌, ◌≤◌, ◌≡◌, take, ◌≢◌, length, slice_index, Bool, true, false, ◌&&◌, List, [], ◌∷◌, codes, decimal, Option, Some, None, if◌then◌else◌, ◌==◌, nat_lt, option_and_then, ℤ, pos}
use lib.IntN.{neg_ℤ}
use Rattle.std.specs.Option.{option_map, option_or}
use Rattle.std.specs.Str.{bytes_eq}
use Rattle.std.specs.Char.{digit_value}
use Rattle.std.specs.Str.Parse.{AllDigits, digits_value}
use Rattle.pid_types.specs.declared.call.Call.{Call}
use Rattle.pid_types.specs.declared.call.Call.TheVariants.{Fork, GetPid, NsPid, Exec, Exit, Wait, GetPpid, SetPgid, SetSid, MakeControl, RemoveControl, SetLimit, Move, Count, GetPgid, GetSid, Next, Join, SetSubreaper}
use Rattle.pid_types.specs.declared.call.Which.{Which}
use Rattle.pid_types.specs.declared.call.Which.TheVariants.{Any, Pid, OwnGroup, Group}
use Rattle.pid_types.specs.declared.call.Kind.{Kind}
use Rattle.pid_types.specs.declared.call.Kind.TheVariants as kind
use Rattle.pid_script.specs.declared.line.Line.{Line}
use Rattle.pid_script.specs.declared.line.Line.TheVariants as says

infixl 10 ◌>>=◌
abbrev pub ◌>>=◌ : {A B : Type 0} → Option A → (A → Option B) → Option B
o >>= f = option_and_then f o

-- whether the word is this one
abbrev pub is_word : List ℕ → List ℕ → Bool
is_word word bytes = bytes_eq bytes word

-- no such byte stands before this index
abbrev pub IsFreeOf : ℕ → ℕ → List ℕ → Type 0
IsFreeOf byte end bytes = (k : ℕ) → k < end → slice_index bytes k ≢ byte

-- the first such byte stands at this index
pub record IsFirstOf (byte index : ℕ) (bytes : List ℕ) : Type 0 where
  pub within : index < length bytes
  pub is : slice_index bytes index ≡ byte
  pub free : IsFreeOf byte index bytes

-- what stands before the first such byte, and what stands after it
abbrev pub cut : ℕ → List ℕ → Option (List ℕ × List ℕ)
cut byte [] = None
cut byte (b ∷ bs) = if b == byte then Some ([], bs) else option_map (λ p. (b ∷ p.0, p.1)) (cut byte bs)

-- the word is not empty, and has no leading zero
abbrev pub IsPlain : List ℕ → Type 0
IsPlain word = (0 < length word) × (slice_index word 0 ≡ 48 → length word ≡ 1)

-- the word begins with so many digits, at most nine, and they write this number; after fewer than nine comes no digit
pub record IsFrontOf (word : List ℕ) (digits number : ℕ) : Type 0 where
  pub within : digits ≤ length word
  pub few : digits ≤ 9
  pub all : AllDigits 10 (take digits word)
  pub value : number ≡ digits_value 10 (take digits word)
  pub ended : digits < 9 → digits < length word → ¬ (digit_value (slice_index word digits) < 10)

-- the number below the bound that is written so
unfoldable pub number_below : ℕ → List ℕ → Option ℕ
number_below bound word =
    let n = digits_value 10 word in if nat_lt n bound && bytes_eq (decimal n) word then Some n else None

-- the number of 32 bits with a minus sign before these digits, which are not those of 0
unfoldable pub negative_of : List ℕ → Option ℤ
negative_of digits = option_and_then (λ n. if n == 0 then None else Some (neg_ℤ (pos n))) (number_below (2 ^ 31 + 1) digits)

-- the number of 32 bits, with its sign, that is written so
unfoldable pub signed_of : List ℕ → Option ℤ
signed_of [] = None
signed_of (b ∷ bs) = if b == 45 then negative_of bs else option_map pos (number_below (2 ^ 31) (b ∷ bs))

-- no minus sign stands in front
abbrev pub IsUnsigned : List ℕ → Type 0
IsUnsigned word = 0 < length word → slice_index word 0 ≢ 45

-- what is read of the word before the first space, and what stands after that space
abbrev pub before : {A : Type 0} → (List ℕ → Option A) → List ℕ → Option (A × List ℕ)
before read words = do
  p ← cut 32 words
  x ← read p.0
  Some (x, p.1)

-- a number below the bound, and one with its sign
abbrev pub number_then : ℕ → List ℕ → Option (ℕ × List ℕ)
number_then bound = before (number_below bound)

abbrev pub signed_then : List ℕ → Option (ℤ × List ℕ)
signed_then = before signed_of

-- what the row of this word has
abbrev pub named : {A : Type 0} → List (List ℕ × A) → List ℕ → Option A
named [] word = None
named (row ∷ rows) word = if is_word row.0 word then Some row.1 else named rows word

-- the number of a process, of a control group, and of a status
abbrev pub process_of : List ℕ → Option ℕ
process_of = number_below (2 ^ 32)

abbrev pub control_of : List ℕ → Option ℕ
control_of = number_below (2 ^ 64)

abbrev pub status_read : List ℕ → Option ℕ
status_read = number_below (2 ^ 8)

-- a kind of number, and a switch
unfoldable pub kind_read : List ℕ → Option Kind
kind_read = named ((codes "task", kind.Task) ∷ (codes "group", kind.Group) ∷ (codes "session", kind.Session) ∷ [])

unfoldable pub switch_read : List ℕ → Option Bool
switch_read = named ((codes "on", true) ∷ (codes "off", false) ∷ [])

-- a limit
unfoldable pub limit_read : List ℕ → Option (Option ℕ)
limit_read word = option_or (named ((codes "max", None) ∷ []) word) (option_map Some (process_of word))

-- the children that a wait selects by a number, and all that it may select
unfoldable pub numbered_of : List ℕ → Option Which
numbered_of words = do
  p ← cut 32 words
  number ← process_of p.1
  option_map (λ which. which number) (named ((codes "pid", Pid) ∷ (codes "group", Group) ∷ []) p.0)

unfoldable pub which_read : List ℕ → Option Which
which_read words = option_or (named ((codes "any", Any) ∷ (codes "own", OwnGroup) ∷ []) words) (numbered_of words)

-- one argument and, behind a space, what comes after it
abbrev pub pair : {A B : Type 0} → (List ℕ → Option A) → (List ℕ → Option B) → List ℕ → Option (A × B)
pair first second words = do
  x ← before first words
  y ← second x.1
  Some (x.0, y)

-- a call of one argument, of two and of three
abbrev pub one : {A : Type 0} → (List ℕ → Option A) → (A → Call) → List ℕ → Option Call
one first call words = option_map call (first words)

abbrev pub two : {A B : Type 0} → (List ℕ → Option A) → (List ℕ → Option B) → (A → B → Call) → List ℕ → Option Call
two first second call = one (pair first second) (λ p. call p.0 p.1)

abbrev pub three : {A B C : Type 0} → (List ℕ → Option A) → (List ℕ → Option B) → (List ℕ → Option C) → (A → B → C → Call)
    → List ℕ → Option Call
three first second third call = one (pair first (pair second third)) (λ p. call p.0 p.1.0 p.1.1)

-- a caller, and whether the word `new` follows it
unfoldable pub fork_new_of : List ℕ → Option Call
fork_new_of = two process_of (named ((codes "new", true) ∷ [])) Fork

unfoldable pub fork_of : List ℕ → Option Call
fork_of words = option_or (one process_of (λ caller. Fork caller false) words) (fork_new_of words)

-- the commands, and what the words behind each are read as
abbrev pub commands : List (List ℕ × (List ℕ → Option Call))
commands =
    (codes "fork", fork_of)
    ∷ (codes "exec", one process_of Exec)
    ∷ (codes "exit", two process_of status_read Exit)
    ∷ (codes "wait", two process_of which_read Wait)
    ∷ (codes "setpgid", three process_of signed_of signed_of SetPgid)
    ∷ (codes "setsid", one process_of SetSid)
    ∷ (codes "getpid", one process_of GetPid)
    ∷ (codes "getppid", one process_of GetPpid)
    ∷ (codes "getpgid", two process_of process_of GetPgid)
    ∷ (codes "getsid", two process_of process_of GetSid)
    ∷ (codes "nspid", two process_of process_of NsPid)
    ∷ (codes "next", three process_of kind_read process_of Next)
    ∷ (codes "mk", one control_of MakeControl)
    ∷ (codes "rm", one control_of RemoveControl)
    ∷ (codes "limit", two control_of limit_read SetLimit)
    ∷ (codes "move", two process_of control_of Move)
    ∷ (codes "count", one control_of Count)
    ∷ (codes "join", two process_of process_of Join)
    ∷ (codes "subreaper", two process_of switch_read SetSubreaper)
    ∷ []

-- the call of a command and the words behind it
unfoldable pub command_of : List ℕ → List ℕ → Option Call
command_of command words = named commands command >>= λ read. read words

-- the call on a line
abbrev pub call_read : List ℕ → Option Call
call_read line = cut 32 line >>= λ p. command_of p.0 p.1

-- the call that is there, or a bad line
abbrev pub call_or_bad : Option Call → Line
call_or_bad None = says.Bad
call_or_bad (Some call) = says.Call call

-- what a line says
abbrev pub parsed : List ℕ → Line
parsed [] = says.Empty
parsed (b ∷ bs) = call_or_bad (call_read (b ∷ bs))
