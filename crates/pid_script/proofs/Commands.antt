-- Commands, told by how long they are.
use Rattle.std.proofs.Common.{codes, Option, ◌≡◌, ◌≢◌, ℕ, eqb, List, [], ◌∷◌, length, filter, None, refl, sym, ap, ◌∙◌, option_and_then}
use Rattle.std.proofs.lemmas.Bool.{ne_eqb}
use Rattle.std.proofs.lemmas.Slice.Eq.{bytes_eq-Decides}
use Rattle.pid_types.specs.declared.call.Call.{Call}
use Rattle.pid_types.specs.declared.call.Call.TheVariants.{Exec, Exit, Wait, SetPgid, SetSid, GetPid, GetPpid, GetPgid, GetSid, NsPid, Next, SetLimit, Move, MakeControl, RemoveControl, Count, Join, SetSubreaper}
use Rattle.pid_script.specs.Reading.{is_word, named, commands, command_of, one, two, three, process_of, control_of, status_read, which_read, signed_of, kind_read, limit_read, switch_read, fork_of}
use Rattle.pid_script.proofs.Cuts.{by_test, same_eqb}

-- the rows whose words are so long
abbrev pub rows_of : {A : Type 0} → ℕ → List (List ℕ × A) → List (List ℕ × A)
rows_of n rows = filter (λ row. eqb n (length row.0)) rows

-- a word has one of the rows whose words are as long
named-as_long : {A : Type 0} (rows : List (List ℕ × A)) (word : List ℕ) → named rows word ≡ named (rows_of (length word) rows) word
named-as_long [] word = refl
named-as_long (row ∷ rows) word =
    by_test (is_word row.0 word)
    (λ same. (rw (same, ap (λ w. eqb (length word) (length w)) (sym ((bytes_eq-Decides word row.0).0 same)), same_eqb (length word), same)))
    (λ other. by_test (eqb (length word) (length row.0))
    (λ long. (rw (other, long, other) (named-as_long rows word)))
    (λ short. (rw (other, short) (named-as_long rows word))))

-- so does a command
abbrev AsLong : ℕ → Type 0
AsLong n = (command words : List ℕ) → length command ≡ n → command_of command words ≡ option_and_then (λ read. read words) (named (rows_of n commands) command)

as_long : (n : ℕ) → AsLong n
unfolding command_of
as_long n command words is =
    ap (option_and_then (λ read. read words)) (named-as_long commands command ∙ ap (λ n. named (rows_of n commands) command) is)

-- no command has another length
pub no_command : (command words : List ℕ) → length command ≢ 2 → length command ≢ 4 → length command ≢ 5 → length command ≢ 6
    → length command ≢ 7 → length command ≢ 9 → command_of command words ≡ None
no_command command words a b c d e f =
    as_long (length command) command words refl
    ∙ (rw (ne_eqb _ 2 a, ne_eqb _ 4 b, ne_eqb _ 5 c, ne_eqb _ 6 d, ne_eqb _ 7 e, ne_eqb _ 9 f))

-- what the words behind a command are read as
abbrev IsRow : List ℕ → (List ℕ → Option Call) → Type 0
IsRow command read = (words : List ℕ) → command_of command words ≡ read words

pub row_fork : IsRow (codes "fork") fork_of
unfolding command_of
row_fork words = refl

pub row_exec : IsRow (codes "exec") (one process_of Exec)
unfolding command_of
row_exec words = refl

pub row_exit : IsRow (codes "exit") (two process_of status_read Exit)
unfolding command_of
row_exit words = refl

pub row_wait : IsRow (codes "wait") (two process_of which_read Wait)
unfolding command_of
row_wait words = refl

pub row_setpgid : IsRow (codes "setpgid") (three process_of signed_of signed_of SetPgid)
unfolding command_of
row_setpgid words = refl

pub row_setsid : IsRow (codes "setsid") (one process_of SetSid)
unfolding command_of
row_setsid words = refl

pub row_getpid : IsRow (codes "getpid") (one process_of GetPid)
unfolding command_of
row_getpid words = refl

pub row_getppid : IsRow (codes "getppid") (one process_of GetPpid)
unfolding command_of
row_getppid words = refl

pub row_getpgid : IsRow (codes "getpgid") (two process_of process_of GetPgid)
unfolding command_of
row_getpgid words = refl

pub row_getsid : IsRow (codes "getsid") (two process_of process_of GetSid)
unfolding command_of
row_getsid words = refl

pub row_nspid : IsRow (codes "nspid") (two process_of process_of NsPid)
unfolding command_of
row_nspid words = refl

pub row_next : IsRow (codes "next") (three process_of kind_read process_of Next)
unfolding command_of
row_next words = refl

pub row_limit : IsRow (codes "limit") (two control_of limit_read SetLimit)
unfolding command_of
row_limit words = refl

pub row_move : IsRow (codes "move") (two process_of control_of Move)
unfolding command_of
row_move words = refl

pub row_count : IsRow (codes "count") (one control_of Count)
unfolding command_of
row_count words = refl

pub row_join : IsRow (codes "join") (two process_of process_of Join)
unfolding command_of
row_join words = refl

pub row_subreaper : IsRow (codes "subreaper") (two process_of switch_read SetSubreaper)
unfolding command_of
row_subreaper words = refl

pub row_mk : IsRow (codes "mk") (one control_of MakeControl)
unfolding command_of
row_mk words = refl

pub row_rm : IsRow (codes "rm") (one control_of RemoveControl)
unfolding command_of
row_rm words = refl
