-- What is answered to a line.
use Rattle.std.specs.Prelude.{ℕ, List, [], ◌++◌, codes, decimal, map, Option, Result, Ok, Err}
use Rattle.std.specs.Borrow.{Bor}
use Rattle.std.specs.List.{join_with_byte}
use Rattle.std.specs.Option.{unwrap_or}
use Rattle.std.specs.Result.{result_map_both}
use Rattle.pid_types.specs.declared.entry.Receipt.{Receipt}
use Rattle.pid_types.specs.declared.plain.Ended.{Ended}
use Rattle.pid_types.specs.declared.plain.Ended.TheVariants.{Exited, Killed}
use Rattle.pid_types.specs.declared.reply.CallFault.{CallFault}
use Rattle.pid_types.specs.declared.reply.CallFault.TheVariants.{NoMemory, Spent}
use Rattle.pid_types.specs.declared.reply.Refusal.{Refusal}
use Rattle.pid_types.specs.declared.reply.Refusal.TheVariants.{NoNumber, PidsLimit}
use Rattle.pid_types.specs.declared.reply.Reply.{Reply}
use Rattle.pid_types.specs.Refusals.{errno_entry, refusal_entry}
use Rattle.pid_types.specs.declared.reply.Reply.TheVariants.{Forked, Done, Number, Levels, Reaped, NoneYet, Counted, Control, End, Refused}

-- the numbers in order, with the byte between them
abbrev pub joined : ℕ → List ℕ → List ℕ
joined separator numbers = join_with_byte separator (map decimal numbers)

-- the id of what refused the call, behind a space
abbrev pub refuser_text : Refusal → List ℕ
refuser_text (NoNumber space) = codes " " ++ decimal space
refuser_text (PidsLimit control) = codes " " ++ decimal control
refuser_text _ = []

-- the name of the errno, and the word that says why; and the id of what refused the call
abbrev pub refusal_text : Refusal → List ℕ
refusal_text refusal =
    (errno_entry (refusal_entry refusal).error).name ++ codes " " ++ (refusal_entry refusal).word ++ refuser_text refusal

-- how a task ended
abbrev pub ended_text : Ended → List ℕ
ended_text (Exited status) = codes " exit " ++ decimal status
ended_text Killed = codes " killed"

-- the text of a reply
unfoldable pub reply_text : Reply → List ℕ
reply_text (Forked child root) = codes "child " ++ decimal child ++ codes " root " ++ decimal root
reply_text Done = codes "ok"
reply_text (Number number) = decimal number
reply_text (Levels numbers) = joined 32 numbers.items
reply_text (Reaped child ended) = codes "reaped " ++ decimal child ++ ended_text ended
reply_text NoneYet = codes "none"
reply_text (Counted count) = decimal count
reply_text (Control id) = codes "control " ++ decimal id
reply_text End = codes "end"
reply_text (Refused refusal) = refusal_text refusal

-- the text of a call that has no reply
abbrev pub fault_text : CallFault → List ℕ
fault_text NoMemory = codes "no memory"
fault_text Spent = codes "spent"

-- the answer to a call, without its newline
abbrev pub answer_of : Result Reply CallFault → List ℕ
answer_of (Ok reply) = reply_text reply
answer_of (Err fault) = fault_text fault

-- the reply that a receipt has
abbrev pub received : Result Receipt CallFault → Result Reply CallFault
received answer = result_map_both (λ receipt. receipt.reply) (λ fault. fault) answer

-- the reply that is lent
abbrev pub lent : Result (Bor Reply) CallFault → Result Reply CallFault
lent answer = result_map_both (λ reply. reply.now) (λ fault. fault) answer

-- the reply that is held, where the call was made, of which then there is one
abbrev pub replied : Result Unit CallFault → Option Reply → Result Reply CallFault
replied made held = result_map_both (λ _. unwrap_or held Done) (λ fault. fault) made
