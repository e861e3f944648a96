-- What is told of a call that was made.
use Rattle.std.specs.Prelude.{◌≡◌, ◌≢◌, ◌-◌, ◌^◌, ℕ, Option, IfSome}
use Rattle.pid_types.specs.declared.reply.Reply.{Reply}
use Rattle.pid_types.specs.declared.reply.ShortReply.{ShortReply}
use Rattle.kept_past.specs.Stored.{IsToldOf}
use Rattle.kept_table.specs.Chronicle.{Chronicle, last_reply}
use Rattle.saved_form.specs.declared.numbers.ReplyNumbers.{ReplyNumbers}
use Rattle.foreign_numbers.specs.Numbers.{numbers_of}
use Rattle.foreign_numbers.specs.declared.status.TheConstants.{DONE}

-- the reply is told as numbers, which stay as they were unless the status is DONE
pub record TellsReply (told : Reply) (old new : ReplyNumbers) (status : ℕ) : Type 0 where
  pub reply : status ≡ DONE → new ≡ numbers_of told
  pub not_done : status ≢ DONE → new ≡ old

-- it is what is told of the reply of the record's last entry
abbrev pub IsReplyToLast : Chronicle → Option ShortReply → Type 0
IsReplyToLast held told = IfSome (last_reply held) (λ reply. IsToldOf reply told)

-- no stamp is left: the one of the next call would be the greatest number, which no call has
abbrev pub IsSpent : ℕ → Type 0
IsSpent stamp = stamp ≡ 2 ^ 64 - 1
