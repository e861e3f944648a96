-- The reply that a short one stands for, and that of a list of numbers.
use Rattle.std.specs.Prelude.{ℕ, List}
use Rattle.pid_types.specs.declared.reply.Reply.{Reply}
use Rattle.pid_types.specs.declared.reply.ShortReply.{ShortReply}
use Rattle.pid_types.specs.declared.reply.ShortReply.TheVariants as short

-- the reply with the same name and the same fields
abbrev pub reply_of : ShortReply → Reply
reply_of (short.Forked child root) = Reply.Forked child root
reply_of short.Done = Reply.Done
reply_of (short.Number number) = Reply.Number number
reply_of (short.Reaped child ended) = Reply.Reaped child ended
reply_of short.NoneYet = Reply.NoneYet
reply_of (short.Counted count) = Reply.Counted count
reply_of (short.Control id) = Reply.Control id
reply_of short.End = Reply.End
reply_of (short.Refused refusal) = Reply.Refused refusal

-- the reply that is a list of these numbers
abbrev pub list_reply : List ℕ → Reply
list_reply numbers = Reply.Levels (record { items = numbers })
