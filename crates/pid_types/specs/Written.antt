-- What is told of a list of numbers that is written where there is room for it.
use Rattle.std.specs.Prelude.{◌≡◌, ◌≤◌, ℕ, List, length, take, Result, Ok, Err}
use Rattle.pid_types.specs.declared.reply.Refusal.{Refusal}
use Rattle.pid_types.specs.declared.reply.Reply.{Reply}
use Rattle.pid_types.specs.Short.{list_reply}

-- the reply: so many first numbers of the room, or the refusal
abbrev pub told_of : Result ℕ Refusal → List ℕ → Reply
told_of (Ok count) room = list_reply (take count room)
told_of (Err refusal) room = Reply.Refused refusal

-- how many numbers were written
abbrev pub written : Result ℕ Refusal → ℕ
written (Ok count) = count
written (Err refusal) = 0

-- the room has the numbers of the reply, or that is the refusal
pub record IsWritten (told : Result ℕ Refusal) (room : List ℕ) (reply : Reply) : Type 0 where
  pub tells : told_of told room ≡ reply
  pub fits : written told ≤ length room
