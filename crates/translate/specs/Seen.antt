-- A query is answered from what the caller's namespace sees.
use Rattle.std.specs.Prelude.{◌≡◌, ℕ}
use Rattle.pid_types.specs.declared.plain.Row.{Row}
use Rattle.pid_types.specs.declared.reply.Reply.{Reply}
use Rattle.pid_types.specs.State.{State}
use Rattle.pid_types.specs.Sight.{sight, thread_sight, seen}
use Rattle.model_laws.specs.SightLaws.{Query, IsLiveCaller}

-- a live caller has the reply that is read off what its namespace sees and its own number there, and nothing else
abbrev pub IsSeenReply : State → ℕ → Query → Reply → Type 0
IsSeenReply state root query reply =
    (caller : Row) (n : ℕ) → IsLiveCaller state root caller n
    → reply ≡ seen (sight state caller.name.space) (thread_sight state caller.name.space) n (query root)
