-- A table between two calls.
use Rattle.std.specs.Prelude.{ℕ, ◌+◌}
use Rattle.pid_types.specs.declared.call.Call.{Call}
use Rattle.pid_types.specs.declared.reply.Reply.{Reply}
use Rattle.pid_types.specs.State.{State}
use Rattle.pid_types.specs.Step.{step}
use Rattle.pid_types.specs.Sound.{IsSound, IsBelow}

-- a state, and the stamp of the next call on it
pub record Stamped : Type 0 where
  pub state : State
  pub stamp : ℕ

-- the state is sound, and the ids in it are below the stamp
pub record IsInOrder (s : Stamped) : Type 0 where
  pub sound : IsSound s.state
  pub below : IsBelow s.stamp s.state

-- what the call leaves
abbrev pub after_call : Stamped → Call → Stamped
after_call s call = record { state = (step s.state s.stamp call).state; stamp = s.stamp + 1 }

-- the reply to the call
abbrev pub reply_to : Stamped → Call → Reply
reply_to s call = (step s.state s.stamp call).reply
