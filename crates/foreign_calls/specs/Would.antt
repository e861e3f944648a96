-- A fork that is made only where its child gets the numbers that are wanted.
use Rattle.std.specs.Prelude.{◌≡◌, ◌≢◌, ◌⊎◌, ℕ, ◌==◌}
use Rattle.pid_types.specs.declared.call.Call.{Call}
use Rattle.pid_types.specs.declared.call.Call.TheVariants.{Fork}
use Rattle.pid_types.specs.declared.reply.Reply.{Reply}
use Rattle.pid_types.specs.declared.reply.Reply.TheVariants.{Forked}
use Rattle.saved_form.specs.declared.numbers.ReplyNumbers.{ReplyNumbers}
use Rattle.foreign_numbers.specs.Numbers.{numbers_of}
use Rattle.foreign_numbers.specs.declared.status.TheConstants.{DONE, DIFFERS}
use Rattle.foreign_calls.specs.declared.would.Wanted.{Wanted}

-- the call
abbrev pub wanted_call : Wanted → Call
wanted_call w = Fork w.caller w.new_space

-- the reply that it is to get
abbrev pub wanted_reply : Wanted → Reply
wanted_reply w = Forked w.child w.root

-- the fork that numbers say: into a new namespace where the switch is 1
abbrev pub fork_by : ℕ → ℕ → Call
fork_by caller new_space = Fork caller (new_space == 1)

-- the reply that the fork would get is told, whether it is the wanted one and the fork is made, or another one; or else nothing is told
pub record TellsFork (told wanted : Reply) (old new : ReplyNumbers) (status : ℕ) : Type 0 where
  pub met : status ≡ DONE → told ≡ wanted
  pub reply : (status ≡ DONE) ⊎ (status ≡ DIFFERS) → new ≡ numbers_of told
  pub untold : status ≢ DONE → status ≢ DIFFERS → new ≡ old
