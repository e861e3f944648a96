-- What a call comes to: the state after it and the reply.
use Rattle.std.specs.Prelude.{ℕ, Bool, true, false, ◌&&◌, not, length, ◌==◌, filter, Option, Some, None}
use Rattle.pid_types.specs.declared.plain.Row.{Row}
use Rattle.pid_types.specs.declared.plain.Space.{Space}
use Rattle.pid_types.specs.declared.reply.Reply.{Reply}
use Rattle.pid_types.specs.declared.reply.Reply.TheVariants.{Refused}
use Rattle.pid_types.specs.declared.reply.Refusal.{Refusal}
use Rattle.pid_types.specs.declared.reply.Refusal.TheVariants.{NoCaller}
use Rattle.pid_types.specs.State.{State}
use Rattle.pid_types.specs.Names.{taken}
use Rattle.pid_types.specs.Threads.{caller_of, as_thread}

-- the state after a call, and the reply to it
pub record Outcome : Type 0 where
  pub state : State
  pub reply : Reply

-- whether the namespace has fallen and nothing has a number in it any more
abbrev pub is_dead : State → Space → Bool
is_dead state s = s.fallen && (length (taken state s.id) == 0)

-- the state without the dead namespaces. That they go with their last number is the table's own rule; the kernel's is in
-- namespaces(7), "Namespace lifetime"
unfoldable pub sweep : State → State
sweep state = record state { spaces = filter (λ s. not (is_dead state s)) state.spaces }

-- the outcome of a refused call: nothing has changed
abbrev pub refused : State → Refusal → Outcome
refused state r = record { state = state; reply = Refused r }

-- the outcome of a call that changes nothing
abbrev pub answered : State → Reply → Outcome
answered state reply = record { state = state; reply = reply }

-- the outcome of a call that made this state, which is swept
abbrev pub changed : State → Reply → Outcome
changed state reply = record { state = sweep state; reply = reply }

-- the outcome for what was found, or the refusal where nothing was
abbrev pub for_found : {A : Type 0} → State → Option A → Refusal → (A → Outcome) → Outcome
for_found state None r call = refused state r
for_found state (Some a) r call = call a

-- the refusal that names what was found, or the outcome where nothing was
abbrev pub unless_found : {A : Type 0} → State → Option A → (A → Refusal) → Outcome → Outcome
unless_found state None r o = o
unless_found state (Some a) r o = refused state (r a)

-- the refusal where the test holds, or else the outcome
abbrev pub refuse_if : State → Bool → Refusal → Outcome → Outcome
refuse_if state true r o = refused state r
refuse_if state false r o = o

-- the call of a process, by the root number of the thread that makes it
abbrev pub by_caller : State → ℕ → (Row → Outcome) → Outcome
by_caller state n call = for_found state (caller_of state n) NoCaller call

-- the call of that thread
abbrev pub by_thread : State → ℕ → (Row → Outcome) → Outcome
by_thread state n call = by_caller state n (λ row. call (as_thread state n row))
