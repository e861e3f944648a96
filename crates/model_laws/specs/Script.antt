-- Scripts: calls, each with its answer, made one after another from the root state on.
use Rattle.std.specs.Prelude.{◌≡◌, ℕ, List, map}
use Rattle.pid_types.specs.declared.plain.Name.{Name}
use Rattle.pid_types.specs.declared.call.Call.{Call}
use Rattle.pid_types.specs.declared.reply.Reply.{Reply}
use Rattle.pid_types.specs.State.{State, root_state}
use Rattle.pid_types.specs.Replay.{replies, state_after}
use Rattle.pid_types.specs.ThreadStep.{AnyCall, state_after_any, replies_to_any}
use Rattle.pid_types.specs.Sight.{sight}
use Rattle.pid_types.specs.Sound.{IsSound}

-- each call is answered as it stands beside it
abbrev pub AnswersScript : ℕ → List (Call × Reply) → Type 0
AnswersScript pid_max lines = replies (root_state pid_max) 1 (map (λ l. l.0) lines) ≡ map (λ l. l.1) lines

-- after the one calls the one namespace sees what the other namespace sees after the others
abbrev pub SeesAlike : List Call → ℕ → List Call → ℕ → Type 0
SeesAlike calls s others t = sight (state_after (root_state 32768) 1 calls) s ≡ sight (state_after (root_state 32768) 1 others) t

-- the name in the namespace that has these numbers, the root's first
abbrev pub name_with : ℕ → List ℕ → Name
name_with space numbers = record { space = space; numbers = record { items = numbers } }

-- the calls end in the state, and it is sound
pub record EndsSound (pid_max : ℕ) (calls : List Call) (end : State) : Type 0 where
  pub ends : state_after (root_state pid_max) 1 calls ≡ end
  pub sound : IsSound end

-- calls of both kinds are answered so
abbrev pub AnswersAny : ℕ → List (AnyCall × Reply) → Type 0
AnswersAny pid_max lines = replies_to_any (root_state pid_max) 1 (map (λ l. l.0) lines) ≡ map (λ l. l.1) lines

-- and end in the state, which is sound
pub record AnyEndsSound (pid_max : ℕ) (calls : List AnyCall) (end : State) : Type 0 where
  pub ends : state_after_any (root_state pid_max) 1 calls ≡ end
  pub sound : IsSound end
