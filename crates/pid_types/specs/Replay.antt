-- Whole runs of calls.
use Rattle.std.specs.Prelude.{◌≡◌, ℕ, ◌+◌, List, [], ◌∷◌, map}
use Rattle.pid_types.specs.declared.call.Call.{Call}
use Rattle.pid_types.specs.declared.reply.Reply.{Reply}
use Rattle.pid_types.specs.declared.entry.Entry.{Entry}
use Rattle.pid_types.specs.State.{State}
use Rattle.pid_types.specs.Step.{step}

-- the replies to the calls, one step after another, with stamps rising by one
abbrev pub replies : State → ℕ → List Call → List Reply
replies state stamp [] = []
replies state stamp (call ∷ calls) = let o = step state stamp call in o.reply ∷ replies o.state (stamp + 1) calls

-- the state after the calls
abbrev pub state_after : State → ℕ → List Call → State
state_after state stamp [] = state
state_after state stamp (call ∷ calls) = state_after (step state stamp call).state (stamp + 1) calls

-- the calls of the entries
abbrev pub calls_of : List Entry → List Call
calls_of entries = map (λ e. e.call) entries

-- what holds of each entry, at the state and the stamp at which one thread makes its call
abbrev pub Along : (State → ℕ → Entry → Type 0) → State → ℕ → List Entry → Type 0
Along P state stamp [] = Unit {0}
Along P state stamp (e ∷ entries) = P state stamp e × Along P (step state stamp e.call).state (stamp + 1) entries

-- the entry's reply is the one that one thread gets there
abbrev pub RepliesAsOne : State → ℕ → Entry → Type 0
RepliesAsOne state stamp e = (step state stamp e.call).reply ≡ e.reply

-- each entry's reply is that of one thread which makes the calls in turn
abbrev pub Replays : State → ℕ → List Entry → Type 0
Replays state stamp entries = Along RepliesAsOne state stamp entries

-- the entries are a run of one thread from the opening state to the present one
pub record IsRun (opening : State) (first : ℕ) (entries : List Entry) (present : State) : Type 0 where
  pub replays : Replays opening first entries
  pub ends : present ≡ state_after opening first (calls_of entries)
