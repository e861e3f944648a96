-- Many calls of one worker, made in one turn.
use Rattle.std.specs.Prelude.{◌<◌, ◌≤◌, ℕ, List, [], ◌∷◌, All, IsSome, IsTrue, length, take, slice_get}
use Rattle.pid_types.specs.declared.call.Call.{Call}
use Rattle.pid_types.specs.Step.{may_grow}
use Rattle.kept_table.specs.Chronicle.{Chronicle}
use Rattle.saved_form.specs.declared.numbers.CallNumbers.{CallNumbers}
use Rattle.saved_form.specs.declared.numbers.ReplyNumbers.{ReplyNumbers}
use Rattle.saved_form.specs.declared.numbers.EntryNumbers.{EntryNumbers}
use Rattle.foreign_numbers.specs.Numbers.{call_of}
use Rattle.foreign_calls.specs.Records.{Has, memoryless}
use Rattle.foreign_calls.specs.Replays.{ReplaysSaved, WaitsAfter}

-- the worker's call with its reply, as an entry
abbrev pub turn : ℕ → CallNumbers → ReplyNumbers → EntryNumbers
turn worker call reply = record { worker = worker; call = call; reply = reply }

-- the worker's calls, each with the reply at its place
abbrev pub turns : ℕ → List CallNumbers → List ReplyNumbers → List EntryNumbers
turns worker [] replies = []
turns worker (call ∷ calls) [] = []
turns worker (call ∷ calls) (reply ∷ replies) = turn worker call reply ∷ turns worker calls replies

-- so many of the first calls were made, one behind another and nothing between them; each was recorded, and has the reply at its place
pub record AreMade
    (c : Chronicle) (worker : ℕ) (calls : List CallNumbers) (replies : List ReplyNumbers) (made : ℕ) (d : Chronicle) : Type 0 where
  pub few : made ≤ length calls
  pub room : made ≤ length replies
  pub left : ReplaysSaved (memoryless c) (take made (turns worker calls replies)) (memoryless d)
  pub waits : WaitsAfter made c d

-- each of them says a call, and there is such a worker
pub record CanMakeAll (c : Chronicle) (worker : ℕ) (calls : List CallNumbers) : Type 0 where
  pub known : worker < length c.cut
  pub read : All (λ n. IsSome (call_of n)) calls

-- there is one at the place, and it is one that makes something
abbrev pub MayGrowAt : List CallNumbers → ℕ → Type 0
MayGrowAt calls place = Has (slice_get calls place) (λ n. Has (call_of n) (λ (call : Call). IsTrue (may_grow call)))
