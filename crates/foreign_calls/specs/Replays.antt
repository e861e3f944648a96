-- Saved entries, whose calls are made again.
use Rattle.std.specs.Prelude.{◌≡◌, ◌≢◌, ◌<◌, ◌≤◌, ◌⊎◌, ℕ, List, [], ◌∷◌, length, take, slice_get, Some, None, IsTrue}
use Rattle.pid_types.specs.declared.call.Call.{Call}
use Rattle.pid_types.specs.Step.{may_grow}
use Rattle.kept_table.specs.Calls.{after_recorded, outcome, FewerWait}
use Rattle.kept_table.specs.Chronicle.{Chronicle}
use Rattle.saved_form.specs.declared.numbers.ReplyNumbers.{ReplyNumbers}
use Rattle.saved_form.specs.declared.numbers.EntryNumbers.{EntryNumbers}
use Rattle.foreign_numbers.specs.Numbers.{call_of, numbers_of}
use Rattle.foreign_calls.specs.Records.{Has, memoryless}

-- the saved entry's call was made for its worker and recorded, once; the reply is this one
pub record IsMadeAgain (c : Chronicle) (saved : EntryNumbers) (reply : ReplyNumbers) (d : Chronicle) : Type 0 where
  pub call : Call
  pub read : call_of saved.call ≡ Some call
  pub known : saved.worker < length c.cut
  pub left : d ≡ after_recorded c saved.worker call
  pub answer : reply ≡ numbers_of (outcome c call).reply

-- the reply is the saved one
abbrev pub IsSameAgain : Chronicle → EntryNumbers → Chronicle → Type 0
IsSameAgain c saved d = IsMadeAgain c saved saved.reply d

-- the reply is another one
abbrev pub IsOtherNow : Chronicle → EntryNumbers → Chronicle → Type 0
IsOtherNow c saved d = (reply : ReplyNumbers) × IsMadeAgain c saved reply d × (reply ≢ saved.reply)

-- the calls of the saved entries, made one after another, had the saved replies, and leave this
abbrev pub ReplaysSaved : Chronicle → List EntryNumbers → Chronicle → Type 0
ReplaysSaved c [] d = d ≡ c
ReplaysSaved c (saved ∷ rest) d = (m : Chronicle) × IsSameAgain c saved m × ReplaysSaved m rest d

-- so many calls were made one after another, and with each some of the cut calls that wait for the opening
pub record WaitsAfter (made : ℕ) (c d : Chronicle) : Type 0 where
  pub none_more : d.memory.waits.many ≤ c.memory.waits.many
  pub fewer : 0 < made → FewerWait c.memory.waits d.memory.waits

-- the numbers say no call, or there is no such worker
abbrev pub CannotMake : Chronicle → EntryNumbers → Type 0
CannotMake c saved = (call_of saved.call ≡ None) ⊎ (length c.cut ≤ saved.worker)

-- the entry's call may need memory for what it makes
abbrev pub MayNeedMemory : EntryNumbers → Type 0
MayNeedMemory saved = Has (call_of saved.call) (λ made. IsTrue (may_grow made))

-- those before the place had the saved replies, and nothing else was made
abbrev pub StopsBefore : Chronicle → List EntryNumbers → ℕ → Chronicle → Type 0
StopsBefore c saved place d = (place < length saved) × ReplaysSaved (memoryless c) (take place saved) (memoryless d)

-- so had they, and the one at the place was made, had another reply, and is the last one made
abbrev pub StopsAt : Chronicle → List EntryNumbers → ℕ → Chronicle → Type 0
StopsAt c saved place d =
    (m : Chronicle) × ReplaysSaved (memoryless c) (take place saved) m
    × Has (slice_get saved place) (λ n. IsOtherNow m n (memoryless d))
