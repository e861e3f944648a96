-- What the machine says, as numbers, for C.
use Rattle.std.specs.Prelude.{◌≡◌, ℕ, ◌==◌, Bool, if◌then◌else◌}
use Rattle.host_calls.specs.declared.call.CallState.{CallState}
use Rattle.host_calls.specs.declared.call.CallState.TheVariants as call
use Rattle.host_calls.specs.declared.call.HostCall.{HostCall}
use Rattle.host_calls.specs.declared.host.HostCalls.{HostCalls}
use Rattle.host_calls.specs.declared.numbers.PutNumbers.{PutNumbers}
use Rattle.host_calls.specs.declared.numbers.CallNumbers.{CallNumbers}
use Rattle.host_calls.specs.declared.numbers.HostNumbers.{HostNumbers}
use Rattle.host_calls.specs.declared.numbers.TheConstants.{REST, OPEN, TAKE, SEAL, PUT, MADE, GONE, GAP, QUEUED, ENTERED, ANSWERED, NOT_KNOWN, NOT_MADE, CANCELLED, NOTHING, ANSWERS, LOSSES, STOPS}
use Rattle.host_calls.specs.declared.step.PutStep.{PutStep}
use Rattle.host_calls.specs.declared.step.PutStep.TheVariants.{Rest, Open, Take, Seal, Put}
use Rattle.host_calls.specs.declared.step.Taken.{Taken}
use Rattle.host_calls.specs.declared.step.Taken.TheVariants as taken
use Rattle.host_calls.specs.declared.step.LogOutcome.{LogOutcome}
use Rattle.host_calls.specs.declared.step.LogOutcome.TheVariants as outcome
use Rattle.host_calls.specs.declared.step.Telling.{Telling}
use Rattle.host_calls.specs.declared.step.Telling.TheVariants as telling
use Rattle.host_calls.specs.declared.step.Reading.{Reading}
use Rattle.host_calls.specs.declared.step.Reading.TheVariants as reading
use Rattle.host_calls.specs.declared.step.Told.{Told}
use Rattle.host_calls.specs.declared.step.Told.TheVariants as told
use Rattle.host_calls.specs.Calls.{given_up}
use Rattle.host_calls.specs.Puts.{submitted_to, submitted_as, IsNextPut, MayTake, took_in, took_call}
use Rattle.host_calls.specs.Reads.{IsReading, read_as, IsLoading, loaded_as}
use Rattle.host_calls.specs.Tells.{MayTell, told_as, told_call}

-- the step, with its ticket, or its session and its number
abbrev pub put_numbers : PutStep → PutNumbers
put_numbers Rest = record { kind = REST; first = 0; second = 0 }
put_numbers Open = record { kind = OPEN; first = 0; second = 0 }
put_numbers (Take ticket) = record { kind = TAKE; first = ticket; second = 0 }
put_numbers Seal = record { kind = SEAL; first = 0; second = 0 }
put_numbers (Put session sequence) = record { kind = PUT; first = session; second = sequence }

abbrev pub taken_number : Taken → ℕ
taken_number taken.Refused = 0
taken_number taken.Passes = 1
taken_number taken.Begins = 2
taken_number taken.Joins = 3
taken_number taken.Fills = 4

abbrev pub reading_number : Reading → ℕ
reading_number reading.Busy = 0
reading_number reading.Ignores = 1
reading_number reading.Tells = 2
reading_number reading.Renews = 3
reading_number reading.Misses = 4

abbrev pub told_number : Told → ℕ
told_number told.Refused = 0
told_number told.Passes = 1
told_number told.Answers = 2
told_number told.Loses = 3
told_number told.Drops = 4
told_number told.Ends = 5

-- what a number says that the log has made of an entry; any other says nothing, as a repeat does
abbrev pub outcome_for : ℕ → LogOutcome
outcome_for number =
    if number == MADE then outcome.Made else if number == GONE then outcome.Gone else if number == GAP then outcome.Gap
    else outcome.Repeated

-- the state of a call; any other number is that of a call that is over
abbrev pub state_number : CallState → ℕ
state_number call.Queued = QUEUED
state_number call.Entered = ENTERED
state_number call.Answered = ANSWERED
state_number call.NotKnown = NOT_KNOWN
state_number call.NotMade = NOT_MADE
state_number call.Cancelled = CANCELLED

abbrev pub state_for : ℕ → CallState
state_for number =
    if number == QUEUED then call.Queued else if number == ENTERED then call.Entered else if number == ANSWERED then call.Answered
    else if number == NOT_KNOWN then call.NotKnown else if number == NOT_MADE then call.NotMade else call.Cancelled

abbrev pub numbers_of_call : HostCall → CallNumbers
numbers_of_call c =
    record {
      ticket = c.ticket;
      lines = c.lines;
      size = c.size;
      deadline = c.deadline;
      session = c.session;
      sequence = c.sequence;
      place = c.place;
      state = state_number c.state;
    }

abbrev pub call_for : CallNumbers → HostCall
call_for n =
    record {
      ticket = n.ticket;
      lines = n.lines;
      size = n.size;
      deadline = n.deadline;
      session = n.session;
      sequence = n.sequence;
      place = n.place;
      state = state_for n.state;
    }

-- what is told; any other number is that of nothing
abbrev pub telling_number : Telling → ℕ
telling_number telling.Nothing = NOTHING
telling_number telling.Answers = ANSWERS
telling_number telling.Losses = LOSSES
telling_number telling.Stops = STOPS

abbrev pub telling_for : ℕ → Telling
telling_for number =
    if number == ANSWERS then telling.Answers else if number == LOSSES then telling.Losses else if number == STOPS then telling.Stops
    else telling.Nothing

abbrev pub numbers_of_host : HostCalls → HostNumbers
numbers_of_host h =
    record {
      submitted = h.submitted;
      taken = h.taken;
      told = h.told;
      session = h.session;
      sequence = h.sequence;
      made = h.made;
      lines = h.lines;
      size = h.size;
      told_session = h.told_session;
      told_sequence = h.told_sequence;
      told_to = h.told_to;
      telling = telling_number h.telling;
      is_filling = h.is_filling;
      is_full = h.is_full;
      is_putting = h.is_putting;
      is_stopped = h.is_stopped;
    }

abbrev pub host_for : HostNumbers → HostCalls
host_for n =
    record {
      submitted = n.submitted;
      taken = n.taken;
      told = n.told;
      session = n.session;
      sequence = n.sequence;
      made = n.made;
      lines = n.lines;
      size = n.size;
      told_session = n.told_session;
      told_sequence = n.told_sequence;
      told_to = n.told_to;
      telling = telling_for n.telling;
      is_filling = n.is_filling;
      is_full = n.is_full;
      is_putting = n.is_putting;
      is_stopped = n.is_stopped;
    }

-- the numbers of a host are its own, and those of a call
abbrev pub NumbersTellHosts : Type 0
NumbersTellHosts = (h : HostCalls) → host_for (numbers_of_host h) ≡ h

abbrev pub NumbersTellCalls : Type 0
NumbersTellCalls = (c : HostCall) → call_for (numbers_of_call c) ≡ c

-- the numbers are those of what is to be put next
abbrev pub AreNextPut : HostNumbers → PutNumbers → Type 0
AreNextPut n numbers = (step : PutStep) × IsNextPut (host_for n) step × (numbers ≡ put_numbers step)

-- the host is the one that the numbers told, or what has become of it
abbrev pub GoesTo : HostNumbers → HostNumbers → (HostCalls → HostCalls) → Type 0
GoesTo old new becomes = new ≡ numbers_of_host (becomes (host_for old))

abbrev pub StaysAs : HostNumbers → HostNumbers → Type 0
StaysAs old new = new ≡ numbers_of_host (host_for old)

-- a call is submitted; one is given up, or cancelled
abbrev pub SubmitsAs : ℕ → ℕ → ℕ → HostNumbers → HostNumbers → CallNumbers → Type 0
SubmitsAs lines size deadline old new call =
    GoesTo old new submitted_to × (call ≡ numbers_of_call (submitted_as lines size deadline (host_for old)))

abbrev pub GivesUpAs : CallNumbers → CallNumbers → Type 0
GivesUpAs old new = new ≡ numbers_of_call (given_up (call_for old))

-- the call was taken, with this number
abbrev pub TakesAs : HostNumbers → CallNumbers → HostNumbers → CallNumbers → ℕ → Type 0
TakesAs n c new new_call number =
    (what : Taken) × MayTake (host_for n) (call_for c) what × (number ≡ taken_number what)
    × (new ≡ numbers_of_host (took_in what (host_for n) (call_for c)))
    × (new_call ≡ numbers_of_call (took_call what (host_for n) (call_for c)))

-- an entry was read, or a snapshot loaded
abbrev pub ReadsAs : LogOutcome → ℕ → ℕ → HostNumbers → HostNumbers → ℕ → Type 0
ReadsAs outcome session sequence n new number =
    (what : Reading) × IsReading outcome session sequence (host_for n) what × (number ≡ reading_number what)
    × GoesTo n new (read_as what session sequence)

abbrev pub LoadsAs : ℕ → Bool → ℕ → HostNumbers → HostNumbers → ℕ → Type 0
LoadsAs position found last n new number =
    (what : Reading) × IsLoading position found last (host_for n) what × (number ≡ reading_number what)
    × GoesTo n new (loaded_as what found last)

-- the call was told
abbrev pub TellsAs : HostNumbers → CallNumbers → HostNumbers → CallNumbers → ℕ → Type 0
TellsAs n c new new_call number =
    (what : Told) × MayTell (host_for n) (call_for c) what × (number ≡ told_number what)
    × GoesTo n new (told_as what) × (new_call ≡ numbers_of_call (told_call what (call_for c)))
