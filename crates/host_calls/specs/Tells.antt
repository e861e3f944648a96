-- What the calls are told, one after the other.
use Rattle.std.specs.Prelude.{◌≡◌, ◌+◌, ◌^◌, ◌<◌, ◌≤◌, true, false}
use Rattle.host_calls.specs.declared.call.HostCall.{HostCall}
use Rattle.host_calls.specs.declared.call.CallState.{CallState}
use Rattle.host_calls.specs.declared.call.CallState.TheVariants as call
use Rattle.host_calls.specs.declared.host.HostCalls.{HostCalls}
use Rattle.host_calls.specs.declared.step.Telling.{Telling}
use Rattle.host_calls.specs.declared.step.Telling.TheVariants as telling
use Rattle.host_calls.specs.declared.step.Told.{Told}
use Rattle.host_calls.specs.declared.step.Told.TheVariants.{Refused, Passes, Answers, Loses, Drops, Ends}
use Rattle.host_calls.specs.Calls.{is_over, is_queued}
use Rattle.host_calls.specs.Reads.{is_telling}

-- the call is the one that is told next
pub record IsNextTold (h : HostCalls) (c : HostCall) : Type 0 where
  pub telling : is_telling h ≡ true
  pub number : h.told + 1 < 2 ^ 64
  pub ticket : c.ticket ≡ h.told

-- what is told is for this call: an answer for those of the entry alone, a loss for those of the session up to the number
pub record IsInSession (h : HostCalls) (c : HostCall) : Type 0 where
  pub entered : is_queued c.state ≡ false
  pub session : c.session ≡ h.told_session

abbrev pub IsDueBy : Telling → HostCalls → HostCall → Type 0
IsDueBy telling.Nothing h c = ⊥
IsDueBy telling.Answers h c = IsInSession h c × (c.sequence ≡ h.told_sequence)
IsDueBy telling.Losses h c = IsInSession h c × (c.sequence ≤ h.told_sequence)
IsDueBy telling.Stops h c = Unit {0}

abbrev pub IsDue : HostCalls → HostCall → Type 0
IsDue h c = IsDueBy h.telling h c

-- what a call is told for which it is
abbrev pub words_for : Telling → CallState → Told
words_for telling.Nothing s = Ends
words_for telling.Answers s = Answers
words_for telling.Losses s = Loses
words_for telling.Stops call.Queued = Drops
words_for telling.Stops call.Entered = Loses
words_for telling.Stops call.Answered = Loses
words_for telling.Stops call.NotKnown = Loses
words_for telling.Stops call.NotMade = Loses
words_for telling.Stops call.Cancelled = Loses

-- the call is told this
pub record IsGiven (h : HostCalls) (c : HostCall) (what : Told) : Type 0 where
  pub next : IsNextTold h c
  pub live : is_over c.state ≡ false
  pub due : IsDue h c
  pub words : what ≡ words_for h.telling c.state

-- when a call is told what: what is over is passed, and what is told ends before the first call for which it is not
abbrev pub MayTell : HostCalls → HostCall → Told → Type 0
MayTell h c Refused = IsNextTold h c → ⊥
MayTell h c Passes = IsNextTold h c × (is_over c.state ≡ true)
MayTell h c Ends = IsNextTold h c × (is_over c.state ≡ false) × (IsDue h c → ⊥)
MayTell h c Answers = IsGiven h c Answers
MayTell h c Loses = IsGiven h c Loses
MayTell h c Drops = IsGiven h c Drops

abbrev pub told_as : Told → HostCalls → HostCalls
told_as Refused h = h
told_as Ends h = record h { telling = telling.Nothing }
told_as Passes h = record h { told = h.told + 1 }
told_as Answers h = record h { told = h.told + 1 }
told_as Loses h = record h { told = h.told + 1 }
told_as Drops h = record h { told = h.told + 1 }

abbrev pub told_call : Told → HostCall → HostCall
told_call Answers c = record c { state = call.Answered }
told_call Loses c = record c { state = call.NotKnown }
told_call Drops c = record c { state = call.NotMade }
told_call Refused c = c
told_call Passes c = c
told_call Ends c = c

-- the host puts nothing more, and each call that is left is told
abbrev pub stopped_of : HostCalls → HostCalls
stopped_of h = record h {
  is_stopped = true;
  is_filling = false;
  is_full = false;
  is_putting = false;
  taken = h.submitted;
  told_to = h.submitted;
  telling = telling.Stops;
}
