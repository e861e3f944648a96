-- What is put: the calls are taken in their order into entries, each of which is put until the log has it.
use Rattle.std.specs.Prelude.{◌≡◌, ◌⊎◌, ℕ, ◌+◌, ◌^◌, ◌<◌, ◌≤◌, true, false}
use Rattle.host_calls.specs.declared.host.TheConstants.{MOST_BYTES}
use Rattle.host_calls.specs.declared.call.HostCall.{HostCall}
use Rattle.host_calls.specs.declared.call.CallState.TheVariants as call
use Rattle.host_calls.specs.declared.host.HostCalls.{HostCalls}
use Rattle.host_calls.specs.declared.step.PutStep.{PutStep}
use Rattle.host_calls.specs.declared.step.PutStep.TheVariants.{Rest, Open, Take, Seal, Put}
use Rattle.host_calls.specs.declared.step.Taken.{Taken}
use Rattle.host_calls.specs.declared.step.Taken.TheVariants.{Refused, Passes, Begins, Joins, Fills}
use Rattle.host_calls.specs.declared.step.Telling.TheVariants as telling
use Rattle.host_calls.specs.Calls.{is_over}

-- a host without calls
abbrev pub begun_host : HostCalls
begun_host =
    record {
      submitted = 0;
      taken = 0;
      told = 0;
      session = 0;
      sequence = 0;
      made = 0;
      lines = 0;
      size = 0;
      told_session = 0;
      told_sequence = 0;
      told_to = 0;
      telling = telling.Nothing;
      is_filling = false;
      is_full = false;
      is_putting = false;
      is_stopped = false;
    }

-- a call of so many lines is submitted
pub record MaySubmit (lines : ℕ) (h : HostCalls) : Type 0 where
  pub goes : h.is_stopped ≡ false
  pub some : 0 < lines
  pub number : h.submitted + 1 < 2 ^ 64

abbrev pub submitted_to : HostCalls → HostCalls
submitted_to h = record h { submitted = h.submitted + 1 }

-- it gets the next ticket, and waits
abbrev pub submitted_as : ℕ → ℕ → ℕ → HostCalls → HostCall
submitted_as lines size deadline h =
    record {
      ticket = h.submitted;
      lines = lines;
      size = size;
      deadline = deadline;
      session = 0;
      sequence = 0;
      place = 0;
      state = call.Queued;
    }

-- some calls wait for their turn
pub record HasWaiting (h : HostCalls) : Type 0 where
  pub goes : h.is_stopped ≡ false
  pub not_putting : h.is_putting ≡ false
  pub waits : h.taken < h.submitted

-- the step is what is to be put next
abbrev pub IsNextPut : HostCalls → PutStep → Type 0
IsNextPut h (Put session sequence) = (h.is_stopped ≡ false) × (h.is_putting ≡ true) × (session ≡ h.session) × (sequence ≡ h.sequence)
IsNextPut h Seal =
    (h.is_stopped ≡ false) × (h.is_putting ≡ false) × (h.is_filling ≡ true) × ((h.is_full ≡ true) ⊎ (h.submitted ≤ h.taken))
IsNextPut h Open = HasWaiting h × ((h.is_filling ≡ true) → h.is_full ≡ false) × (h.session ≡ 0)
IsNextPut h (Take ticket) = HasWaiting h × ((h.is_filling ≡ true) → h.is_full ≡ false) × (0 < h.session) × (ticket ≡ h.taken)
IsNextPut h Rest = (h.is_stopped ≡ true) ⊎ ((h.is_putting ≡ false) × (h.is_filling ≡ false) × (h.submitted ≤ h.taken))

-- a session was opened for which none was open
pub record MayOpen (session : ℕ) (h : HostCalls) : Type 0 where
  pub goes : h.is_stopped ≡ false
  pub none : h.session ≡ 0
  pub some : 0 < session

abbrev pub opened_as : ℕ → HostCalls → HostCalls
opened_as session h = record h { session = session; sequence = 0; made = 0 }

-- the call has its turn: a session is open, and no entry is put or full
pub record IsNextCall (h : HostCalls) (c : HostCall) : Type 0 where
  pub goes : h.is_stopped ≡ false
  pub not_putting : h.is_putting ≡ false
  pub not_full : h.is_full ≡ false
  pub session : 0 < h.session
  pub number : h.sequence + 1 < 2 ^ 64
  pub waits : h.taken < h.submitted
  pub ticket : c.ticket ≡ h.taken

-- it fits into the entry that is made up
pub record FitsIn (h : HostCalls) (c : HostCall) : Type 0 where
  pub bytes : h.size + c.size ≤ MOST_BYTES
  pub lines : h.lines + c.lines < 2 ^ 64

-- it has its turn, and is not over
pub record IsNextLive (h : HostCalls) (c : HostCall) : Type 0 where
  pub next : IsNextCall h c
  pub live : is_over c.state ≡ false

-- when a call is taken: what is over is passed, and what does not fit begins the next entry
abbrev pub MayTake : HostCalls → HostCall → Taken → Type 0
MayTake h c Refused = IsNextCall h c → ⊥
MayTake h c Passes = IsNextCall h c × (is_over c.state ≡ true)
MayTake h c Begins = IsNextLive h c × (h.is_filling ≡ false)
MayTake h c Joins = IsNextLive h c × (h.is_filling ≡ true) × FitsIn h c
MayTake h c Fills = IsNextLive h c × (h.is_filling ≡ true) × (FitsIn h c → ⊥)

abbrev pub took_in : Taken → HostCalls → HostCall → HostCalls
took_in Refused h c = h
took_in Passes h c = record h { taken = h.taken + 1 }
took_in Begins h c = record h { taken = h.taken + 1; sequence = h.sequence + 1; is_filling = true; lines = c.lines; size = c.size }
took_in Joins h c = record h { taken = h.taken + 1; lines = h.lines + c.lines; size = h.size + c.size }
took_in Fills h c = record h { is_full = true }

-- the call has its session, its number and its place from then on
abbrev pub took_call : Taken → HostCalls → HostCall → HostCall
took_call Begins h c = record c { state = call.Entered; session = h.session; sequence = h.sequence + 1; place = 0 }
took_call Joins h c = record c { state = call.Entered; session = h.session; sequence = h.sequence; place = h.lines }
took_call Refused h c = c
took_call Passes h c = c
took_call Fills h c = c

-- the entry that is made up is put from now on
pub record MaySeal (h : HostCalls) : Type 0 where
  pub goes : h.is_stopped ≡ false
  pub some : h.is_filling ≡ true

abbrev pub sealed_of : HostCalls → HostCalls
sealed_of h = record h { is_filling = false; is_full = false; is_putting = true }

-- this entry is put
pub record IsPutting (session sequence : ℕ) (h : HostCalls) : Type 0 where
  pub putting : h.is_putting ≡ true
  pub own : session ≡ h.session
  pub last : sequence ≡ h.sequence

-- the log has it
abbrev pub acknowledged : HostCalls → HostCalls
acknowledged h = record h { is_putting = false }
