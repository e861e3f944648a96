-- What follows from what was read in the log.
use Rattle.std.specs.Prelude.{◌≡◌, ℕ, ◌+◌, ◌<◌, ◌≤◌, ◌==◌, ◌&&◌, Bool, true, false, nat_lt, MatchBool, if◌then◌else◌}
use Rattle.host_calls.specs.declared.host.HostCalls.{HostCalls}
use Rattle.host_calls.specs.declared.step.LogOutcome.{LogOutcome}
use Rattle.host_calls.specs.declared.step.LogOutcome.TheVariants.{Made, Repeated, Gone, Gap}
use Rattle.host_calls.specs.declared.step.Reading.{Reading}
use Rattle.host_calls.specs.declared.step.Reading.TheVariants.{Busy, Ignores, Tells, Renews, Misses}
use Rattle.host_calls.specs.declared.step.Telling.{Telling}
use Rattle.host_calls.specs.declared.step.Telling.TheVariants as telling

abbrev pub tells_some : Telling → Bool
tells_some telling.Nothing = false
tells_some telling.Answers = true
tells_some telling.Losses = true
tells_some telling.Stops = true

-- a call is to be told before the log is read on
abbrev pub is_telling : HostCalls → Bool
is_telling h = tells_some h.telling && nat_lt h.told h.told_to

-- the session is the one of this host
pub record IsOwnSession (session : ℕ) (h : HostCalls) : Type 0 where
  pub goes : h.is_stopped ≡ false
  pub some : 0 < session
  pub own : session ≡ h.session

-- an entry with the number was sealed
abbrev pub IsSealed : ℕ → HostCalls → Type 0
IsSealed sequence h = MatchBool h.is_filling (sequence < h.sequence) (sequence ≤ h.sequence)

-- the entry is the next of this host that the log makes
pub record IsNextMade (session sequence : ℕ) (h : HostCalls) : Type 0 where
  pub own : IsOwnSession session h
  pub next : sequence ≡ h.made + 1
  pub sealed : IsSealed sequence h

-- the outcome says nothing to this host
abbrev pub SaysNothing : LogOutcome → ℕ → ℕ → HostCalls → Type 0
SaysNothing Made session sequence h = IsNextMade session sequence h → ⊥
SaysNothing Repeated session sequence h = Unit {0}
SaysNothing Gone session sequence h = IsOwnSession session h → ⊥
SaysNothing Gap session sequence h = IsOwnSession session h → ⊥

-- what is made of an entry: the answers of this host's are told, and a session of this host's that is gone is given up
abbrev pub IsReading : LogOutcome → ℕ → ℕ → HostCalls → Reading → Type 0
IsReading outcome session sequence h Busy = is_telling h ≡ true
IsReading outcome session sequence h Tells = (is_telling h ≡ false) × (outcome ≡ Made) × IsNextMade session sequence h
IsReading outcome session sequence h Renews = (is_telling h ≡ false) × (outcome ≡ Gone) × IsOwnSession session h
IsReading outcome session sequence h Misses = (is_telling h ≡ false) × (outcome ≡ Gap) × IsOwnSession session h
IsReading outcome session sequence h Ignores = (is_telling h ≡ false) × SaysNothing outcome session sequence h

-- an entry that the log has made, or that a snapshot has, is not put any more
abbrev pub still_putting : ℕ → HostCalls → Bool
still_putting sequence h = if sequence == h.sequence then false else h.is_putting

abbrev pub told_answers : ℕ → ℕ → HostCalls → HostCalls
told_answers session sequence h = record h {
  made = sequence;
  telling = telling.Answers;
  told_session = session;
  told_sequence = sequence;
  told_to = h.taken;
  is_putting = still_putting sequence h;
}

-- the session is given up, and what it has not made waits again
abbrev pub renewed : HostCalls → HostCalls
renewed h = record h {
  session = 0;
  sequence = 0;
  made = 0;
  taken = h.told;
  is_filling = false;
  is_full = false;
  is_putting = false;
}

abbrev pub read_as : Reading → ℕ → ℕ → HostCalls → HostCalls
read_as Busy session sequence h = h
read_as Ignores session sequence h = h
read_as Tells session sequence h = told_answers session sequence h
read_as Renews session sequence h = renewed h
read_as Misses session sequence h = h

-- the snapshot of all up to the position has this host's session, or should have it
pub record IsOfOwn (position : ℕ) (h : HostCalls) : Type 0 where
  pub own : IsOwnSession h.session h
  pub there : h.session ≤ position

-- what is made of a snapshot, in which the session is open, with its last number that was made, or not open
abbrev pub IsLoading : ℕ → Bool → ℕ → HostCalls → Reading → Type 0
IsLoading position found last h Busy = is_telling h ≡ true
IsLoading position found last h Ignores =
    (is_telling h ≡ false) × (IsOfOwn position h → (found ≡ true) × (last ≤ h.made))
IsLoading position found last h Misses =
    (is_telling h ≡ false) × IsOfOwn position h × (found ≡ true) × (h.made < last) × (IsSealed last h → ⊥)
IsLoading position found last h Tells =
    (is_telling h ≡ false) × IsOfOwn position h × (found ≡ true → (h.made < last) × IsSealed last h)
IsLoading position found last h Renews = ⊥

abbrev pub lost_to : ℕ → HostCalls → HostCalls
lost_to last h = record h {
  made = last;
  telling = telling.Losses;
  told_session = h.session;
  told_sequence = last;
  told_to = h.taken;
  is_putting = still_putting last h;
}

abbrev pub lost_session : HostCalls → HostCalls
lost_session h = record h {
  telling = telling.Losses;
  told_session = h.session;
  told_sequence = h.sequence;
  told_to = h.taken;
  session = 0;
  sequence = 0;
  made = 0;
  is_filling = false;
  is_full = false;
  is_putting = false;
}

abbrev pub loaded_as : Reading → Bool → ℕ → HostCalls → HostCalls
loaded_as Tells true last h = lost_to last h
loaded_as Tells false last h = lost_session h
loaded_as Busy found last h = h
loaded_as Ignores found last h = h
loaded_as Renews found last h = h
loaded_as Misses found last h = h
