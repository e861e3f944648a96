-- A host, its calls and the log, and what may come.
use Rattle.std.specs.Prelude.{◌≡◌, ℕ, ◌<◌, ◌≤◌, ◌==◌, List, [], ◌∷◌, ◌++◌, true, false, length, if◌then◌else◌}
use Rattle.host_calls.specs.declared.call.HostCall.{HostCall}
use Rattle.host_calls.specs.declared.host.HostCalls.{HostCalls}
use Rattle.host_calls.specs.declared.step.Taken.{Taken}
use Rattle.host_calls.specs.declared.step.Taken.TheVariants as taken
use Rattle.host_calls.specs.declared.step.Reading.{Reading}
use Rattle.host_calls.specs.declared.step.Told.{Told}
use Rattle.host_calls.specs.Calls.{cancelled, given_up}
use Rattle.host_calls.specs.Puts.{begun_host, MaySubmit, submitted_to, submitted_as, MayOpen, opened_as, MayTake, took_in, took_call, MaySeal, sealed_of, acknowledged}
use Rattle.host_calls.specs.Reads.{is_telling, IsReading, read_as, IsLoading, loaded_as}
use Rattle.host_calls.specs.Tells.{MayTell, told_as, told_call, stopped_of}
use Rattle.host_calls.specs.LogRule.{PutEntry, LogItem, is_open_in, last_made, outcome_in, HasEntry, IsPut}
use Rattle.host_calls.specs.LogRule.LogItem.{Opens, Ends, Holds, Other}

pub record HostWorld : Type 0 where
  pub host : HostCalls
  -- the calls, by their tickets
  pub calls : ℕ → HostCall
  -- the parts of the entry that is made up, the last one first
  pub filling : List (ℕ × ℕ)
  -- the entries that were put
  pub puts : List PutEntry
  -- the log: what the host has not read, and what it has; each with the newest item first
  pub ahead : List LogItem
  pub seen : List LogItem
  -- the last session that the log has opened for this host
  pub opened : ℕ

-- the whole log
abbrev pub whole_log : HostWorld → List LogItem
whole_log w = w.ahead ++ w.seen

-- a host that begins, in a log that it has read so far
abbrev pub begun_world : (ℕ → HostCall) → List LogItem → HostWorld
begun_world calls log = record { host = begun_host; calls = calls; filling = []; puts = []; ahead = []; seen = log; opened = 0 }

-- one call is another one
abbrev pub with_call : ℕ → HostCall → (ℕ → HostCall) → ℕ → HostCall
with_call ticket c calls = λ it. if it == ticket then c else calls it

-- the entry that is made up has one call more
abbrev pub filled_with : Taken → ℕ → HostCall → List (ℕ × ℕ) → List (ℕ × ℕ)
filled_with taken.Begins ticket c parts = (ticket, c.lines) ∷ []
filled_with taken.Joins ticket c parts = (ticket, c.lines) ∷ parts
filled_with taken.Refused ticket c parts = parts
filled_with taken.Passes ticket c parts = parts
filled_with taken.Fills ticket c parts = parts

-- the entry as it is sealed
abbrev pub sealed_entry : HostWorld → PutEntry
sealed_entry w = record { session = w.host.session; sequence = w.host.sequence; parts = w.filling }

pub data CallEvent : Type 0 where
  -- a call is submitted; has its turn; is cancelled; is given up, as where it is late; is told what its turn is to be told
  Submits : (lines size deadline : ℕ) → CallEvent
  Takes : (what : Taken) → CallEvent
  Cancels : (ticket : ℕ) → CallEvent
  Gives_up : (ticket : ℕ) → CallEvent
  Tells : (what : Told) → CallEvent
  -- the entry that is made up is sealed, and from then on it is put
  Seals : CallEvent
  -- an entry that was put comes into the log: late, and so often as the log likes
  Lands : (entry : PutEntry) → CallEvent
  -- something else comes
  Comes : (item : LogItem) → CallEvent
  -- the log answers that a session is open; that it has the entry that is put
  Answers_open : (session : ℕ) → CallEvent
  Answers_put : CallEvent
  -- the host reads the next item of the log: an entry of its own, or something else
  Reads : (rest : List LogItem) → (entry : PutEntry) → (what : Reading) → CallEvent
  Passes : (rest : List LogItem) → (item : LogItem) → CallEvent
  -- it reads an entry that it has read before, as where it begins anew
  Reads_again : (newer : List LogItem) → (entry : PutEntry) → (older : List LogItem) → (what : Reading) → CallEvent
  -- it loads a snapshot of so much more of the log; or one of so much less
  Loads : (rest more : List LogItem) → (what : Reading) → CallEvent
  Loads_again : (newer older : List LogItem) → (what : Reading) → CallEvent
  Stops : CallEvent

-- an item is none of this host's entries
abbrev pub IsOthers : LogItem → Type 0
IsOthers Opens = Unit {0}
IsOthers (Ends session) = Unit {0}
IsOthers (Holds entry) = ⊥
IsOthers Other = Unit {0}

-- the log has an entry of the session with the number
abbrev pub HasEntryNumbered : ℕ → ℕ → List LogItem → Type 0
HasEntryNumbered session sequence log =
    (e : PutEntry) × HasEntry e log × (e.session ≡ session) × (e.sequence ≡ sequence)

-- what a snapshot of these items says to the host
abbrev pub IsLoadingOf : List LogItem → HostCalls → Reading → Type 0
IsLoadingOf log h what = IsLoading (length log) (is_open_in h.session log) (last_made h.session log) h what

-- When each may come. Of the log: it opens a session for this host behind all that it has opened for it before, and answers that it has
-- what it has.
abbrev pub MayCome : HostWorld → CallEvent → Type 0
MayCome w (Submits lines size deadline) = MaySubmit lines w.host
MayCome w (Takes what) = MayTake w.host (w.calls w.host.taken) what
MayCome w (Cancels ticket) = ticket < w.host.submitted
MayCome w (Gives_up ticket) = ticket < w.host.submitted
MayCome w (Tells what) = MayTell w.host (w.calls w.host.told) what
MayCome w Seals = MaySeal w.host
MayCome w (Lands entry) = IsPut entry w.puts
MayCome w (Comes item) = IsOthers item
MayCome w (Answers_open session) = MayOpen session w.host × (w.opened < session) × (session ≤ length (whole_log w))
MayCome w Answers_put = (w.host.is_putting ≡ true) × HasEntryNumbered w.host.session w.host.sequence (whole_log w)
MayCome w (Reads rest entry what) =
    (w.ahead ≡ rest ++ Holds entry ∷ []) × (is_telling w.host ≡ false)
    × IsReading (outcome_in entry w.seen) entry.session entry.sequence w.host what
MayCome w (Passes rest item) = (w.ahead ≡ rest ++ item ∷ []) × IsOthers item
MayCome w (Reads_again newer entry older what) =
    (w.seen ≡ newer ++ Holds entry ∷ older) × (is_telling w.host ≡ false)
    × IsReading (outcome_in entry older) entry.session entry.sequence w.host what
MayCome w (Loads rest more what) =
    (w.ahead ≡ rest ++ more) × (is_telling w.host ≡ false) × IsLoadingOf (more ++ w.seen) w.host what
MayCome w (Loads_again newer older what) =
    (w.seen ≡ newer ++ older) × (is_telling w.host ≡ false) × IsLoadingOf older w.host what
MayCome w Stops = Unit {0}

-- the host loads a snapshot of these items
abbrev pub loaded_of : List LogItem → HostCalls → Reading → HostCalls
loaded_of log h what = loaded_as what (is_open_in h.session log) (last_made h.session log) h

abbrev pub comes : HostWorld → CallEvent → HostWorld
comes w (Submits lines size deadline) =
    record w { host = submitted_to w.host; calls = with_call w.host.submitted (submitted_as lines size deadline w.host) w.calls }
comes w (Takes what) =
    record w {
      host = took_in what w.host (w.calls w.host.taken);
      calls = with_call w.host.taken (took_call what w.host (w.calls w.host.taken)) w.calls;
      filling = filled_with what w.host.taken (w.calls w.host.taken) w.filling;
    }
comes w (Cancels ticket) = record w { calls = with_call ticket (cancelled (w.calls ticket)) w.calls }
comes w (Gives_up ticket) = record w { calls = with_call ticket (given_up (w.calls ticket)) w.calls }
comes w (Tells what) =
    record w { host = told_as what w.host; calls = with_call w.host.told (told_call what (w.calls w.host.told)) w.calls }
comes w Seals = record w { host = sealed_of w.host; puts = sealed_entry w ∷ w.puts }
comes w (Lands entry) = record w { ahead = Holds entry ∷ w.ahead }
comes w (Comes item) = record w { ahead = item ∷ w.ahead }
comes w (Answers_open session) = record w { host = opened_as session w.host; opened = session }
comes w Answers_put = record w { host = acknowledged w.host }
comes w (Reads rest entry what) =
    record w { host = read_as what entry.session entry.sequence w.host; ahead = rest; seen = Holds entry ∷ w.seen }
comes w (Passes rest item) = record w { ahead = rest; seen = item ∷ w.seen }
comes w (Reads_again newer entry older what) = record w { host = read_as what entry.session entry.sequence w.host }
comes w (Loads rest more what) = record w { host = loaded_of (more ++ w.seen) w.host what; ahead = rest; seen = more ++ w.seen }
comes w (Loads_again newer older what) = record w { host = loaded_of older w.host what }
comes w Stops = record w { host = stopped_of w.host }

-- each of these may come, one after the other
abbrev pub AllMayCome : HostWorld → List CallEvent → Type 0
AllMayCome w [] = Unit {0}
AllMayCome w (e ∷ es) = MayCome w e × AllMayCome (comes w e) es

-- what comes of it
abbrev pub comes_to : HostWorld → List CallEvent → HostWorld
comes_to w [] = w
comes_to w (e ∷ es) = comes_to (comes w e) es
