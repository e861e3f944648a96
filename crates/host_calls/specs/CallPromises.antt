-- What holds whenever, after whatever has come since a host began.
use Rattle.std.specs.Prelude.{◌≡◌, ◌⊎◌, ℕ, ◌<◌, ◌≤◌, List, [], true, false}
use Rattle.host_calls.specs.declared.call.HostCall.{HostCall}
use Rattle.host_calls.specs.declared.call.CallState.TheVariants.{Answered}
use Rattle.host_calls.specs.Calls.{is_over, is_unmade}
use Rattle.host_calls.specs.declared.step.PutStep.TheVariants.{Rest}
use Rattle.host_calls.specs.Puts.{IsNextPut}
use Rattle.host_calls.specs.Reads.{is_telling}
use Rattle.host_calls.specs.LogRule.{PutEntry, LogItem, StandsAt, IsMadeAt, HasEntry, IsPut}
use Rattle.host_calls.specs.HostWorld.{HostWorld, CallEvent, begun_world, whole_log, AllMayCome, comes_to}

-- a host has begun, these may come, and come to this
pub record IsComeBy (w : HostWorld) : Type 0 where
  pub calls : ℕ → HostCall
  pub log : List LogItem
  pub nobody : (e : PutEntry) → HasEntry e log → ⊥
  pub events : List CallEvent
  pub may_come : AllMayCome (begun_world calls log) events
  pub now : w ≡ comes_to (begun_world calls log) events

-- The log makes a call once at most: if it makes it at two places, they are one, and it stands there once. However often it was put, and
-- wherever the host is.
abbrev pub IsMadeOnce : HostWorld → Type 0
IsMadeOnce w =
    (ticket at here there further : ℕ) (e other : PutEntry)
    → IsMadeAt (whole_log w) here e → StandsAt ticket at e.parts → IsMadeAt (whole_log w) there other → StandsAt ticket further other.parts
    → (here ≡ there) × (at ≡ further)

-- an answer is the log's: of an entry that it has made, with the session and the number of the call, in which the call stands at its place
abbrev pub AnswersAreTheLogs : HostWorld → Type 0
AnswersAreTheLogs w =
    (ticket : ℕ) → ticket < w.host.submitted → (w.calls ticket).state ≡ Answered
    → (place : ℕ) × (e : PutEntry) × IsMadeAt w.seen place e
    × (e.session ≡ (w.calls ticket).session) × (e.sequence ≡ (w.calls ticket).sequence) × StandsAt ticket (w.calls ticket).place e.parts

-- what was cancelled, or told not to be made, is in no entry that was ever put
abbrev pub PutsNoneThatIsUnmade : HostWorld → Type 0
PutsNoneThatIsUnmade w =
    (ticket at : ℕ) (e : PutEntry) → ticket < w.host.submitted → is_unmade (w.calls ticket).state ≡ true → IsPut e w.puts
    → StandsAt ticket at e.parts → ⊥

-- a call is told once: from then on it stays as it is, whatever comes
abbrev pub TellsOnce : HostWorld → Type 0
TellsOnce w =
    (ticket : ℕ) (events : List CallEvent) → ticket < w.host.submitted → is_over (w.calls ticket).state ≡ true → AllMayCome w events
    → (comes_to w events).calls ticket ≡ w.calls ticket

-- where the log was read on past an entry that it has made, each call of the entry was told
abbrev pub TellsWhatWasRead : HostWorld → Type 0
TellsWhatWasRead w =
    is_telling w.host ≡ false → (ticket at place : ℕ) (e : PutEntry) → IsMadeAt w.seen place e → StandsAt ticket at e.parts
    → is_over (w.calls ticket).state ≡ true

-- a call that is not over waits for its turn, or is in the entry that is made up or put now
abbrev pub IsHeldBy : HostWorld → ℕ → Type 0
IsHeldBy w ticket =
    (w.host.taken ≤ ticket)
    ⊎ (((w.host.is_filling ≡ true) ⊎ (w.host.is_putting ≡ true))
    × ((w.calls ticket).session ≡ w.host.session) × ((w.calls ticket).sequence ≡ w.host.sequence))

-- or the log has its entry, and the host has not read it
abbrev pub IsComing : HostWorld → ℕ → Type 0
IsComing w ticket = (e : PutEntry) × HasEntry e w.ahead × StandsAt ticket (w.calls ticket).place e.parts

-- none is lost
abbrev pub LosesNone : HostWorld → Type 0
LosesNone w =
    is_telling w.host ≡ false → (ticket : ℕ) → ticket < w.host.submitted → is_over (w.calls ticket).state ≡ false
    → IsHeldBy w ticket ⊎ IsComing w ticket

-- and so, where nothing is to be put, and the log was read to its end, each call is answered, or its caller knows that it has no answer
abbrev pub TellsAllInTheEnd : HostWorld → Type 0
TellsAllInTheEnd w =
    is_telling w.host ≡ false → IsNextPut w.host Rest → w.ahead ≡ [] → (ticket : ℕ) → ticket < w.host.submitted
    → is_over (w.calls ticket).state ≡ true

-- a run in which a call is answered: the promises are of something
abbrev pub SomeCallIsAnswered : Type 0
SomeCallIsAnswered = (w : HostWorld) × IsComeBy w × (0 < w.host.submitted) × ((w.calls 0).state ≡ Answered)
