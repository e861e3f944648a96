-- What holds of a host, its entries and its calls all the time.
use Rattle.std.proofs.Common.{◌≡◌, ℕ, ◌<◌, ◌≤◌, Bool, true, false, eqb, List, [], ◌∷◌, length, sym, subst, eq-eqb}
use Rattle.std.specs.Prelude.{◌⊎◌, if◌then◌else◌}
use Rattle.host_calls.specs.declared.call.CallState.{CallState}
use Rattle.host_calls.specs.declared.call.CallState.TheVariants as call
use Rattle.host_calls.specs.declared.call.HostCall.{HostCall}
use Rattle.host_calls.specs.declared.host.HostCalls.{HostCalls}
use Rattle.host_calls.specs.declared.step.Telling.{Telling}
use Rattle.host_calls.specs.declared.step.Telling.TheVariants as telling
use Rattle.host_calls.specs.Calls.{is_over}
use Rattle.host_calls.specs.Reads.{IsSealed, tells_some}
use Rattle.host_calls.specs.LogRule.{PutEntry, LogItem, part_lines, StandsAt, last_made, IsMadeAt, HasEntry, IsPut}
use Rattle.host_calls.specs.LogRule.LogItem.{Opens, Ends, Holds, Other}
use Rattle.host_calls.specs.HostWorld.{HostWorld, whole_log, with_call}
use Rattle.host_calls.proofs.Logs.{by_test, same, IsVoid}

-- no entry has a call of this state
abbrev pub is_unput : CallState → Bool
is_unput call.Queued = true
is_unput call.Entered = false
is_unput call.Answered = false
is_unput call.NotKnown = false
is_unput call.NotMade = true
is_unput call.Cancelled = true

-- The session and the number of a call, and its place, are `s`, `n` and `q`. An entry is the one that has it, at the place
pub record IsHome (s n q : ℕ) (e : PutEntry) (p : ℕ) : Type 0 where
  pub session : e.session ≡ s
  pub sequence : e.sequence ≡ n
  pub place : p ≡ q

-- it is in an entry of the session that is open, behind the number that was made last, and up to the one that was begun last
pub record IsCurrent (S M N s n : ℕ) : Type 0 where
  pub some : 0 < S
  pub session : s ≡ S
  pub unmade : M < n
  pub begun : n ≤ N

-- what is told of a session and a number is for it
abbrev pub IsMatchedBy : Telling → ℕ → ℕ → ℕ → ℕ → Type 0
IsMatchedBy telling.Nothing S N s n = ⊥
IsMatchedBy telling.Answers S N s n = (s ≡ S) × (n ≡ N)
IsMatchedBy telling.Losses S N s n = (s ≡ S) × (n ≤ N)
IsMatchedBy telling.Stops S N s n = Unit {0}

-- it is in the entry that is made up
pub record IsFilled (S N taken s n q j p : ℕ) : Type 0 where
  pub session : s ≡ S
  pub sequence : n ≡ N
  pub place : p ≡ q
  pub before : j < taken

-- the log has made an entry with the session, the number and the call
pub record IsAnswerOf (seen : List LogItem) (j s n q : ℕ) : Type 0 where
  pub at : ℕ
  pub entry : PutEntry
  pub made : IsMadeAt seen at entry
  pub session : entry.session ≡ s
  pub sequence : entry.sequence ≡ n
  pub stands : StandsAt j q entry.parts

pub record IsSoundCall (h : HostCalls) (o : ℕ) (puts : List PutEntry) (filling : List (ℕ × ℕ)) (seen : List LogItem) (j : ℕ) (c : HostCall) : Type 0 where
  pub ticket : c.ticket ≡ j
  pub opened : c.session ≤ o
  pub begun : 0 < h.session → c.session ≡ h.session → c.sequence ≤ h.sequence
  pub told : j < h.told → is_over c.state ≡ true
  pub entries : (e : PutEntry) (p : ℕ) → IsPut e puts → StandsAt j p e.parts
      → (is_unput c.state ≡ false) × (IsHome c.session c.sequence c.place e p ⊎ IsVoid e seen)
  pub filled : (p : ℕ) → h.is_filling ≡ true → StandsAt j p filling
      → (is_unput c.state ≡ false) × IsFilled h.session h.sequence h.taken c.session c.sequence c.place j p
  pub waits : c.state ≡ call.Queued → h.is_stopped ≡ false → h.taken ≤ j
  pub again : c.state ≡ call.Entered → h.taken ≤ j → (e : PutEntry) (p : ℕ) → IsPut e puts → StandsAt j p e.parts → IsVoid e seen
  pub turn : c.state ≡ call.Entered → h.is_stopped ≡ false → h.told ≤ j → j < h.taken
      → IsCurrent h.session h.made h.sequence c.session c.sequence ⊎ ((j < h.told_to) × IsMatchedBy h.telling h.told_session h.told_sequence c.session c.sequence)
  pub content : c.state ≡ call.Entered → (e : PutEntry) → IsPut e puts → e.session ≡ c.session → e.sequence ≡ c.sequence → StandsAt j c.place e.parts
  pub in_filling : c.state ≡ call.Entered → h.is_filling ≡ true → c.session ≡ h.session → c.sequence ≡ h.sequence → StandsAt j c.place filling
  pub answered : c.state ≡ call.Answered → IsAnswerOf seen j c.session c.sequence c.place

-- an entry of calls comes behind the item that has opened its session
abbrev pub AllLate : List LogItem → Type 0
AllLate [] = Unit {0}
AllLate (Holds e ∷ log) = (e.session ≤ length log) × AllLate log
AllLate (Opens ∷ log) = AllLate log
AllLate (Ends session ∷ log) = AllLate log
AllLate (Other ∷ log) = AllLate log

-- an entry with the session and the number, whose answers are told, was made
pub record IsToldOf (puts : List PutEntry) (seen : List LogItem) (S N : ℕ) : Type 0 where
  pub at : ℕ
  pub entry : PutEntry
  pub made : IsMadeAt seen at entry
  pub put : IsPut entry puts
  pub session : entry.session ≡ S
  pub sequence : entry.sequence ≡ N

-- a host that has stopped
pub record IsAtRest (h : HostCalls) : Type 0 where
  pub tells : h.telling ≡ telling.Stops
  pub not_filling : h.is_filling ≡ false
  pub not_putting : h.is_putting ≡ false
  pub all : h.taken ≡ h.submitted
  pub to : h.told_to ≡ h.submitted

pub record IsSoundHost (h : HostCalls) (filling : List (ℕ × ℕ)) : Type 0 where
  pub told : h.told ≤ h.taken
  pub taken : h.taken ≤ h.submitted
  pub none : h.session ≡ 0 → (h.is_filling ≡ false) × (h.is_putting ≡ false)
  pub sealed : IsSealed h.made h
  pub lines : h.is_filling ≡ true → part_lines filling ≡ h.lines
  pub tickets : (j p : ℕ) → h.is_filling ≡ true → StandsAt j p filling → j < h.taken
  pub stopped : h.is_stopped ≡ true → IsAtRest h
  pub stops : h.telling ≡ telling.Stops → h.is_stopped ≡ true
  pub due : tells_some h.telling ≡ true → h.told_to ≤ h.taken

pub record IsSoundLog (h : HostCalls) (o : ℕ) (puts : List PutEntry) (seen whole : List LogItem) : Type 0 where
  pub opened : h.session ≤ o
  pub there : o ≤ length whole
  pub tells : h.telling ≡ telling.Answers → IsToldOf puts seen h.told_session h.told_sequence
  pub late : AllLate whole
  pub put : (e : PutEntry) → HasEntry e whole → IsPut e puts

pub record IsSoundPut (h : HostCalls) (o : ℕ) (e : PutEntry) : Type 0 where
  pub some : 0 < e.session
  pub opened : e.session ≤ o
  pub number : e.session ≡ h.session → IsSealed e.sequence h
  pub tickets : (j p : ℕ) → StandsAt j p e.parts → j < h.submitted

-- two calls in entries, of which the first is in one that was not made
pub record IsOrdered (S M N : ℕ) (c d : HostCall) : Type 0 where
  pub current : IsCurrent S M N d.session d.sequence
  pub order : c.sequence ≤ d.sequence

abbrev pub AreInOrderOf : HostCalls → (ℕ → HostCall) → Type 0
AreInOrderOf h calls =
    h.is_stopped ≡ false → (i j : ℕ) → h.told ≤ i → i ≤ j → j < h.taken → (calls i).state ≡ call.Entered → (calls j).state ≡ call.Entered
    → IsCurrent h.session h.made h.sequence (calls i).session (calls i).sequence → IsOrdered h.session h.made h.sequence (calls i) (calls j)

-- a call of a world
abbrev pub IsSoundIn : HostWorld → ℕ → HostCall → Type 0
IsSoundIn w j c = IsSoundCall w.host w.opened w.puts w.filling w.seen j c

pub record IsSoundRest (w : HostWorld) : Type 0 where
  pub host : IsSoundHost w.host w.filling
  pub log : IsSoundLog w.host w.opened w.puts w.seen (whole_log w)
  pub puts : (e : PutEntry) → IsPut e w.puts → IsSoundPut w.host w.opened e
  pub calls : (j : ℕ) → j < w.host.submitted → IsSoundIn w j (w.calls j)
  pub order : AreInOrderOf w.host w.calls

-- the number that was made last is the log's, as far as it was read
abbrev pub IsAtLast : HostCalls → List LogItem → Type 0
IsAtLast h seen = h.is_stopped ≡ false → 0 < h.session → last_made h.session seen ≡ h.made

pub record IsSoundWorld (w : HostWorld) : Type 0 where
  pub rest : IsSoundRest w
  pub last : IsAtLast w.host w.seen

-- a call by whether it is the one that has changed
pub call_case :
    (P : HostCall → Type 0) (t j : ℕ) (c : HostCall) (calls : ℕ → HostCall) → (j ≡ t → P c) → ((j ≡ t → ⊥) → P (calls j)) → P (with_call t c calls j)
call_case P t j c calls here other =
    by_test (eqb j t)
    (λ e. subst (λ b. P (if b then c else calls j)) (sym e) (here (same j t e)))
    (λ e. subst (λ b. P (if b then c else calls j)) (sym e) (other (λ s. differ j t e s)))
  where
    differ : (j t : ℕ) → eqb j t ≡ false → j ≡ t → ⊥
    differ j t e s = let now : eqb j t ≡ true = eq-eqb j t s in cc
