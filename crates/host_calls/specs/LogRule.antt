-- A log, its newest item first, and what it makes of the entries of one host.
use Rattle.std.specs.Prelude.{◌≡◌, ◌⊎◌, ℕ, ◌+◌, ◌==◌, ◌&&◌, ◌||◌, not, nat_le, List, [], ◌∷◌, Bool, true, false, length, if◌then◌else◌}
use Rattle.host_calls.specs.declared.step.LogOutcome.{LogOutcome}
use Rattle.host_calls.specs.declared.step.LogOutcome.TheVariants.{Made, Repeated, Gone, Gap}

-- an entry of this host: its session and its number, and its calls, the last one first: the ticket of each, and its lines
pub record PutEntry : Type 0 where
  pub session : ℕ
  pub sequence : ℕ
  pub parts : List (ℕ × ℕ)

pub data LogItem : Type 0 where
  -- a session begins, whose number is the position of this item
  Opens : LogItem
  -- a session ends, by its host, or for one more
  Ends : (session : ℕ) → LogItem
  -- an entry of this host
  Holds : (entry : PutEntry) → LogItem
  -- calls of another host in its own session, or what makes no call
  Other : LogItem

-- so many lines
abbrev pub part_lines : List (ℕ × ℕ) → ℕ
part_lines [] = 0
part_lines (part ∷ parts) = part.1 + part_lines parts

-- the call with the ticket is among the parts, and so many lines stand before it
abbrev pub StandsAt : ℕ → ℕ → List (ℕ × ℕ) → Type 0
StandsAt ticket place [] = ⊥
StandsAt ticket place (part ∷ parts) = ((ticket ≡ part.0) × (place ≡ part_lines parts)) ⊎ StandsAt ticket place parts

-- the session is open behind all these items
abbrev pub is_open_in : ℕ → List LogItem → Bool
is_open_in session [] = false
is_open_in session (Opens ∷ log) = (session == length log + 1) || is_open_in session log
is_open_in session (Ends ended ∷ log) = not (session == ended) && is_open_in session log
is_open_in session (Holds entry ∷ log) = is_open_in session log
is_open_in session (Other ∷ log) = is_open_in session log

-- the number of its last entry that was made. The next one that is made has one more
abbrev pub last_made : ℕ → List LogItem → ℕ
last_made session [] = 0
last_made session (Opens ∷ log) = last_made session log
last_made session (Ends ended ∷ log) = last_made session log
last_made session (Other ∷ log) = last_made session log
last_made session (Holds entry ∷ log) =
    if (session == entry.session) && (is_open_in session log && (entry.sequence == last_made session log + 1))
    then last_made session log + 1 else last_made session log

-- an entry that comes next is made
abbrev pub is_next_in : PutEntry → List LogItem → Bool
is_next_in e log = is_open_in e.session log && (e.sequence == last_made e.session log + 1)

-- what the log makes of it
abbrev pub outcome_in : PutEntry → List LogItem → LogOutcome
outcome_in e log =
    if is_open_in e.session log
    then (if nat_le e.sequence (last_made e.session log) then Repeated
    else if e.sequence == last_made e.session log + 1 then Made else Gap)
    else Gone

-- the entry that stands at a place of the log was made there; a place is how many items are before it
abbrev pub IsMadeAt : List LogItem → ℕ → PutEntry → Type 0
IsMadeAt [] place e = ⊥
IsMadeAt (item ∷ log) place e =
    ((place ≡ length log) × (item ≡ Holds e) × (is_next_in e log ≡ true)) ⊎ IsMadeAt log place e

-- the log has the entry
abbrev pub HasEntry : PutEntry → List LogItem → Type 0
HasEntry e [] = ⊥
HasEntry e (item ∷ log) = (item ≡ Holds e) ⊎ HasEntry e log

-- the entry was put
abbrev pub IsPut : PutEntry → List PutEntry → Type 0
IsPut e [] = ⊥
IsPut e (put ∷ puts) = (e ≡ put) ⊎ IsPut e puts
