-- Going over the children of a task, the members of a process group or of a session, or the tasks of a namespace, by their numbers.
use Rattle.std.specs.Prelude.{◌≡◌, ◌↔◌, ◌⊎◌, ◌<◌, ◌≤◌, ◌+◌, ℕ, Bool, false, ◌==◌, nat_lt, [], ◌++◌, List, length, take, drop, map, filter, filter_map, Option, Some, None, if◌then◌else◌, option_map}
use Rattle.std.specs.Option.{option_map_or}
use Rattle.pid_types.specs.declared.call.Kind.{Kind}
use Rattle.pid_types.specs.declared.call.Kind.TheVariants.{Task, Group, Session}
use Rattle.pid_types.specs.declared.plain.Name.{Name}
use Rattle.pid_types.specs.declared.plain.Row.{Row}
use Rattle.pid_types.specs.declared.reply.Reply.{Reply}
use Rattle.pid_types.specs.declared.reply.Reply.TheVariants.{Counted, Refused}
use Rattle.pid_types.specs.declared.reply.Refusal.TheVariants.{NoCaller}
use Rattle.pid_types.specs.Membership.{IsIn}
use Rattle.pid_types.specs.Names.{number, is_numbered, same_name, live_row}
use Rattle.pid_types.specs.Queries.{name_by, self_or_task}
use Rattle.pid_types.specs.Sight.{Glimpse, sight, glimpse_at, number_by, self_or_glimpse}
use Rattle.pid_types.specs.Sound.{IsRising}
use Rattle.pid_types.specs.State.{State}
use Rattle.model_laws.specs.SightLaws.{IsLiveCaller}
use Rattle.translate.specs.declared.page.Page.{Page}
use Rattle.translate.specs.declared.page.Whom.{Whom}
use Rattle.translate.specs.declared.page.Whom.TheVariants.{Belonging, Namespace}
use Rattle.translate.specs.Members.{visible_numbers, members_seen}

-- what the task belongs to, as the kind says: its parent, its process group or its session
abbrev pub belongs_to : Kind → Row → Option Name
belongs_to Task row = row.parent
belongs_to Group row = Some row.group
belongs_to Session row = Some row.session

-- whether the caller means it by the number: by 0 itself, its own group or its own session, and else what has the number in its namespace
abbrev pub is_meant : State → Row → Kind → ℕ → Name → Bool
is_meant state caller kind n name =
    if n == 0 then same_name name (name_by kind caller) else is_numbered state.spaces name caller.name.space n

-- whether the task belongs to that
abbrev pub belongs : State → Row → Kind → ℕ → Row → Bool
belongs state caller kind n row = option_map_or (is_meant state caller kind n) (belongs_to kind row) false

-- the numbers that such tasks have in the caller's namespace, those that are visible there
abbrev pub numbers_belonging : State → Row → Kind → ℕ → List ℕ
numbers_belonging state caller kind n =
    filter_map (λ row. number state.spaces row.name caller.name.space) (filter (belongs state caller kind n) state.rows)

-- the numbers that are asked for: of who belongs to what is meant, or of the tasks of the namespace that the task with the number is in
abbrev pub numbers_asked : State → Row → Whom → ℕ → List ℕ
numbers_asked state caller (Belonging kind) n = numbers_belonging state caller kind n
numbers_asked state caller (Namespace reach) n =
    option_map_or (λ task. visible_numbers state reach task.name.space caller.name.space) (self_or_task state caller n) []

-- the list has the numbers from the given one on, each once, in rising order
pub record AreListedFrom (numbers : List ℕ) (from : ℕ) (listed : List ℕ) : Type 0 where
  pub rising : IsRising listed
  pub each : (m : ℕ) → IsIn m listed ↔ ((from ≤ m) × IsIn m numbers)

-- the list has the least of the numbers from the given one on, at most so many, each once, in rising order: where one is left out, the list
-- has so many, all of them below it
pub record AreLeastFrom (numbers : List ℕ) (from most : ℕ) (listed : List ℕ) : Type 0 where
  pub rising : IsRising listed
  pub few : length listed ≤ most
  pub each : (m : ℕ) → IsIn m listed → (from ≤ m) × IsIn m numbers
  pub others : (m : ℕ) → from ≤ m → IsIn m numbers → IsIn m listed ⊎ ((length listed ≡ most) × ((k : ℕ) → IsIn k listed → k < m))

-- the list is the page's for the caller; or nobody calls, and there is none
pub record ListsPage (state : State) (page : Page) (told : Option (List ℕ)) : Type 0 where
  pub nobody : live_row state.rows page.caller ≡ None → told ≡ None
  pub listed : (caller : Row) → live_row state.rows page.caller ≡ Some caller → (listed : List ℕ)
      × AreListedFrom (numbers_asked state caller page.whom page.number) page.from listed × (told ≡ Some listed)

-- the room, with as much of the list at its front as it takes
abbrev pub with_front : {X : Type 0} → List X → List X → List X
with_front listed room = take (length room) listed ++ drop (length listed) room

-- the list for the caller, of at most one more than the room takes, is in the room as far as it takes it, and its length is told; or else
-- that nobody calls
pub record TellsPage (state : State) (page : Page) (old new : List ℕ) (reply : Reply) : Type 0 where
  pub nobody : live_row state.rows page.caller ≡ None → (reply ≡ Refused NoCaller) × (new ≡ old)
  pub listed : (caller : Row) → live_row state.rows page.caller ≡ Some caller → (listed : List ℕ)
      × AreLeastFrom (numbers_asked state caller page.whom page.number) page.from (length old + 1) listed
      × (reply ≡ Counted (length listed)) × (new ≡ with_front listed old)

-- the number that is seen of what the task belongs to
abbrev pub owner_seen : Kind → Glimpse → ℕ
owner_seen Task g = g.parent
owner_seen Group g = g.group
owner_seen Session g = g.session

-- the numbers of the tasks that are seen to belong to what has the number
abbrev pub numbers_seen : List Glimpse → Kind → ℕ → List ℕ
numbers_seen sight kind n = filter (nat_lt 0) (map (number_by Task) (filter (λ g. owner_seen kind g == n) sight))

-- the number that is meant, as the caller with the number `own` sees it: 0 for a group or a session of its own that it does not see
abbrev pub number_meant : List Glimpse → ℕ → Kind → ℕ → ℕ
number_meant sight own kind n = if n == 0 then option_map_or (number_by kind) (glimpse_at sight own) 0 else n

-- the numbers that are asked for, as the caller sees them
abbrev pub numbers_seen_by : List Glimpse → ℕ → Whom → ℕ → List ℕ
numbers_seen_by sight own (Belonging kind) n = numbers_seen sight kind (number_meant sight own kind n)
numbers_seen_by sight own (Namespace reach) n = members_seen reach sight

-- the caller sees what is meant: it has a number; or it is the caller's own namespace, in which a task has no number further inside
abbrev pub IsInSight : List Glimpse → ℕ → Whom → ℕ → Type 0
IsInSight sight own (Belonging kind) n = 0 < number_meant sight own kind n
IsInSight sight own (Namespace reach) n = option_map (λ g. length g.numbers) (self_or_glimpse sight own n) ≡ Some 1

-- a live caller has the list that is read off what its namespace sees and its own number there, and nothing else, if it sees what is meant
abbrev pub TellsSeenPage : State → Page → List ℕ → List ℕ → Reply → Type 0
TellsSeenPage state page old new reply =
    (caller : Row) (own : ℕ) → IsLiveCaller state page.caller caller own
    → IsInSight (sight state caller.name.space) own page.whom page.number
    → (listed : List ℕ)
    × AreLeastFrom (numbers_seen_by (sight state caller.name.space) own page.whom page.number) page.from (length old + 1) listed
    × (reply ≡ Counted (length listed)) × (new ≡ with_front listed old)
