-- The entries of a history, as they are kept.
use Rattle.std.specs.Prelude.{ℕ, ◌+◌, ◌-◌, ◌^◌, ◌<◌, ◌≤◌, ⊤, List, [], ◌∷◌, take, map, ◌≡◌, Option, Result, IfOk, MatchOption, slice_index_or}
use Rattle.pid_types.specs.declared.entry.Entry.{Entry}
use Rattle.pid_types.specs.declared.reply.Reply.{Reply}
use Rattle.pid_types.specs.Short.{list_reply, reply_of}
use Rattle.kept_past.specs.declared.ring.Slot.{Slot}
use Rattle.kept_past.specs.declared.ring.SlotReply.{SlotReply}
use Rattle.kept_past.specs.declared.ring.SlotReply.TheVariants.{Short, Few, Many}
use Rattle.pid_types.specs.declared.reply.ShortReply.{ShortReply}

-- the entries in their order, and for how many more there is room
pub record Stored : Type 0 where
  pub entries : List Entry
  pub room : ℕ

-- the rooms of the lists of many numbers, which are beside the slots
abbrev pub Lists : Type 0
Lists = List (List ℕ)

-- the room of the list at a place, where the first list is at this one
abbrev pub list_at : Lists → ℕ → ℕ → List ℕ
list_at lists first place = slice_index_or lists (place - first) []

-- the reply: all of it is in the slot, but for a list of many numbers, which are the first ones of their room
abbrev pub kept_reply : Lists → ℕ → SlotReply → Reply
kept_reply lists first (Short short) = reply_of short
kept_reply lists first (Few numbers) = list_reply numbers
kept_reply lists first (Many place count) = list_reply (take count (list_at lists first place))

-- the replies of the entries
abbrev pub replies_of : List Entry → List Reply
replies_of entries = map (λ (e : Entry). e.reply) entries

-- the entry in a slot
abbrev pub entry_in : Lists → ℕ → Slot → Entry
entry_in lists first slot = record { worker = slot.worker; call = slot.call; reply = kept_reply lists first slot.reply }

abbrev pub entries_in : Lists → ℕ → List Slot → List Entry
entries_in lists first slots = map (entry_in lists first) slots

-- a list of many numbers is at the place that is next
abbrev pub IsListedNext : ℕ → SlotReply → Type 0
IsListedNext next (Many place count) = place ≡ next
IsListedNext next _ = ⊤

-- the place that is next behind it
abbrev pub behind : ℕ → SlotReply → ℕ
behind next (Many place count) = next + 1
behind next _ = next

-- the lists are at the places from the next one to the end, in the order of their slots
abbrev pub ListsAreInOrder : ℕ → ℕ → List Slot → Type 0
ListsAreInOrder next end [] = next ≡ end
ListsAreInOrder next end (slot ∷ slots) = IsListedNext next slot.reply × ListsAreInOrder (behind next slot.reply) end slots

-- there is room for so many more lists, and their places are numbers
pub record HasRoomFor (room capacity lists dropped : ℕ) : Type 0 where
  pub lists_fit : lists + room ≤ capacity
  pub places_fit : dropped + lists + room < 2 ^ 64

-- a list of many numbers is at a place from the first one to the end
abbrev pub IsListedWithin : ℕ → ℕ → SlotReply → Type 0
IsListedWithin first end (Many place count) = (first ≤ place) × (place < end)
IsListedWithin first end _ = ⊤

-- the reply is a list of numbers
abbrev pub IsList : Reply → Type 0
IsList reply = (numbers : List ℕ) × (reply ≡ list_reply numbers)

-- what is told of a reply: all of it, and nothing of a list
abbrev pub IsToldOf : Reply → Option ShortReply → Type 0
IsToldOf reply told = MatchOption told (IsList reply) (λ short. reply_of short ≡ reply)

-- a call that was made tells its reply, unless that is a list
abbrev pub TellsIfShort : {E : Type 0} → Result (Option ShortReply) E → Reply → Type 0
TellsIfShort result reply = IfOk result (IsToldOf reply)
