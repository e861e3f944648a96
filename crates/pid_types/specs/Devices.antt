-- What is done with devices: reads and writes, one after another.
use Rattle.std.specs.Prelude.{ℕ, ◌≡◌, ◌<◌, Bool, true, false, ⊤, List, [], ◌∷◌, take, filter, flat_map, Option, Some, None, option_map, Result}
use Rattle.std.specs.Result.{result_ok}
use Rattle.std.specs.Io.KnownBytes.{Appends, Consumes}

-- a read that asked for so many bytes, and what it gave; or a write of these bytes, and how many of them it took. Where the
-- device failed it gave and took none
pub data Event : Type 0 where
  Reading : ℕ → Option (List ℕ) → Event
  Writing : List ℕ → Option ℕ → Event

-- a read or a write, with its result and the buffer that it leaves or was given
abbrev pub reading : {E : Type 0} → ℕ → Result ℕ E → List ℕ → Event
reading asked result buffer = Reading asked (option_map (λ n. take n buffer) (result_ok result))

abbrev pub writing : {E : Type 0} → Result ℕ E → List ℕ → Event
writing result buffer = Writing buffer (result_ok result)

-- the bytes that were read
abbrev pub heard_by : Event → List ℕ
heard_by (Reading asked None) = []
heard_by (Reading asked (Some bytes)) = bytes
heard_by (Writing offered taken) = []

abbrev pub heard : List Event → List ℕ
heard events = flat_map heard_by events

-- the bytes that were written
abbrev pub said_by : Event → List ℕ
said_by (Reading asked given) = []
said_by (Writing offered None) = []
said_by (Writing offered (Some n)) = take n offered

abbrev pub said : List Event → List ℕ
said events = flat_map said_by events

abbrev pub is_reading : Event → Bool
is_reading (Reading asked given) = true
is_reading (Writing offered taken) = false

abbrev pub is_writing : Event → Bool
is_writing (Reading asked given) = false
is_writing (Writing offered taken) = true

-- the reads alone, and the writes alone
abbrev pub readings : List Event → List Event
readings events = filter is_reading events

abbrev pub writings : List Event → List Event
writings events = filter is_writing events

-- a source did the reads among the events, and a sink the writes
abbrev pub DidBoth : (List Event → Type 0) → (List Event → Type 0) → List Event → Type 0
DidBoth read written events = read (readings events) × written (writings events)

-- the device did its part: a read gave bytes or the end, and a write took some
abbrev pub IsWell : Event → Type 0
IsWell (Reading asked None) = ⊥
IsWell (Reading asked (Some bytes)) = ⊤
IsWell (Writing offered None) = ⊥
IsWell (Writing offered (Some n)) = 0 < n

abbrev pub AreWell : List Event → Type 0
AreWell [] = ⊤
AreWell (e ∷ es) = IsWell e × AreWell es

-- what a source says of events: the bytes that were read are left no more, where nothing was done it has the same bytes left, and it
-- fails where a read does
pub record Took (from to : Option (List ℕ)) (failed failed' : Bool) (events : List Event) : Type 0 where
  pub consumed : Consumes from to (heard events)
  pub still : events ≡ [] → to ≡ from
  pub kept : AreWell events → failed' ≡ failed

-- what a sink says of events: the bytes that were written stand at its end, and it fails or is full where a write finds it so
pub record Gave (before after : Option (List ℕ)) (failed failed' full full' : Bool) (events : List Event) : Type 0 where
  pub appended : Appends before after (said events)
  pub kept : AreWell events → (failed' ≡ failed) × (full' ≡ full)
