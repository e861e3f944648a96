-- What a record keeps of its past, as its other parts see it.
use Rattle.std.specs.Prelude.{◌≡◌, ◌⊎◌, ◌+◌, ◌-◌, ◌≤◌, ◌||◌, ℕ, Bool, true, false, not, List, [], ◌∷◌, take, drop, length, Option, None, Some, IfSome}
use Rattle.pid_types.specs.declared.entry.Entry.{Entry}
use Rattle.pid_types.specs.Replay.{state_after, calls_of}
use Rattle.pid_types.specs.Sound.{IsSound, IsBelow}
use Rattle.pid_types.specs.State.{State}
use Rattle.pid_types.specs.Step.{step, may_grow}
use Rattle.pid_types.specs.declared.call.Call.{Call}
use Rattle.kept_past.specs.Opening.{Held}

-- how many entries that were cut away wait for their calls, and whether the first of these calls may find no memory
pub record Waiting : Type 0 where
  pub many : ℕ
  pub may_starve : Bool

abbrev pub nobody_waits : Waiting
nobody_waits = record { many = 0; may_starve = false }

-- the state that the kept entries begin in, or none where that is the present one, and whether no call can be made on what holds it; these
-- entries; the stamp of the first of them; what waits; and for how many more entries there is room
pub record Past : Type 0 where
  pub opening : Option State
  pub is_fixed : Bool
  pub entries : List Entry
  pub stamp : ℕ
  pub waits : Waiting
  pub room : ℕ

-- of the calls that waited at most so many were made; fewer only if the next one may find no memory
pub record IsCaughtUp (most : ℕ) (old new : Waiting) : Type 0 where
  pub made : (new.many ≡ old.many - most) ⊎ (new.may_starve ≡ true)
  pub none_more : new.many ≤ old.many

-- one more waits
abbrev pub one_more : Waiting → Waiting
one_more waits = record waits { many = waits.many + 1 }

-- whether a call on what is held may find no memory: for what it makes, or for the table that it needs first
abbrev pub starves_at : Held → Call → Bool
starves_at held call = held.is_new || may_grow call

-- the same of the first of some entries
abbrev pub first_starves : Option Held → List Entry → Bool
first_starves None waiting = false
first_starves (Some held) [] = false
first_starves (Some held) (e ∷ waiting) = starves_at held e.call

-- the state that is held, once the calls that wait are made on it
abbrev pub caught_up : Option Held → ℕ → List Entry → Option State
caught_up None stamp waiting = None
caught_up (Some held) stamp waiting = Some (state_after held.state stamp (calls_of waiting))

-- whether no call can be made on what is held
abbrev pub held_fixed : Option Held → Bool
held_fixed None = false
held_fixed (Some held) = held.is_fixed

-- the opening: the state that is held, or else the present one
abbrev pub opening_of : Option State → State → State
opening_of None present = present
opening_of (Some held) present = held

-- whether what is held moves on by calls, or what is to be held where nothing is
abbrev pub moves_or : Option State → Bool → Bool → Bool
moves_or None is_fixed otherwise = otherwise
moves_or (Some held) is_fixed otherwise = not is_fixed

-- the past by what is held of it: the first entries of the ring wait, and the first of all has the stamp
abbrev pub past_of : Option Held → List Entry → ℕ → ℕ → ℕ → Past
past_of held ring lag stamp room = record {
  opening = caught_up held stamp (take lag ring);
  is_fixed = held_fixed held;
  entries = drop lag ring;
  stamp = stamp + lag;
  waits = record { many = lag; may_starve = first_starves held (take lag ring) };
  room = room;
}

-- the first kept entry was cut away, and its call leads to the new opening
pub record IsCutOnce (worker : ℕ) (old new : Past) : Type 0 where
  pub opening : State
  pub was : old.opening ≡ Some opening
  pub first : Entry
  pub were : old.entries ≡ first ∷ new.entries
  pub by : worker ≡ first.worker
  pub left : new ≡ record old {
    opening = Some (step opening old.stamp first.call).state;
    entries = new.entries;
    stamp = old.stamp + 1;
    waits = new.waits;
    room = new.room;
  }

-- calls can be made on what is held from the stamp on
pub record GoesOn (held : Held) (stamp : ℕ) : Type 0 where
  pub sound : IsSound held.state
  pub below : IsBelow stamp held.state

-- what the type keeps
pub record IsPast (held : Option Held) (ring : List Entry) (lag stamp : ℕ) : Type 0 where
  pub within : lag ≤ length ring
  pub bare : held ≡ None → ring ≡ []
  pub goes_on : IfSome held (λ h. GoesOn h stamp)
  -- no call is made on a snapshot, so none waits for it
  pub fixed : held_fixed held ≡ true → lag ≡ 0
