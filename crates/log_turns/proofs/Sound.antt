-- What holds of each world that can be come to: in four parts, each of which names what it speaks of.
use Rattle.std.proofs.Common.{◌≡◌, ℕ, ◌+◌, ◌<◌, ◌≤◌, Bool, true, false, List, length, Option, Some, None}
use Rattle.std.specs.Prelude.{◌⊎◌}
use Rattle.log_turns.specs.Disk.{LogFile, numbers, read_to, BeginsOne, AreInOrder}
use Rattle.log_turns.specs.World.{World, calls_to, EndUpTo}
use Rattle.log_turns.proofs.Reading.{AreLasting, IsBelow}

-- the log that is written: from s, synced to y, written to w; the calls end at e
pub record IsSoundLog (s y w e : ℕ) (t c u : Bool) (log : LogFile) : Type 0 where
  pub first : log.first ≡ s
  pub in_order : log.bytes ≡ numbers s (length log.bytes)
  pub from : s ≤ y
  pub synced : y ≤ w
  pub written : w ≤ s + length log.bytes
  pub taken : s + length log.bytes ≤ e
  pub whole : t ≡ false → s + length log.bytes ≡ w
  pub sure : y ≤ s + log.sure
  pub there : log.sure ≤ length log.bytes
  pub closed_synced : c ≡ true → y ≡ w
  pub closed_all : c ≡ true → w ≡ e
  pub turning : u ≡ true → s < e

-- what is before it
pub record IsSoundPast (s : ℕ) (n h : Bool) (text now : ℕ) (logs : List LogFile) : Type 0 where
  pub older : read_to text logs ≡ Some s
  pub lasting : AreLasting logs
  pub in_order : AreInOrder logs
  pub below : IsBelow s logs
  pub snapshot : text ≤ s
  pub has_snapshot : h ≡ true → text ≡ s
  pub named : n ≡ true → s ≡ now
  pub current : (s ≡ now) ⊎ BeginsOne now logs

-- a log that was begun at a place, and is not the one that is written
pub record IsAside (u t : Bool) (y w place : ℕ) : Type 0 where
  pub undoing : u ≡ true
  pub whole : t ≡ false
  pub behind : place ≡ w
  pub lasting : y ≡ w

abbrev pub IsSoundBegun : Bool → Bool → ℕ → ℕ → Option ℕ → Type 0
IsSoundBegun undoing torn synced written None = Unit {0}
IsSoundBegun undoing torn synced written (Some at) = IsAside undoing torn synced written at

-- the calls: so many were taken, and so many are answered
pub record IsSoundCalls (o : Bool) (n a y w e : ℕ) (places : List ℕ) : Type 0 where
  pub ends : EndUpTo e places
  pub taken : n ≡ length places
  pub answered : a ≤ calls_to w places
  pub always : o ≡ true → a ≤ calls_to y places

abbrev pub LogOf : World → Type 0
LogOf w = IsSoundLog w.turns.start w.turns.synced w.turns.written w.turns.end w.turns.is_torn w.turns.is_closed w.turns.is_turning w.disk.log

abbrev pub PastOf : World → Type 0
PastOf w = IsSoundPast w.turns.start w.turns.is_named w.turns.has_snapshot w.disk.snapshot w.disk.current w.disk.older

abbrev pub BegunOf : World → Type 0
BegunOf w = IsSoundBegun w.turns.is_undoing w.turns.is_torn w.turns.synced w.turns.written w.disk.begun

abbrev pub CallsOf : World → Type 0
CallsOf w = IsSoundCalls w.turns.is_always w.turns.taken w.turns.answered w.turns.synced w.turns.written w.turns.end w.ends

pub record IsSound (w : World) : Type 0 where
  pub log : LogOf w
  pub past : PastOf w
  pub begun : BegunOf w
  pub calls : CallsOf w
