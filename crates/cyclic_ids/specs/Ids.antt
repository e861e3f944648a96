-- The numbers of one namespace.
use Rattle.std.specs.Prelude.{◌≡◌, ◌≢◌, ℕ, ◌+◌, ◌*◌, ◌/◌, ◌%◌, ◌<◌, ◌≤◌, max, min, Bool, false, nat_eq, List, length, map, Option, Some, None, if◌then◌else◌}
use Rattle.std.specs.List.{range_with_len}
use Rattle.index_array.specs.Place.{Place, Entry, place_at, entry_at, indexes}
use Rattle.pid_types.specs.Draw.{cyclic_draw}
use Rattle.pid_types.specs.Settings.{HasGoodPidMax}

-- what stands at each number, the bound of the numbers, and where the next draw begins
pub record Ids (T : Type 0) : Type 0 where
  pub places : List (Place T)
  pub pid_max : ℕ
  pub cursor : ℕ

-- the number that is given next
abbrev pub planned : {T : Type 0} → Ids T → Option ℕ
planned ids = cyclic_draw ids.pid_max ids.cursor (indexes ids.places)

-- the numbers in use are those of processes: from 1 on, and below the bound
abbrev pub AreInRange : {T : Type 0} → ℕ → List (Place T) → Type 0
AreInRange pid_max places = (n : ℕ) → entry_at places n ≢ None → (1 ≤ n) × (n < pid_max)

-- the entry at a number: in one block of 64 that of a leaf, and elsewhere that of a tree
abbrev pub entry_beside : {T : Type 0} → ℕ → List (Place T) → List (Place T) → ℕ → Option (Entry T)
entry_beside block leaf tree n = if nat_eq (n / 64) block then entry_at leaf (n % 64) else entry_at tree n

-- the place at a number: in the leaf's block each place is prepared, or none is
abbrev pub place_beside : {T : Type 0} → Bool → ℕ → List (Place T) → List (Place T) → ℕ → Place T
place_beside ready block leaf tree n =
    if nat_eq (n / 64) block then record { prepared = ready; entry = entry_at leaf (n % 64) } else place_at tree n

-- the places of a tree, in one block of which a leaf stands
unfoldable pub places_beside : {T : Type 0} → Bool → ℕ → List (Place T) → List (Place T) → List (Place T)
places_beside ready block leaf tree =
    map (place_beside ready block leaf tree) (range_with_len 0 (max (length tree) ((block + 1) * 64)))

-- what is true of the numbers at any time: the bound is good and they are in range; the tree has none in the leaf's
-- block, and the leaf has none where the block is not prepared
pub record AreIds {T : Type 0} (pid_max : ℕ) (ready : Bool) (block : ℕ) (leaf tree : List (Place T)) : Type 0 where
  pub bound : HasGoodPidMax pid_max
  pub range : AreInRange pid_max (places_beside ready block leaf tree)
  pub low : block < 262144
  pub apart : (n : ℕ) → n / 64 ≡ block → entry_at tree n ≡ None
  pub unready : ready ≡ false → (k : ℕ) → entry_at leaf k ≡ None

-- the lesser of two numbers, of which each may be missing
abbrev pub lesser : Option ℕ → Option ℕ → Option ℕ
lesser None b = b
lesser (Some a) None = Some a
lesser (Some a) (Some b) = Some (min a b)
