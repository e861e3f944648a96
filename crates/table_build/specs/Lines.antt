-- Which tasks are those of a text's lines, and which rows they have.
use Rattle.std.specs.Prelude.{◌≡◌, ◌≢◌, ℕ, ◌≤◌, ◌^◌, length, Bool, false, List, nat_lt, Option, Some, option_map, slice_get, if◌then◌else◌}
use Rattle.pid_types.specs.declared.plain.Row.{Row}
use Rattle.pid_numbers.specs.Restore.{is_flagged}
use Rattle.task_table.specs.Store.{Store}
use Rattle.task_table.specs.View.{row_with}
use Rattle.table_build.specs.declared.placed.Placed.{Placed}
use Rattle.table_build.specs.Recent.{Bears}

-- whether the key is a placeholder's
abbrev pub is_held : Placed → ℕ → Bool
is_held p k = is_flagged p.placeholders.items k

-- there is no more than one flag for each key
abbrev pub HasFew : Placed → Type 0
HasFew p = length p.placeholders.items ≤ 2 ^ 32

abbrev pub KeepsFew : Placed → Placed → Type 0
KeepsFew before after = HasFew before → HasFew after

-- the lists are the same, but for placeholders
pub record KeepsLists (before after : Placed) : Type 0 where
  pub few : KeepsFew before after
  pub keys : after.keys ≡ before.keys
  pub groups : after.groups ≡ before.groups

-- the task with the key has the row, and is no placeholder
pub record IsRowAt (s : Store) (p : Placed) (key : ℕ) (row : Row) : Type 0 where
  pub shown : row_with s key ≡ Some row
  pub real : is_held p key ≡ false

-- the tasks that are no placeholders are the same, with the same rows
pub record SameLines (old new : Store) (before after : Placed) : Type 0 where
  pub forth : (k : ℕ) (r : Row) → IsRowAt old before k r → IsRowAt new after k r
  pub back : (k : ℕ) (r : Row) → IsRowAt new after k r → IsRowAt old before k r

-- the same, but for the one with the key, which has another row
pub record SetsLine (old new : Store) (before after : Placed) (key : ℕ) (row : Row) : Type 0 where
  pub here : IsRowAt new after key row
  pub forth : (k : ℕ) (r : Row) → k ≢ key → IsRowAt old before k r → IsRowAt new after k r
  pub back : (k : ℕ) (r : Row) → k ≢ key → IsRowAt new after k r → IsRowAt old before k r

-- the tasks of the lines are in the order of their keys, and have these rows
pub record AreLines (s : Store) (p : Placed) (shown : ℕ → Option Row) : Type 0 where
  pub each : (j k : ℕ) → slice_get p.keys.items j ≡ Some k → (r : Row) × (shown j ≡ Some r) × IsRowAt s p k r
  pub all : (k : ℕ) (r : Row) → IsRowAt s p k r → (j : ℕ) × (slice_get p.keys.items j ≡ Some k)
  pub apart : (i j k : ℕ) → slice_get p.keys.items i ≡ Some k → slice_get p.keys.items j ≡ Some k → i ≡ j

-- the names of the groups of the first lines are borne
abbrev pub AreGroups : Store → Placed → List Row → Type 0
AreGroups s p rows = (j g : ℕ) → slice_get p.groups.items j ≡ Some g → (r : Row) × (slice_get rows j ≡ Some r) × Bears s g r.group

-- the rows of the lines, of which so many have come one step further
abbrev pub stage : (Row → Row) → (Row → Row) → List Row → ℕ → ℕ → Option Row
stage done todo rows count j = option_map (if nat_lt j count then done else todo) (slice_get rows j)
