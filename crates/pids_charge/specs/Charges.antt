-- What a contract sees of `Controls`: the control groups of the model, and at each key where its tasks are and how many they are.
use Rattle.std.specs.Prelude.{◌≡◌, ℕ, ◌+◌, ◌-◌, ◌==◌, Bool, true, false, ◌||◌, nat_lt, List, map, Option, Some, None, option_map, option_and_then, is_some, if◌then◌else◌, find, slice_index_or, ◌≢◌}
use Rattle.std.specs.Option.{option_map_or, option_eq}
use Rattle.std.specs.List.{sum_by, list_any, AllByRecursion}
use Rattle.member_lists.specs.Owners.{times}
use Rattle.pid_types.specs.declared.plain.Control.{Control}
use Rattle.pid_types.specs.declared.reply.Refusal.{Refusal}
use Rattle.pid_types.specs.declared.reply.Refusal.TheVariants.{PidsLimit, RootControl, ControlBusy, BadLimit}
use Rattle.pid_types.specs.Bounds.{greatest_limit}
use Rattle.pid_types.specs.Controls.{control_at, parent_control, control_path, is_below}

-- where the tasks of a key are. A key stands as long as its control group was not removed, and its zombies are then in the nearest
-- group above that stands
pub record Home : Type 0 where
  -- the id of the control group that its tasks are in
  pub id : ℕ
  -- whether the key is that group's own
  pub stands : Bool
  pub live : ℕ
  pub zombies : ℕ

-- the control groups by their ids, as the model has them, and the keys
pub record Charges : Type 0 where
  pub controls : List Control
  pub homes : List (Option Home)

-- what is at a key
abbrev pub home_at : Charges → ℕ → Option Home
home_at v k = slice_index_or v.homes k None

-- whether the key is a control group's own
abbrev pub stands : Charges → ℕ → Bool
stands v k = option_map_or (λ h. h.stands) (home_at v k) false

-- the id of the control group that the tasks of a key are in
abbrev pub home_id : Charges → ℕ → ℕ
home_id v k = option_map_or (λ h. h.id) (home_at v k) 0

abbrev pub live_at : Charges → ℕ → ℕ
live_at v k = option_map_or (λ h. h.live) (home_at v k) 0

abbrev pub zombies_at : Charges → ℕ → ℕ
zombies_at v k = option_map_or (λ h. h.zombies) (home_at v k) 0

-- the tasks of a key
abbrev pub tasks_of : Option Home → ℕ
tasks_of home = option_map_or (λ h. h.live + h.zombies) home 0

-- the tasks of a key, where they are in the control group with the id or below it
abbrev pub tasks_below : List Control → ℕ → Option Home → ℕ
tasks_below controls id home = option_map_or (λ h. if is_below controls h.id id then h.live + h.zombies else 0) home 0

-- the tasks in the control group and below it, zombies among them: pids.current of the kernel's cgroup-v2 document
abbrev pub charged_count : Charges → ℕ → ℕ
charged_count v id = sum_by (tasks_below v.controls id) v.homes

-- all tasks
abbrev pub all_tasks : Charges → ℕ
all_tasks v = sum_by tasks_of v.homes

-- the limit of the control group with the id
abbrev pub control_limit : Charges → ℕ → Option ℕ
control_limit v id = option_and_then (λ g. g.limit) (control_at v.controls id)

-- whether one task more would pass the limit of the control group with the id
abbrev pub is_full : Charges → ℕ → Bool
is_full v id = option_map_or (λ limit. nat_lt limit (charged_count v id + 1)) (control_limit v id) false

-- why no task can be charged: the nearest control group whose limit it would pass. pids.max of the cgroup-v2 document
abbrev pub charge_refusal : Charges → ℕ → Option Refusal
charge_refusal v id = option_map PidsLimit (find (is_full v) (control_path v.controls id))

-- whether a live task or a control group is directly in it
abbrev pub is_occupied : Charges → ℕ → Bool
is_occupied v c = nat_lt 0 (live_at v c) || list_any (λ g. option_eq ◌==◌ g.parent (Some (home_id v c))) v.controls

-- why a control group cannot be removed
abbrev pub remove_refusal : Charges → ℕ → Option Refusal
remove_refusal v c =
    if is_some (parent_control v.controls (home_id v c)) then (if is_occupied v c then Some ControlBusy else None) else Some RootControl

-- why a limit cannot be set
abbrev pub limit_refusal : Charges → ℕ → Option ℕ → Option Refusal
limit_refusal v c limit =
    if is_some (parent_control v.controls (home_id v c))
    then (if option_map_or (nat_lt greatest_limit) limit false then Some BadLimit else None) else Some RootControl

-- a key that does not stand is gone with its last task
abbrev pub kept : Home → Option Home
kept h = if h.stands || nat_lt 0 (h.live + h.zombies) then Some h else None

-- what a live task's move from one key to another leaves at a key
abbrev pub after_move : ℕ → ℕ → ℕ → Home → Home
after_move from to k h = record h { live = h.live - (if k == from then 1 else 0) + (if k == to then 1 else 0) }

-- what the removal of a control group leaves at a key: its zombies, and those of groups that were removed below it, go to the parent
abbrev pub handed_on : ℕ → ℕ → Home → Option Home
handed_on from to h = if h.id == from then kept (record h { id = to; stands = false }) else Some h

-- the list has the keys of the control groups directly in the one with the key: each id of one comes once, and no other
pub record AreControlsIn (v : Charges) (c : ℕ) (keys : List ℕ) : Type 0 where
  pub once : (id : ℕ) → parent_control v.controls id ≡ Some (home_id v c) → times id (map (home_id v) keys) ≡ 1
  pub each : AllByRecursion (λ k. (stands v k ≡ true) × (parent_control v.controls (home_id v k) ≡ Some (home_id v c))) keys

-- one key's home changed, and all else stayed
pub record ChangesHome (old new : Charges) (key : ℕ) (home : Option Home) : Type 0 where
  pub controls : new.controls ≡ old.controls
  pub here : home_at new key ≡ home
  pub others : (k : ℕ) → k ≢ key → home_at new k ≡ home_at old k
