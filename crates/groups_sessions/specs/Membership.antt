-- What a contract sees of `Members`: at each task's key the group and the session that it is in.
use Rattle.std.specs.Prelude.{◌≤◌, ◌≡◌, ◌≢◌, ℕ, ◌<◌, List, Option, Some, None, IsSome, option_map, unwrap_or, MatchOption, map, length, slice_index_or}
use Rattle.std.specs.List.{AllByRecursion}
use Rattle.member_lists.specs.Owners.{owner_of, times}

-- the keys of the identifiers that a task's group and session are named after
pub record Membership : Type 0 where
  pub group : ℕ
  pub session : ℕ

-- what the task with the key is in; nothing where no such task entered
abbrev pub membership_at : List (Option Membership) → ℕ → Option Membership
membership_at members k = slice_index_or members k None

-- the group of the task with the key
abbrev pub group_of : List (Option Membership) → ℕ → Option ℕ
group_of members k = option_map (λ m. m.group) (membership_at members k)

-- the session of the task with the key
abbrev pub session_of : List (Option Membership) → ℕ → Option ℕ
session_of members k = option_map (λ m. m.session) (membership_at members k)

-- at each key the group alone
abbrev pub groups_of : List (Option Membership) → List (Option ℕ)
groups_of members = map (option_map (λ m. m.group)) members

-- some task is in the group
abbrev pub HasMembers : List (Option Membership) → ℕ → Type 0
HasMembers members group = (k : ℕ) × (group_of members k ≡ Some group)

-- whoever is in the group is in the session
abbrev pub AreInSession : List (Option Membership) → ℕ → ℕ → Type 0
AreInSession members group session = (k : ℕ) → group_of members k ≡ Some group → session_of members k ≡ Some session

-- whoever else is in the group is in the session
abbrev pub AreOthersInSession : List (Option Membership) → ℕ → ℕ → ℕ → Type 0
AreOthersInSession members task group session = (k : ℕ) → k ≢ task → group_of members k ≡ Some group → session_of members k ≡ Some session

-- the session of those who are in the group; none where nobody is
abbrev pub IsSessionOf : List (Option Membership) → ℕ → Option ℕ → Type 0
IsSessionOf members group session =
    MatchOption session ((k : ℕ) → group_of members k ≢ Some group) (λ s. HasMembers members group × AreInSession members group s)

-- the list has each group of a session in which somebody is once, and no other
pub record AreGroupsOf (members : List (Option Membership)) (session : ℕ) (groups : List ℕ) : Type 0 where
  pub once : (k g : ℕ) → membership_at members k ≡ Some (record { group = g; session = session }) → times g groups ≡ 1
  pub owned : AllByRecursion (λ g. (k : ℕ) × (membership_at members k ≡ Some (record { group = g; session = session }))) groups

-- what those who are in a group are in, where each group has its session
abbrev pub membership_in : List (Option ℕ) → ℕ → Membership
membership_in sessions group = record { group = group; session = unwrap_or (owner_of sessions group) 0 }

-- what each task is in, by the groups of tasks and the sessions of groups
abbrev pub memberships_of : List (Option ℕ) → List (Option ℕ) → List (Option Membership)
memberships_of groups sessions = map (option_map (membership_in sessions)) groups

-- some task is in the group, by the groups of tasks
abbrev pub IsJoined : List (Option ℕ) → ℕ → Type 0
IsJoined groups group = (k : ℕ) × (owner_of groups k ≡ Some group)

-- a group has a session exactly where somebody is in the group. Where memory ended, the sessions alone have grown
pub record AreMemberships (groups sessions : List (Option ℕ)) : Type 0 where
  pub room : length groups ≤ length sessions
  pub few : length groups ≤ 1073741824
  pub inside : (k g : ℕ) → owner_of groups k ≡ Some g → g < length groups
  pub held : (k g : ℕ) → owner_of groups k ≡ Some g → IsSome (owner_of sessions g)
  pub joined : (g s : ℕ) → owner_of sessions g ≡ Some s → IsJoined groups g
  pub session_room : (g s : ℕ) → owner_of sessions g ≡ Some s → s < length groups
