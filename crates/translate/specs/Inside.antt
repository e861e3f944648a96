-- What is directly inside a namespace or a control group, by ids.
use Rattle.std.specs.Prelude.{◌≡◌, ◌↔◌, ◌≤◌, ℕ, ◌==◌, List, map, filter, Option, Some, None, option_map, MatchOption}
use Rattle.std.specs.Option.{option_eq}
use Rattle.member_lists.specs.Owners.{times}
use Rattle.pid_types.specs.Controls.{control_at}
use Rattle.pid_types.specs.Membership.{IsIn}
use Rattle.pid_types.specs.Names.{space_at}
use Rattle.pid_types.specs.State.{State}
use Rattle.translate.specs.declared.inside.Inside.{Inside}
use Rattle.translate.specs.declared.inside.Tree.{Tree}
use Rattle.translate.specs.declared.inside.Tree.TheVariants.{Spaces, Controls}

-- the ids of the namespaces directly in the one with the id: pid_namespaces(7), "Nesting PID namespaces"
abbrev pub spaces_inside : State → ℕ → List ℕ
spaces_inside state id = map (λ s. s.id) (filter (λ s. option_eq ◌==◌ s.parent (Some id)) state.spaces)

-- the ids of the control groups directly in the one with the id: the kernel's cgroup-v2 document, "Organizing Processes and Threads"
abbrev pub controls_inside : State → ℕ → List ℕ
controls_inside state id = map (λ c. c.id) (filter (λ c. option_eq ◌==◌ c.parent (Some id)) state.controls)

-- the ids directly in the one with the id, in either tree; none where the tree does not have it
abbrev pub ids_in : State → Tree → ℕ → Option (List ℕ)
ids_in state Spaces id = option_map (λ s. spaces_inside state id) (space_at state.spaces id)
ids_in state Controls id = option_map (λ c. controls_inside state id) (control_at state.controls id)

-- the ids that are asked for
abbrev pub ids_inside : State → Inside → Option (List ℕ)
ids_inside state inside = ids_in state inside.tree inside.id

-- the list has the numbers from the given one on, each once, in any order
pub record AreFrom (numbers : List ℕ) (from : ℕ) (listed : List ℕ) : Type 0 where
  pub once : (m : ℕ) → times m listed ≤ 1
  pub each : (m : ℕ) → IsIn m listed ↔ ((from ≤ m) × IsIn m numbers)

-- such a list was gathered, or there are no numbers
abbrev pub AreGatheredFrom : Option (List ℕ) → ℕ → Option (List ℕ) → Type 0
AreGatheredFrom numbers from gathered =
    MatchOption gathered (numbers ≡ None) (λ listed. (all : List ℕ) × (numbers ≡ Some all) × AreFrom all from listed)
