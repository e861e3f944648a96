-- What the checks ask of control groups, in the model's words.
use Rattle.std.specs.Prelude.{◌≡◌, ℕ, ◌<◌, ◌≤◌, List, map, None, Some}
use Rattle.pid_types.specs.declared.plain.Control.{Control}
use Rattle.pid_types.specs.Bounds.{greatest_limit}
use Rattle.pid_types.specs.Controls.{parent_control, control_path}
use Rattle.pid_types.specs.Membership.{IsIn}
use Rattle.pid_types.specs.Sound.{IsTreeOfControls, HasGoodLimit}
use Rattle.pids_charge.specs.Charges.{Charges, control_limit}

-- the control groups are a tree, with limits that may be
pub record HasGoodControls (v : Charges) : Type 0 where
  pub tree : IsTreeOfControls v.controls
  pub limits : (c : Control) → IsIn c v.controls → HasGoodLimit c

-- their ids in order
abbrev pub ids_of : Charges → List ℕ
ids_of v = map (λ c. c.id) v.controls

-- the control group with the id is younger than the one that it is in, the root is on its path, and its limit may be
pub record IsGoodControl (v : Charges) (id : ℕ) : Type 0 where
  pub younger : (p : ℕ) → parent_control v.controls id ≡ Some p → p < id
  pub path : IsIn 0 (control_path v.controls id)
  pub root : id ≡ 0 → control_limit v id ≡ None
  pub bounded : (limit : ℕ) → control_limit v id ≡ Some limit → limit ≤ greatest_limit
