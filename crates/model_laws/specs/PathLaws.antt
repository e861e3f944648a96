-- What paths are, and what a control group's subtree is, by the parents alone.
use Rattle.std.specs.Prelude.{◌≡◌, ℕ, Bool, true, List, [], ◌∷◌, ◌++◌, map, length, filter, Option, Some, None}
use Rattle.pid_types.specs.declared.plain.Space.{Space}
use Rattle.pid_types.specs.declared.plain.Control.{Control}
use Rattle.pid_types.specs.declared.plain.ControlRow.{ControlRow}
use Rattle.pid_types.specs.declared.plain.Plain.{Plain}
use Rattle.pid_types.specs.declared.call.Call.TheVariants.{Count}
use Rattle.pid_types.specs.declared.reply.Reply.TheVariants.{Counted}
use Rattle.pid_types.specs.Membership.{IsIn}
use Rattle.pid_types.specs.State.{State}
use Rattle.pid_types.specs.Names.{parent_space, path_up}
use Rattle.pid_types.specs.Controls.{parent_control, control_path, is_below, count}
use Rattle.pid_types.specs.Step.{step}
use Rattle.pid_types.specs.Sound.{IsSound}
use Rattle.pid_types.specs.Shown.{Shows}

-- each is the parent of the one before it, and the last has none
abbrev pub IsChain : (ℕ → Option ℕ) → List ℕ → Type 0
IsChain parent_of [] = ⊥
IsChain parent_of (id ∷ []) = parent_of id ≡ None
IsChain parent_of (id ∷ up ∷ rest) = (parent_of id ≡ Some up) × IsChain parent_of (up ∷ rest)

-- the chain of parents that begins at the id and ends at the root
pub record IsPathOf (parent_of : ℕ → Option ℕ) (id : ℕ) (path : List ℕ) : Type 0 where
  pub rest : List ℕ
  pub begins : path ≡ id ∷ rest
  pub chain : IsChain parent_of path
  pub ends : IsIn 0 path

-- in a sound state the path of each namespace, and of each control group, is its chain of parents up to the root
abbrev pub PathsAreChains : Type 0
PathsAreChains =
    (state : State) → IsSound state
    → ((s : Space) → IsIn s state.spaces → IsPathOf (parent_space state.spaces) s.id (path_up state.spaces s.id))
    × ((c : Control) → IsIn c state.controls → IsPathOf (parent_control state.controls) c.id (control_path state.controls c.id))

-- the control group is c itself, or its parent is in the subtree of c
pub data IsInSubtree (controls : List Control) (c : ℕ) : ℕ → Type 0 where
  itself : IsInSubtree controls c c
  child : (g : Control) (parent : ℕ) → IsIn g controls → g.parent ≡ Some parent → IsInSubtree controls c parent
      → IsInSubtree controls c g.id

-- the homes of all tasks: of the threads beside first ones, and of the processes, zombies among them
abbrev pub homes : State → List ℕ
homes state = map (λ t. t.home) state.threads ++ map (λ row. row.home) state.rows

-- the test passes just those that are in the subtree of c
abbrev pub TellsSubtree : State → ℕ → (ℕ → Bool) → Type 0
TellsSubtree state c test =
    (home : ℕ) → IsIn home (homes state)
    → (test home ≡ true → IsInSubtree state.controls c home) × (IsInSubtree state.controls c home → test home ≡ true)

-- in a sound state a control group's count is the number of tasks whose home is in its subtree, by whatever test that is told
abbrev pub CountIsOfSubtree : Type 0
CountIsOfSubtree =
    (state : State) (c : ℕ) (test : ℕ → Bool) → IsSound state → TellsSubtree state c test
    → count state c ≡ length (filter test (homes state))

-- there is such a test: whether the control group is on the path of the home
abbrev pub SubtreeIsTold : Type 0
SubtreeIsTold = (state : State) (c : ℕ) → IsSound state → TellsSubtree state c (λ home. is_below state.controls home c)

-- the answer to a count of each control group, and the count that a snapshot shows of it, are the number of tasks whose home is in
-- its subtree
abbrev pub CountsSubtrees : State → ℕ → Type 0
CountsSubtrees state stamp =
    (g : Control) (test : ℕ → Bool) → IsIn g state.controls → TellsSubtree state g.id test
    → ((step state stamp (Count g.id)).reply ≡ Counted (length (filter test (homes state))))
    × ((plain : Plain) → Shows state plain → (c : ControlRow) → IsIn c plain.controls.items → c.id ≡ g.id
    → c.count ≡ length (filter test (homes state)))

-- so it is in every sound state
abbrev pub CountsAreOfSubtrees : Type 0
CountsAreOfSubtrees = (state : State) (stamp : ℕ) → IsSound state → CountsSubtrees state stamp
