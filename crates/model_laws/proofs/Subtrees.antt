-- Paths are chains of parents, and a count is the number of tasks whose home is in the subtree.
use Rattle.model_laws.proofs.Words.{◌≡◌, ℕ, Bool, zero, suc, List, map, State, Row, Thread, length, Option, Some, None, refl, sym, ap, ◌∙◌, subst, inl, inr, filter, arith, same_from_decides, Control, ControlRow, Counted, NoControl, IsIn, climb, parent_space, path_up, control_at, parent_control, control_path, is_below, count, answered, for_found, count_tasks, step, with_count, IsTreeOfControls}
use Rattle.model_laws.proofs.Ground.{filter-same, IsIn-from_map, IsIn-from_contains, contains-from_IsIn, Stops, Stops-at_root, climb-None, climb-Some, climb_cases, IsIn-climb_first, at-listed, root_space_parent, root_control_parent, control_at-Some}
use Rattle.model_laws.specs.PathLaws.{homes, IsChain, IsPathOf, IsInSubtree, PathsAreChains, CountIsOfSubtree, SubtreeIsTold, CountsAreOfSubtrees}
use Rattle.model_laws.proofs.ControlsKept.{path_of_parent}
use Rattle.model_laws.proofs.Counting.{length-filter-map, length-filter-append}

-- a chain that stops is a chain of parents
IsChain-climb : (f : ℕ → Option ℕ) (k id : ℕ) → Stops f k id → IsChain f (climb f k id)
unfolding climb
IsChain-climb f zero id s = elim s [ ]
IsChain-climb f (suc k) id (inl e) = subst (IsChain f) (sym (climb-None f k id e)) e
IsChain-climb f (suc zero) id (inr r) = elim r.2 [ ]
IsChain-climb f (suc (suc k)) id (inr r) = subst (IsChain f) (sym (climb-Some f (suc k) id r.0 r.1)) (r.1, IsChain-climb f (suc k) r.0 r.2)

-- a path that meets the root is the chain of parents up to it
IsPathOf-climb : (f : ℕ → Option ℕ) (k id : ℕ) → f 0 ≡ None → IsIn 0 (climb f (suc k) id) → IsPathOf f id (climb f (suc k) id)
unfolding climb
IsPathOf-climb f k id root on = record {
  rest = _;
  begins = refl;
  chain = IsChain-climb f (suc k) id (Stops-at_root f (suc k) id root on);
  ends = on;
}

-- paths are chains
pub paths_are_chains : PathsAreChains
unfolding path_up control_path
paths_are_chains state sound = (
  λ s i. IsPathOf-climb (parent_space state.spaces) 32 s.id (root_space_parent state.spaces sound.coherent.spaces) (sound.coherent.spaces.chains s i),
  λ c i. IsPathOf-climb (parent_control state.controls) 64 c.id (root_control_parent state.controls sound.coherent.controls) (sound.coherent.controls.chains c i),
)

-- ---- subtrees

-- what is on the path is above: the path's beginning is in its subtree
IsInSubtree-climb : (controls : List Control) (k id c : ℕ) → IsIn c (climb (parent_control controls) k id) → IsInSubtree controls c id
unfolding climb
IsInSubtree-climb controls zero id c i = elim i [ ]
IsInSubtree-climb controls (suc k) id c i = elim (climb_cases (parent_control controls) k id c i) [
  | inl e ↦ subst (IsInSubtree controls c) e IsInSubtree.itself
  | inr r ↦
      let up : parent_control controls id ≡ Some r.0 = r.1 in
      let g : (g : Control) × (control_at controls id ≡ Some g) × (g.parent ≡ Some r.0) = grind arith in
      let at = control_at-Some controls id g.0 g.1 in
      subst (IsInSubtree controls c) at.1 (IsInSubtree.child g.0 r.0 at.0 g.2 (IsInSubtree-climb controls k r.0 c r.2))
]

-- and back, among control groups that are a tree
on_path : (controls : List Control) → IsTreeOfControls controls → (c id : ℕ) → IsInSubtree controls c id → IsIn c (control_path controls id)
unfolding control_path
on_path controls tree c _ IsInSubtree.itself = IsIn-climb_first (parent_control controls) 64 c
on_path controls tree c _ (IsInSubtree.child g parent i e up) =
    path_of_parent controls tree g.id parent g (at-listed Control (λ d. d.id) (λ d. d.parent) (control_path controls) controls tree g i) e c (on_path controls tree c parent up)

-- the path of the home tells the subtree
pub subtree_is_told : SubtreeIsTold
unfolding control_path
subtree_is_told state c sound home i = (
  λ e. IsInSubtree-climb state.controls 65 home c (IsIn-from_contains (control_path state.controls home) c e),
  λ e. contains-from_IsIn (control_path state.controls home) c (on_path state.controls sound.coherent.controls c home e),
)

-- a count is that of the homes that pass
count-homes : (state : State) (c : ℕ) → count state c ≡ length (filter (λ home. is_below state.controls home c) (homes state))
unfolding count
count-homes state c =
    let below : ℕ → Bool = λ home. is_below state.controls home c in
    let all = length-filter-append below (map (λ (t : Thread). t.home) state.threads) (map (λ (r : Row). r.home) state.rows) in
    let rows = length-filter-map below (λ (r : Row). r.home) state.rows in
    let threads = length-filter-map below (λ (t : Thread). t.home) state.threads in
    omega (arith, all, rows, threads)

-- a count is that of the subtree
pub count_is_of_subtree : CountIsOfSubtree
count_is_of_subtree state c test sound tells =
    count-homes state c ∙ ap length (filter-same (λ home. is_below state.controls home c) test (homes state) (λ home i.
    let told = subtree_is_told state c sound home i in
    same_from_decides (is_below state.controls home c) (test home) told (tells home i)))

-- a count is answered, and shown
pub counts_are_of_subtrees : CountsAreOfSubtrees
unfolding step count_tasks
counts_are_of_subtrees state stamp sound g test i tells = (
  ap (λ o. (for_found state o NoControl (λ c. answered state (Counted (count state g.id)))).reply) found ∙ ap Counted counted,
  λ plain shows c j same.
      let q = IsIn-from_map (with_count state) c state.controls (subst (IsIn c) shows.controls j) in
      let id : q.0.id ≡ g.id = ap (λ (x : ControlRow). x.id) (sym q.2) ∙ same in
      ap (λ (x : ControlRow). x.count) q.2 ∙ ap (count state) id ∙ counted,
)
  where
    found : control_at state.controls g.id ≡ Some g
    found = at-listed Control (λ d. d.id) (λ d. d.parent) (control_path state.controls) state.controls sound.coherent.controls g i

    counted : count state g.id ≡ length (filter test (homes state))
    counted = count_is_of_subtree state g.id test sound tells
