-- Who takes a task's children by key is the model's new parent.
use Rattle.std.proofs.Common.{◌≡◌, ◌≢◌, inr, ℕ, ◌+◌, ◌==◌, ◌&&◌, true, false, List, [], ◌∷◌, length, map, drop, find, Option, Some, None, refl, sym, ap, ◌∙◌, arith, option_map}
use Rattle.std.specs.Prelude.{MatchOption}
use Rattle.std.specs.Option.{option_map_or}
use Rattle.pid_types.proofs.General.{held}
use Rattle.pid_types.specs.declared.plain.Row.{Row}
use Rattle.pid_types.specs.Chains.{climb}
use Rattle.pid_types.specs.Membership.{IsIn}
use Rattle.pid_types.specs.Names.{row_at, task_numbered}
use Rattle.pid_types.specs.Exit.{new_parent, ancestors as ancestors_in, is_subreaper_in as is_subreaper_among, nearest_subreaper as nearest_among}
use Rattle.pid_numbers.specs.Numbering.{Identifier, identifier_at, number_of}
use Rattle.model_laws.proofs.Lists.{find-map, find-same}
use Rattle.task_tree.specs.declared.Task.{Task}
use Rattle.task_tree.specs.Tree.{task_at, parent_of, lives}
use Rattle.task_table.specs.Store.{Store}
use Rattle.task_table.specs.View.{name_at, row_of, state_of}
use Rattle.task_table.specs.Lawful.{IsLawful}
use Rattle.thread_view.specs.Calling.{IsWholeWithThreads}
use Rattle.task_table.proofs.LookUps.{named, space-id, task_at-key}
use Rattle.ns_teardown.specs.Heirs.{IsHeir, ancestor_keys, is_subreaper_of, nearest_subreaper_key}
use Rattle.ns_teardown.proofs.NewParents.{heir-beside}
use Rattle.ns_teardown.proofs.Climbs.{climb-all}
use Rattle.ns_teardown.proofs.Within.{same-space}
use Rattle.ns_teardown.proofs.Ancestry.{root, IsTask, few-rows, rooted-at, tasks-up, climb-rows, climb-long}
use Rattle.ns_teardown.proofs.Good.{good-tasks}

drop-map : (f : ℕ → ℕ) (xs : List ℕ) → drop 1 (map f xs) ≡ map f (drop 1 xs)
drop-map f [] = refl
drop-map f (x ∷ xs) = refl

in-drop : (x : ℕ) (xs : List ℕ) → IsIn x (drop 1 xs) → IsIn x xs
in-drop x [] i = i
in-drop x (y ∷ xs) i = inr i

module _ (s : Store) (l : IsLawful s) (w : IsWholeWithThreads s) (key : ℕ) (t : Task) (at : task_at s.tree key ≡ Some t) where
  -- the ancestors by root numbers are those by keys
  ancestors-rows : ancestors_in (state_of s).rows (row_of s key t) ≡ map (root s) (ancestor_keys s key)
  ancestors-rows =
      let few = few-rows s l in
      let by_keys : climb (parent_of s.tree) (length (state_of s).rows + 1) key ≡ climb (parent_of s.tree) (length s.tree.tasks + 1) key =
      climb-long s l w (length (state_of s).rows + 1) key (t, at) (omega arith) ∙ sym (climb-long s l w (length s.tree.tasks + 1) key (t, at) (omega (arith, few))) in
      ap (drop 1) (climb-rows s l w (length (state_of s).rows + 1) key (t, at) ∙ ap (map (root s)) by_keys)
      ∙ drop-map (root s) (climb (parent_of s.tree) (length s.tree.tasks + 1) key)

  module _ (u : Identifier) (is : identifier_at s.numbering key ≡ Some u) where
    -- whether one is a subreaper of the namespace, by its root number and by its key
    subreaper-is : (a : ℕ) → IsTask s a → is_subreaper_among (state_of s).rows (name_at s.numbering key).space (root s a) ≡ is_subreaper_of s u.space a
    subreaper-is a v =
        let x = named s l a v.0 v.1 in
        ap (λ o. option_map_or (λ (r : Row). r.subreaper && (r.name.space == (name_at s.numbering key).space)) o false) (rooted-at s l a v.0 v.1)
        ∙ ap (λ b. v.0.subreaper && b) (same-space s.numbering l.numbering x.0.space (name_at s.numbering a).space u.space (name_at s.numbering key).space (space-id s l a x.0 x.1) (space-id s l key u is))
        ∙ sym (ap (λ o. option_map_or (λ (z : Task). z.subreaper) o false && option_map_or (λ (i : Identifier). i.space == u.space) (identifier_at s.numbering a) false) v.1
        ∙ ap (λ o. v.0.subreaper && option_map_or (λ (i : Identifier). i.space == u.space) o false) x.1)

    -- the nearest one
    nearest-is : nearest_among (state_of s).rows (row_of s key t) ≡ option_map (root s) (nearest_subreaper_key s u.space key)
    nearest-is =
        ap (find (is_subreaper_among (state_of s).rows (name_at s.numbering key).space)) ancestors-rows
        ∙ find-map (root s) (is_subreaper_among (state_of s).rows (name_at s.numbering key).space) (ancestor_keys s key)
        ∙ ap (option_map (root s)) (find-same (λ a. is_subreaper_among (state_of s).rows (name_at s.numbering key).space (root s a)) (is_subreaper_of s u.space) (ancestor_keys s key)
        (λ a i. subreaper-is a (climb-all (parent_of s.tree) (IsTask s) (tasks-up s l w) (length s.tree.tasks + 1) key (t, at) a (in-drop a (climb (parent_of s.tree) (length s.tree.tasks + 1) key) i))))

  -- the new parent's name is the heir's
  pub new_parent-is : (heir : ℕ) → lives t ≡ true → ((u : Identifier) → identifier_at s.numbering key ≡ Some u → number_of s.numbering key u.space ≢ Some 1) → IsHeir s key heir
      → new_parent (state_of s) (row_of s key t) ≡ Some (name_at s.numbering heir)
  unfolding new_parent
  new_parent-is heir live inner h =
      ap (λ o. option_map (λ (r : Row). r.name) (option_map_or (row_at (state_of s).rows) o (task_numbered (state_of s) (name_at s.numbering key).space 1))) (nearest-is h.identifier h.named)
      ∙ go (nearest_subreaper_key s h.identifier.space key) h.found
    where
      v : IsTask s heir
      v = held (task_at s.tree heir) (heir-beside s l (good-tasks s l w) key heir (ap (λ o. option_map_or lives o false) at ∙ live) inner h).1

      go : (o : Option ℕ) → MatchOption o (number_of s.numbering heir h.identifier.space ≡ Some 1) (λ a. heir ≡ a)
          → option_map (λ (r : Row). r.name) (option_map_or (row_at (state_of s).rows) (option_map (root s) o) (task_numbered (state_of s) (name_at s.numbering key).space 1)) ≡ Some (name_at s.numbering heir)
      go None first = ap (option_map (λ (r : Row). r.name)) (task_at-key s l h.identifier.space (name_at s.numbering key).space 1 heir v.0 (space-id s l key h.identifier h.named) v.1 first)
      go (Some a) same = ap (λ k. option_map (λ (r : Row). r.name) (row_at (state_of s).rows (root s k))) (sym same) ∙ ap (option_map (λ (r : Row). r.name)) (rooted-at s l heir v.0 v.1)
