-- A namespace falls with all inside it: each is some task's own or has fallen already, and no number changes.
use Rattle.std.proofs.Common.{◌≡◌, ℕ, ◌<◌, ◌==◌, Bool, true, false, List, [], ◌∷◌, length, Option, Some, None, option_map, is_some, IsSome, if◌then◌else◌, refl, sym, ap, ◌∙◌, arith}
use Rattle.std.specs.Prelude.{slice_index_or}
use Rattle.std.specs.Option.{option_map_or}
use Rattle.std.proofs.lemmas.Bool.{eq-eqb}
use Rattle.pid_types.specs.Chains.{contains}
use Rattle.pid_types.specs.Names.{beside}
use Rattle.pid_numbers.specs.Numbering.{Numbering, Namespace, Identifier, namespace_at, identifier_at, path_at, number_in, number_of, is_used_as, has_fallen_at, HasOwnTask, fallen_within}
use Rattle.pid_numbers.proofs.Ties.{beside-some}
use Rattle.pid_numbers.proofs.Sweeps.{contains_at}
use Rattle.task_tree.specs.declared.Task.{Task}
use Rattle.task_tree.specs.Tree.{task_at, parent_of}
use Rattle.pid_types.specs.declared.call.Kind.TheVariants.{Task as AsTask}
use Rattle.task_table.specs.Store.{Store, IsStore}
use Rattle.task_table.specs.Lawful.{IsLawful}
use Rattle.task_table.specs.Whole.{HasParents}
use Rattle.ns_teardown.specs.GoodTasks.{HasGoodTasks}
use Rattle.ns_teardown.specs.Fall.{Slot, FallsWithin, slot_at, is_visible_in, member_after_fall, has_parent_inside, slot_after_fall}
use Rattle.ns_teardown.proofs.Outer as outer
use Rattle.ns_teardown.proofs.Visible as visible
use Rattle.ns_teardown.proofs.Falling as falling

-- a namespace that has not fallen is some task's own
pub all-homes : (s : Store) → IsStore s → HasGoodTasks s → (n : ℕ) → 0 < length (path_at s.numbering n) → has_fallen_at s.numbering n ≡ false → HasOwnTask (identifier_at s.numbering) n
all-homes s w good n there stands = go (namespace_at s.numbering n) refl
  where
    go : (o : Option Namespace) → namespace_at s.numbering n ≡ o → HasOwnTask (identifier_at s.numbering) n
    go None at = absurd (let none : length (path_at s.numbering n) ≡ 0 = ap (λ o. length (option_map_or (λ t. t.path) o [])) at in omega (arith, there, none))
    go (Some t) at =
        let init = good.inits n t at (ap (λ o. option_map_or (λ t. t.fallen) o false) (sym at) ∙ stands) in
        record {
          key = init.key;
          identifier = init.identifier;
          named = init.named;
          own = init.own;
          used = ap (is_used_as AsTask) (sym init.named) ∙ falling.task-used s w init.key init.task;
        }

-- a path that holds a namespace is not empty
pub some_path : (p : List ℕ) (space : ℕ) → contains p space ≡ true → 0 < length p
some_path [] space inside = absurd (cc)
some_path (n ∷ ns) space inside = omega arith

module _ (space : ℕ) (a b : Numbering) (f : FallsWithin space a b) where
  -- no path changes
  pub path-marked : (n : ℕ) → path_at b n ≡ path_at a n
  path-marked n = ap (λ o. option_map_or (λ t. t.path) o []) (f.namespaces n) ∙ go (namespace_at a n)
    where
      go : (o : Option Namespace) → option_map_or (λ t. t.path) (option_map (fallen_within space) o) [] ≡ option_map_or (λ t. t.path) o []
      go None = refl
      go (Some t) = refl

  identifier-same : (k : ℕ) → identifier_at b k ≡ identifier_at a k
  identifier-same k = ap (λ l. slice_index_or l k None) f.names

  -- no number changes
  pub number-marked : (k n : ℕ) → number_of b k n ≡ number_of a k n
  number-marked k n = ap (number_in (path_at b) n) (identifier-same k) ∙ go (identifier_at a k)
    where
      go : (o : Option Identifier) → number_in (path_at b) n o ≡ number_in (path_at a) n o
      go None = refl
      go (Some u) = ap (λ p. beside n p u.numbers) (path-marked u.space)

-- who has a parent is a task
child_is_task : (s : Store) → IsLawful s → (k p : ℕ) → parent_of s.tree k ≡ Some p → IsSome (task_at s.tree k)
child_is_task s law k p child = go (task_at s.tree k) refl
  where
    go : (o : Option Task) → task_at s.tree k ≡ o → IsSome o
    go None e = absurd (let z = sym (law.absent k e) ∙ child in cc)
    go (Some x) e = refl

module _ (s t : Store) (space : ℕ) (f : FallsWithin space s.numbering t.numbering) (rest : t ≡ record s { numbering = t.numbering }) where
  tree-same : t.tree ≡ s.tree
  tree-same = ap (λ (x : Store). x.tree) rest

  -- each child is visible in its parent's namespace
  pub seen : IsLawful s → HasGoodTasks s
      → (k p : ℕ) (v : Identifier) → parent_of t.tree k ≡ Some p → identifier_at t.numbering p ≡ Some v → IsSome (number_of t.numbering k v.space)
  seen law good k p v is at =
      let was = sym (ap (λ tree. parent_of tree k) tree-same) ∙ is in
      let at_s = sym (identifier-same space s.numbering t.numbering f p) ∙ at in
      let u = visible.named s law.agree k (child_is_task s law k p was) in
      ap is_some (number-marked space s.numbering t.numbering f k v.space)
      ∙ visible.visible s.numbering law.numbering k v.space u.0 u.1 (good.around k p u.0 v was u.1 at_s)

  -- what is told from the tasks then is told from those before
  pub slot-marked : (init status k : ℕ) → slot_after_fall t space init status k ≡ slot_after_fall s space init status k
  slot-marked init status k =
      ap (λ o. if is_some o then member_after_fall (has_parent_inside t space k) (k == init) status (slot_at t k) else slot_at t k) (number-marked space s.numbering t.numbering f k space)
      ∙ ap (λ g. if is_visible_in s.numbering space k then member_after_fall g (k == init) status (slot_at t k) else slot_at t k) within
      ∙ ap (λ x. if is_visible_in s.numbering space k then member_after_fall (has_parent_inside s space k) (k == init) status x else x) (ap (λ x. slot_at x k) rest)
    where
      within : has_parent_inside t space k ≡ has_parent_inside s space k
      within = ap (λ tree. option_map_or (is_visible_in t.numbering space) (parent_of tree k) false) tree-same ∙ go (parent_of s.tree k)
        where
          go : (o : Option ℕ) → option_map_or (is_visible_in t.numbering space) o false ≡ option_map_or (is_visible_in s.numbering space) o false
          go None = refl
          go (Some p) = ap is_some (number-marked space s.numbering t.numbering f p space)

-- the init of a namespace is no child of a member
pub outer-parent : (s : Store) → IsLawful s → HasGoodTasks s → (init : ℕ) (u : Identifier) → identifier_at s.numbering init ≡ Some u → number_of s.numbering init u.space ≡ Some 1 → has_parent_inside s u.space init ≡ false
outer-parent s law good init u is first = go (parent_of s.tree init) refl
  where
    apart : (p : ℕ) → parent_of s.tree init ≡ Some p → (v : Identifier) → identifier_at s.numbering p ≡ Some v → (o : Option ℕ) → beside u.space (path_at s.numbering v.space) v.numbers ≡ o → is_some o ≡ false
    apart p child v at None e = refl
    apart p child v at (Some n) e =
        let j = beside-some u.space n (path_at s.numbering v.space) v.numbers e in
        let inside = sym (ap (contains (path_at s.numbering v.space)) j.2) ∙ contains_at (path_at s.numbering v.space) j.0 j.1 in
        absurd (good.outside init p u v child is at first (outer.around-same s.numbering law.numbering u.space v.space (good.around init p u v child is at) inside))

    go : (o : Option ℕ) → parent_of s.tree init ≡ o → option_map_or (is_visible_in s.numbering u.space) o false ≡ false
    go None child = refl
    go (Some p) child =
        let v = visible.named s law.agree p (good.parents init p child) in
        ap (λ o. is_some (number_in (path_at s.numbering) u.space o)) v.1 ∙ apart p child v.0 v.1 (beside u.space (path_at s.numbering v.0.space) v.0.numbers) refl

-- so it stays
pub init-left : (s : Store) (space init status : ℕ) → number_of s.numbering init space ≡ Some 1 → has_parent_inside s space init ≡ false → slot_after_fall s space init status init ≡ member_after_fall false true status (slot_at s init)
init-left s space init status first outer =
    ap (λ o. if is_some o then member_after_fall (has_parent_inside s space init) (init == init) status (slot_at s init) else slot_at s init) first
    ∙ ap (λ g. member_after_fall g (init == init) status (slot_at s init)) outer
    ∙ ap (λ b. member_after_fall false b status (slot_at s init)) (eq-eqb init init refl)

-- the child of a member is a member
closed : (s : Store) → IsLawful s → HasGoodTasks s → (space k p : ℕ) → parent_of s.tree k ≡ Some p → is_visible_in s.numbering space p ≡ true → is_visible_in s.numbering space k ≡ true
closed s law good space k p child member = go (beside space (path_at s.numbering v.0.space) v.0.numbers) refl (ap (λ o. is_some (number_in (path_at s.numbering) space o)) (sym v.1) ∙ member)
  where
    v : (v : Identifier) × (identifier_at s.numbering p ≡ Some v)
    v = visible.named s law.agree p (good.parents k p child)

    u : (u : Identifier) × (identifier_at s.numbering k ≡ Some u)
    u = visible.named s law.agree k (child_is_task s law k p child)

    go : (o : Option ℕ) → beside space (path_at s.numbering v.0.space) v.0.numbers ≡ o → is_some o ≡ true → is_visible_in s.numbering space k ≡ true
    go None e some = absurd (cc)
    go (Some n) e some =
        let j = beside-some space n (path_at s.numbering v.0.space) v.0.numbers e in
        let inside = sym (ap (contains (path_at s.numbering v.0.space)) j.2) ∙ contains_at (path_at s.numbering v.0.space) j.0 j.1 in
        visible.visible s.numbering law.numbering k space u.0 u.1 (outer.around-around s.numbering law.numbering u.0.space v.0.space space (good.around k p u.0 v.0 child u.1 v.1) inside)

-- parents are tasks after the fall too
pub left-parents : (s t : Store) → IsLawful s → HasGoodTasks s → (space init status : ℕ) → ((k : ℕ) → slot_at t k ≡ slot_after_fall s space init status k) → HasParents t
left-parents s t law good space init status slots k p child = go (is_visible_in s.numbering space k) refl (has_parent_inside s space k) refl
  where
    after : (j : ℕ) (m g : Bool) → is_visible_in s.numbering space j ≡ m → has_parent_inside s space j ≡ g → slot_at t j ≡ (if m then member_after_fall g (j == init) status (slot_at s j) else slot_at s j)
    after j m g member within =
        slots j ∙ ap (λ m. if m then member_after_fall (has_parent_inside s space j) (j == init) status (slot_at s j) else slot_at s j) member
        ∙ ap (λ g. if m then member_after_fall g (j == init) status (slot_at s j) else slot_at s j) within

    stays : parent_of s.tree k ≡ Some p → is_visible_in s.numbering space p ≡ false → IsSome (task_at t.tree p)
    stays was off = ap (λ (x : Slot). is_some x.task) (after p false (has_parent_inside s space p) off refl) ∙ good.parents k p was

    outer : parent_of s.tree k ≡ Some p → is_visible_in s.numbering space k ≡ false → (b : Bool) → is_visible_in s.numbering space p ≡ b → IsSome (task_at t.tree p)
    outer was off true e = absurd (let z = sym off ∙ closed s law good space k p was e in cc)
    outer was off false e = stays was e

    go : (m : Bool) → is_visible_in s.numbering space k ≡ m → (g : Bool) → has_parent_inside s space k ≡ g → IsSome (task_at t.tree p)
    go true member true within = absurd (let z = sym (ap (λ (x : Slot). x.parent) (after k true true member within)) ∙ child in cc)
    go true member false within =
        let was : parent_of s.tree k ≡ Some p = sym (ap (λ (x : Slot). x.parent) (after k true false member within)) ∙ child in
        stays was (sym (ap (λ o. option_map_or (is_visible_in s.numbering space) o false) was) ∙ within)
    go false member g within =
        let was : parent_of s.tree k ≡ Some p = sym (ap (λ (x : Slot). x.parent) (after k false g member within)) ∙ child in
        outer was member (is_visible_in s.numbering space p) refl
