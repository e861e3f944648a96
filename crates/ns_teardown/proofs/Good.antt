-- The tasks of a sound state, by key.
use Rattle.std.proofs.Common.{◌≡◌, ◌≢◌, ℕ, true, false, length, Option, Some, None, IsSome, is_some, refl, sym, ap, subst, ◌∙◌, option_map}
use Rattle.std.specs.Option.{option_map_or}
use Rattle.pid_types.proofs.General.{held}
use Rattle.pid_types.specs.declared.plain.Row.{Row}
use Rattle.pid_types.specs.Chains.{climb, contains}
use Rattle.pid_types.specs.Membership.{IsIn}
use Rattle.pid_types.specs.Names.{path_up, number}
use Rattle.pid_types.specs.Sound.{IsGoodParent}
use Rattle.pid_numbers.specs.Numbering.{Namespace, Identifier, namespace_at, id_at, identifier_at, number_of, path_at, has_fallen_at}
use Rattle.model_laws.proofs.Lists.{contains-from_IsIn}
use Rattle.model_laws.proofs.Trees.{space_at-Some}
use Rattle.task_tree.specs.declared.Task.{Task}
use Rattle.task_tree.specs.Tree.{task_at, parent_of, lives}
use Rattle.task_table.specs.Store.{Store}
use Rattle.task_table.specs.View.{name_at, row_of, space_of, state_of}
use Rattle.task_table.specs.Lawful.{IsLawful}
use Rattle.thread_view.specs.Calling.{IsWholeWithThreads}
use Rattle.task_table.proofs.Keys.{number-is_key, space_at-key}
use Rattle.task_table.proofs.LookUps.{named, space-id, in-rows, rows-in}
use Rattle.ns_teardown.specs.GoodTasks.{HasGoodTasks, HasInit}
use Rattle.ns_teardown.proofs.Within.{within-is}
use Rattle.ns_teardown.proofs.Ancestry.{IsTask, few-rows, top-of, climb-long}

module _ (s : Store) (l : IsLawful s) (w : IsWholeWithThreads s) where
  -- who has a parent is a task
  tasked : (k p : ℕ) → parent_of s.tree k ≡ Some p → IsTask s k
  tasked k p child = go (task_at s.tree k) refl
    where
      go : (o : Option Task) → task_at s.tree k ≡ o → (t : Task) × (task_at s.tree k ≡ Some t)
      go None e = absurd (let z : None ≡ Some p = sym (l.absent k e) ∙ child in cc)
      go (Some t) e = (t, e)

  -- the parent's name is a good one
  good_parent : (k p : ℕ) (child : parent_of s.tree k ≡ Some p) → IsGoodParent (state_of s).rows (state_of s).spaces (row_of s k (tasked k p child).0) (name_at s.numbering p)
  good_parent k p child =
      let t = tasked k p child in
      (w.sound.coherent.parents (row_of s k t.0) (rows-in s l k t.0 t.1)).good (name_at s.numbering p) (ap (option_map (name_at s.numbering)) child)

  around : (k p : ℕ) (u v : Identifier) → parent_of s.tree k ≡ Some p → identifier_at s.numbering k ≡ Some u → identifier_at s.numbering p ≡ Some v
      → contains (path_at s.numbering u.space) v.space ≡ true
  around k p u v child at up =
      sym (within-is s.numbering l.numbering u.space (name_at s.numbering k).space v.space (name_at s.numbering p).space (space-id s l k u at) (space-id s l p v up))
      ∙ contains-from_IsIn (path_up (state_of s).spaces (name_at s.numbering k).space) (name_at s.numbering p).space (good_parent k p child).around

  outside : (k p : ℕ) (u v : Identifier) → parent_of s.tree k ≡ Some p → identifier_at s.numbering k ≡ Some u → identifier_at s.numbering p ≡ Some v
      → number_of s.numbering k u.space ≡ Some 1 → v.space ≢ u.space
  outside k p u v child at up first same =
      let own = space-id s l k u at in
      let names : Some (name_at s.numbering p).space ≡ Some (name_at s.numbering k).space = sym (space-id s l p v up) ∙ ap (id_at s.numbering) same ∙ own in
      (good_parent k p child).outside (number-is_key s.numbering l.numbering u.space (name_at s.numbering k).space k u own at ∙ first) (ap (λ o. option_map_or (λ n. n) o (name_at s.numbering p).space) names)

  chain : (k : ℕ) → IsSome (task_at s.tree k) → (a : ℕ) × (contains (climb (parent_of s.tree) (length s.tree.tasks) k) a ≡ true) × (parent_of s.tree a ≡ None)
  chain k some =
      let t = held (task_at s.tree k) some in
      let a = top-of s l w k t in
      (a.0, contains-from_IsIn (climb (parent_of s.tree) (length s.tree.tasks) k) a.0 (subst (IsIn a.0) (sym (climb-long s l w (length s.tree.tasks) k t (few-rows s l))) a.1), a.2)

  -- a namespace that is there is the model's
  listed : (n : ℕ) (t : Namespace) → namespace_at s.numbering n ≡ Some t → IsIn (space_of s.numbering (t.id, n)) (state_of s).spaces
  listed n t at = (space_at-Some (state_of s).spaces t.id (space_of s.numbering (t.id, n)) (space_at-key s.numbering l.numbering n t.id (ap (option_map (λ t. t.id)) at))).0

  inits : (n : ℕ) (t : Namespace) → namespace_at s.numbering n ≡ Some t → t.fallen ≡ false → HasInit s n
  inits n t at stands =
      let id : id_at s.numbering n ≡ Some t.id = ap (option_map (λ t. t.id)) at in
      let r = w.sound.coherent.standing (space_of s.numbering (t.id, n)) (listed n t at) (ap (λ o. option_map_or (λ t. t.fallen) o false) at ∙ stands) in
      let f = in-rows s l r.0 r.1 in
      let u = named s l f.0 f.1 f.2 in
      let name : name_at s.numbering f.0 ≡ r.0.name = sym (ap (λ (x : Row). x.name) f.3) in
      record {
        key = f.0;
        task = ap is_some f.2;
        identifier = u.0;
        named = u.1;
        own = l.numbering.ids u.0.space n t.id (space-id s l f.0 u.0 u.1 ∙ ap (λ a. Some a.space) name ∙ ap Some r.3) id;
        first = sym (number-is_key s.numbering l.numbering n t.id f.0 u.0 id u.1) ∙ ap (λ a. number (state_of s).spaces a t.id) name ∙ r.4;
      }

  emptied : (n k : ℕ) (t : Task) → has_fallen_at s.numbering n ≡ true → task_at s.tree k ≡ Some t → lives t ≡ true → number_of s.numbering k n ≡ None
  emptied n k t fell at live = go (namespace_at s.numbering n) refl
    where
      go : (o : Option Namespace) → namespace_at s.numbering n ≡ o → number_of s.numbering k n ≡ None
      go None is = absurd (let z : false ≡ true = sym (ap (λ o. option_map_or (λ t. t.fallen) o false) is) ∙ fell in cc)
      go (Some x) is =
          let u = named s l k t at in
          sym (number-is_key s.numbering l.numbering n x.id k u.0 (ap (option_map (λ t. t.id)) is) u.1)
          ∙ (w.sound.coherent.fallen (space_of s.numbering (x.id, n)) (listed n x is) fell).ended (row_of s k t) (rows-in s l k t at) live

  pub good-tasks : HasGoodTasks s
  good-tasks = record { parents = w.parents; around = around; outside = outside; chain = chain; inits = inits; emptied = emptied }
