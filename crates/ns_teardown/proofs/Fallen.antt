-- What is left in the model when a namespace has fallen.
use Rattle.std.proofs.Common.{◌≡◌, ◌≢◌, ◌⊎◌, inl, inr, ℕ, ◌==◌, ◌&&◌, ◌||◌, Bool, true, false, not, List, [], ◌∷◌, map, slice_get, Option, Some, None, is_some, if◌then◌else◌, refl, sym, ap, ◌∙◌, option_map, option_and_then, unwrap_or}
use Rattle.std.specs.Prelude.{reverse, slice_index_or}
use Rattle.std.specs.Option.{option_map_or}
use Rattle.std.specs.List.{AllByRecursion}
use Rattle.std.proofs.lemmas.Bool.{cases_eq, eq-eqb, ne_eqb}
use Rattle.std.proofs.lemmas.Map.Entries.{option_filter}
use Rattle.pid_types.proofs.General.{held}
use Rattle.pid_types.specs.declared.plain.Name.{Name}
use Rattle.pid_types.specs.declared.plain.Row.{Row}
use Rattle.pid_types.specs.declared.plain.Life.{Life}
use Rattle.pid_types.specs.declared.plain.Life.TheVariants.{Zombie}
use Rattle.pid_types.specs.declared.plain.Ended.TheVariants.{Exited, Killed}
use Rattle.pid_types.specs.Chains.{contains}
use Rattle.pid_types.specs.State.{root_name}
use Rattle.pid_types.specs.Names.{same_name, is_within, is_member as is_visible}
use Rattle.pid_types.specs.Exit.{has_parent_within as parent_visible, goes_in_fall, is_of, row_after_fall, rows_after_fall, fallen_below, fall}
use Rattle.pid_types.specs.Outcome.{sweep}
use Rattle.pid_numbers.specs.Numbering.{Numbering, Namespace, Identifier, namespace_at, id_at, identifier_at, number_of, path_at, has_fallen_at, fallen_within}
use Rattle.pids_charge.specs.Charges.{home_id}
use Rattle.process_threads.specs.declared.Thread.{Thread}
use Rattle.process_threads.specs.Threads.{thread_with}
use Rattle.task_tree.specs.declared.Task.{Task}
use Rattle.task_tree.specs.Tree.{task_at, parent_of, has_live, lives}
use Rattle.task_table.specs.Store.{Store, IsLess, IsThreaded}
use Rattle.task_table.proofs.Less.{number-less}
use Rattle.task_table.specs.View.{name_of, name_at, parent_id, space_of, spaces_of, row_of, row_with, state_of}
use Rattle.task_table.specs.Lawful.{HasLaws, IsLawful}
use Rattle.task_table.specs.Whole.{HasParents}
use Rattle.thread_view.specs.Calling.{HasProcesses, IsWholeWithThreads}
use Rattle.thread_view.specs.Full.{full_state, thread_row_of}
use Rattle.thread_view.proofs.Named.{swept-full}
use Rattle.thread_view.proofs.Threads.{threads-in}
use Rattle.thread_ends.specs.Ending.{EndsProcesses, KeepsHomes, unless_ends}
use Rattle.thread_ends.proofs.Ended.{KeepsRoots, same-id, threads-left, marks-left}
use Rattle.task_table.proofs.Keys.{number-is_key}
use Rattle.task_table.proofs.LookUps.{named, same-name, space-id}
use Rattle.task_table.proofs.InUse.{homed}
use Rattle.task_table.proofs.Rows.{rows-both}
use Rattle.task_table.proofs.Sweeps.{name-less}
use Rattle.task_table.proofs.Changed.{KeepsNames, row-left}
use Rattle.ns_teardown.specs.Fall.{Slot, slot_at, is_visible_in, has_parent_inside, member_after_fall, slot_after_fall, life_after_fall, FallsWithin}
use Rattle.ns_teardown.proofs.Marked.{path-marked, number-marked, outer-parent}
use Rattle.ns_teardown.proofs.Within.{within-is, member-is}
use Rattle.ns_teardown.proofs.Good.{good-tasks}

-- the namespaces by their ids
module _ (b c : Numbering) (l : HasLaws b) (space i : ℕ) (own : id_at b space ≡ Some i) (f : FallsWithin space b c) where
  id-same : (n : ℕ) → id_at c n ≡ id_at b n
  id-same n = ap (option_map (λ t. t.id)) (f.namespaces n) ∙ go (namespace_at b n)
    where
      go : (o : Option Namespace) → option_map (λ t. t.id) (option_map (fallen_within space) o) ≡ option_map (λ t. t.id) o
      go None = refl
      go (Some t) = refl

  -- no name changes
  pub name-same : (k : ℕ) → name_at c k ≡ name_at b k
  name-same k = ap (λ o. option_map_or (name_of c) o root_name) (ap (λ l. slice_index_or l k None) f.names) ∙ go (identifier_at b k)
    where
      named_in : ℕ → List ℕ → Name
      named_in id numbers = record { space = id; numbers = record { items = reverse numbers } }

      go : (o : Option Identifier) → option_map_or (name_of c) o root_name ≡ option_map_or (name_of b) o root_name
      go None = refl
      go (Some u) = ap (λ o. named_in (unwrap_or o 0) u.numbers) (id-same u.space)

  parent-same : (n : ℕ) → parent_id c n ≡ parent_id b n
  parent-same n = ap (λ p. option_and_then (id_at c) (slice_get p 1)) (path-marked space b c f n) ∙ go (slice_get (path_at b n) 1)
    where
      go : (o : Option ℕ) → option_and_then (id_at c) o ≡ option_and_then (id_at b) o
      go None = refl
      go (Some m) = id-same m

  space-after : (p : ℕ × ℕ) → id_at b p.1 ≡ Some p.0 → fallen_below (spaces_of b) i (space_of b p) ≡ space_of c p
  space-after p at =
      let cursor = ap (λ (o : Option Namespace). option_map_or (λ t. t.cursor) o 0) (f.namespaces p.1) ∙ cursors (namespace_at b p.1) in
      let fallen = ap (λ x. has_fallen_at b p.1 || x) (within-is b l p.1 p.0 space i at own) ∙ sym (ap (λ (o : Option Namespace). option_map_or (λ t. t.fallen) o false) (f.namespaces p.1) ∙ marks (namespace_at b p.1)) in
      λ j. record { id = p.0; parent = sym (parent-same p.1) j; cursor = sym cursor j; fallen = fallen j }
    where
      cursors : (o : Option Namespace) → option_map_or (λ t. t.cursor) (option_map (fallen_within space) o) 0 ≡ option_map_or (λ t. t.cursor) o 0
      cursors None = refl
      cursors (Some t) = refl

      marks : (o : Option Namespace) → option_map_or (λ t. t.fallen) (option_map (fallen_within space) o) false ≡ (option_map_or (λ t. t.fallen) o false || contains (option_map_or (λ t. t.path) o []) space)
      marks None = refl
      marks (Some t) = refl

  -- the model's namespaces after the fall
  pub spaces-after : map (fallen_below (spaces_of b) i) (spaces_of b) ≡ spaces_of c
  spaces-after = from b.order l.each ∙ sym (ap (map (space_of c)) f.order)
    where
      from : (ps : List (ℕ × ℕ)) → AllByRecursion (λ p. id_at b p.1 ≡ Some p.0) ps → map (fallen_below (spaces_of b) i) (map (space_of b) ps) ≡ map (space_of c) ps
      from [] all = refl
      from (p ∷ ps) all = ap (λ x. x ∷ map (fallen_below (spaces_of b) i) (map (space_of b) ps)) (space-after p all.0) ∙ ap (λ xs. space_of c p ∷ xs) (from ps all.1)

-- a namespace has fallen by the end of its init, by key
pub record HasFallen (s s' : Store) (space init status : ℕ) : Type 0 where
  pub slots : (k : ℕ) → slot_at s' k ≡ slot_after_fall s space init status k
  pub marked : Numbering
  pub falls : FallsWithin space s.numbering marked
  pub laws : HasLaws marked
  pub less : IsLess marked s'.numbering
  pub homes : KeepsHomes s.charges s'.charges
  pub parents : HasParents s'
  pub threads : EndsProcesses (is_visible_in s.numbering space) s.threads s'.threads

module _ (s s' : Store) (l : IsLawful s) (l' : IsLawful s') (w : IsWholeWithThreads s) (init : ℕ) (t : Task) (status : ℕ) (at : task_at s.tree init ≡ Some t) (u : Identifier) (is : identifier_at s.numbering init ≡ Some u)
    (first : number_of s.numbering init u.space ≡ Some 1) (f : HasFallen s s' u.space init status) where
  abbrev row : Row
  row = row_of s init t

  abbrev id : ℕ
  id = (name_at s.numbering init).space

  own : id_at s.numbering u.space ≡ Some id
  own = space-id s l init u is

  -- members by their rows and by their keys
  visible_is : (k : ℕ) (v : Task) → task_at s.tree k ≡ Some v → is_visible (state_of s).spaces id (row_of s k v) ≡ is_visible_in s.numbering u.space k
  visible_is k v e = let x = named s l k v e in ap is_some (number-is_key s.numbering l.numbering u.space id k x.0 own x.1)

  within_is : (k : ℕ) (v : Task) → parent_visible (state_of s) id (row_of s k v) ≡ has_parent_inside s u.space k
  within_is k v = go (parent_of s.tree k) refl
    where
      go : (o : Option ℕ) → parent_of s.tree k ≡ o
          → option_map_or (λ (parent : Name). is_within (state_of s).spaces parent.space id) (option_map (name_at s.numbering) o) false ≡ option_map_or (is_visible_in s.numbering u.space) o false
      go None e = refl
      go (Some p) e =
          let y = held (task_at s.tree p) (w.parents k p e) in
          let x = named s l p y.0 y.1 in
          within-is s.numbering l.numbering x.0.space (name_at s.numbering p).space u.space id (space-id s l p x.0 x.1) own ∙ sym (member-is s.numbering l.numbering p u.space x.0 x.1)

  name_is : (k : ℕ) (v : Task) → task_at s.tree k ≡ Some v → same_name (name_at s.numbering k) (name_at s.numbering init) ≡ (k == init)
  name_is k v e = same-name s l k init (ap is_some (named s l k v e).1) (ap is_some (named s l init t at).1)

  -- who goes
  goes_is : (k : ℕ) (v : Task) → task_at s.tree k ≡ Some v → goes_in_fall (state_of s) row (row_of s k v) ≡ (is_visible_in s.numbering u.space k && has_parent_inside s u.space k)
  goes_is k v e =
      ap (λ b. not b && is_visible (state_of s).spaces id (row_of s k v) && parent_visible (state_of s) id (row_of s k v)) (name_is k v e)
      ∙ ap (λ b. not (k == init) && b && parent_visible (state_of s) id (row_of s k v)) (visible_is k v e)
      ∙ ap (λ b. not (k == init) && is_visible_in s.numbering u.space k && b) (within_is k v)
      ∙ unless_init (cases_eq k init)
    where
      none : (a : Bool) → false ≡ (a && false)
      none true = refl
      none false = refl

      unless_init : (k ≡ init) ⊎ (k ≢ init) → (not (k == init) && is_visible_in s.numbering u.space k && has_parent_inside s u.space k) ≡ (is_visible_in s.numbering u.space k && has_parent_inside s u.space k)
      unless_init (inr m) = ap (λ b. not b && is_visible_in s.numbering u.space k && has_parent_inside s u.space k) (ne_eqb k init m)
      unless_init (inl same) =
          ap (λ b. not b && is_visible_in s.numbering u.space k && has_parent_inside s u.space k) (eq-eqb k init same) ∙ none (is_visible_in s.numbering u.space k)
          ∙ sym (ap (λ b. is_visible_in s.numbering u.space k && b) (ap (has_parent_inside s u.space) same ∙ outer-parent s l (good-tasks s l w) init u is first))

  -- who is left keeps the name, and the control group
  names_kept : KeepsNames s.numbering s'.numbering
  names_kept k v e = name-less f.marked s'.numbering f.laws f.less k v e ∙ name-same s.numbering f.marked l.numbering u.space id own f.falls k

  home_kept : (k : ℕ) (v : Task) → task_at s'.tree k ≡ Some v → home_id s'.charges v.home ≡ home_id s.charges v.home
  home_kept k v e = let h = homed s' l' k v e in same-id s.charges s'.charges f.homes v.home h.0 h.1

  -- a task that is left, with the life that it has
  left : (k : ℕ) (v : Task) (life : Life) → slot_at s' k ≡ record (slot_at s k) { task = Some (record v { life = life }) } → row_of s' k (record v { life = life }) ≡ record (row_of s k v) { life = life }
  left k v life slot =
      let there : task_at s'.tree k ≡ Some (record v { life = life }) = ap (λ (x : Slot). x.task) slot in
      row-left s s' l' names_kept k (record v { life = life }) there (ap (λ (x : Slot). x.parent) slot) (f.parents k) (ap (λ (x : Slot). x.membership) slot) (home_kept k (record v { life = life }) there)

  abbrev after : Row → Row
  after = row_after_fall (state_of s) row status

  abbrev stays : Row → Bool
  stays r = not (goes_in_fall (state_of s) row r)

  -- the slot that is left of a task
  slot_is : (k : ℕ) (m g : Bool) → is_visible_in s.numbering u.space k ≡ m → has_parent_inside s u.space k ≡ g
      → slot_at s' k ≡ (if m then member_after_fall g (k == init) status (slot_at s k) else slot_at s k)
  slot_is k m g member within =
      f.slots k ∙ ap (λ m. if m then member_after_fall (has_parent_inside s u.space k) (k == init) status (slot_at s k) else slot_at s k) member
      ∙ ap (λ g. if m then member_after_fall g (k == init) status (slot_at s k) else slot_at s k) within

  -- the life of a task that is left
  life_is : (k : ℕ) (v : Task) → task_at s.tree k ≡ Some v → (m : Bool) → is_visible_in s.numbering u.space k ≡ m
      → (after (row_of s k v)).life ≡ (if k == init then Zombie (Exited status) else (if m && lives v then Zombie Killed else v.life))
  life_is k v e m member =
      ap (λ b. if b then Zombie (Exited status) else (if is_visible (state_of s).spaces id (row_of s k v) && lives v then Zombie Killed else v.life)) (name_is k v e)
      ∙ ap (λ b. if k == init then Zombie (Exited status) else (if b && lives v then Zombie Killed else v.life)) (visible_is k v e ∙ member)

  with_life : (k : ℕ) (v : Task) (x : Life) → x ≡ (after (row_of s k v)).life → record (row_of s k v) { life = x } ≡ after (row_of s k v)
  with_life k v x same = λ i. record (row_of s k v) { life = same i }

  row_here : (k : ℕ) (v : Task) → task_at s.tree k ≡ Some v → row_with s' k ≡ option_map after (option_filter stays (Some (row_of s k v)))
  row_here k v e = go (is_visible_in s.numbering u.space k) refl (has_parent_inside s u.space k) refl
    where
      keeps : (b : Bool) → goes_in_fall (state_of s) row (row_of s k v) ≡ b → option_filter stays (Some (row_of s k v)) ≡ (if not b then Some (row_of s k v) else None)
      keeps b goes = ap (λ b. if not b then Some (row_of s k v) else None) goes

      here : (life : Life) → slot_at s' k ≡ record (slot_at s k) { task = Some (record v { life = life }) } → life ≡ (after (row_of s k v)).life → row_with s' k ≡ Some (after (row_of s k v))
      here life slot same = ap (λ (x : Slot). option_map (row_of s' k) x.task) slot ∙ ap Some (left k v life slot ∙ with_life k v life same)

      go : (m : Bool) → is_visible_in s.numbering u.space k ≡ m → (g : Bool) → has_parent_inside s u.space k ≡ g → row_with s' k ≡ option_map after (option_filter stays (Some (row_of s k v)))
      go true member true within =
          ap (λ (x : Slot). option_map (row_of s' k) x.task) (slot_is k true true member within)
          ∙ sym (ap (option_map after) (keeps true (goes_is k v e ∙ ap (λ m. m && has_parent_inside s u.space k) member ∙ within)))
      go true member false within =
          here (life_after_fall (k == init) status v)
          (slot_is k true false member within ∙ ap (λ o. record (slot_at s k) { task = option_map (λ (x : Task). record x { life = life_after_fall (k == init) status x }) o }) e)
          (sym (life_is k v e true member))
          ∙ sym (ap (option_map after) (keeps false (goes_is k v e ∙ ap (λ m. m && has_parent_inside s u.space k) member ∙ within)))
      go false outside g within =
          here v.life (slot_is k false g outside within ∙ ap (λ o. record (slot_at s k) { task = o }) e) (sym (life_is k v e false outside ∙ never (cases_eq k init)))
          ∙ sym (ap (option_map after) (keeps false (goes_is k v e ∙ ap (λ m. m && has_parent_inside s u.space k) outside)))
        where
          never : (k ≡ init) ⊎ (k ≢ init) → (if k == init then Zombie (Exited status) else v.life) ≡ v.life
          never (inl same) = absurd (let z : true ≡ false = sym (ap (is_visible_in s.numbering u.space) same ∙ ap is_some first) ∙ outside in cc)
          never (inr m) = ap (λ b. if b then Zombie (Exited status) else v.life) (ne_eqb k init m)

  each_row : (k : ℕ) → row_with s' k ≡ option_map after (option_filter stays (row_with s k))
  each_row k = go (task_at s.tree k) refl
    where
      vacant_slot : task_at s.tree k ≡ None → (m g : Bool) → (if m then member_after_fall g (k == init) status (slot_at s k) else slot_at s k).task ≡ None
      vacant_slot e true true = refl
      vacant_slot e true false = ap (option_map (λ (x : Task). record x { life = life_after_fall (k == init) status x })) e
      vacant_slot e false g = e

      go : (o : Option Task) → task_at s.tree k ≡ o → row_with s' k ≡ option_map after (option_filter stays (row_with s k))
      go None e =
          ap (λ (x : Slot). option_map (row_of s' k) x.task) (f.slots k)
          ∙ ap (option_map (row_of s' k)) (vacant_slot e (is_visible_in s.numbering u.space k) (has_parent_inside s u.space k))
          ∙ sym (ap (λ o. option_map after (option_filter stays (option_map (row_of s k) o))) e)
      go (Some v) e = row_here k v e ∙ sym (ap (λ o. option_map after (option_filter stays (option_map (row_of s k) o))) e)

  roots : KeepsRoots s s'
  roots k v e = number-less f.marked f.laws.full f.laws.own s'.numbering f.less k v e 0 ∙ number-marked u.space s.numbering f.marked f.falls k 0

  -- the processes of the threads that are left live as before
  pub processes-after : HasProcesses s'
  processes-after k v e = go (thread_with s.threads k) refl
    where
      live : (p : ℕ) → is_visible_in s.numbering u.space p ≡ false → has_live (task_at s'.tree p) ≡ has_live (task_at s.tree p)
      live p outside =
          ap (λ (x : Slot). has_live x.task) (f.slots p)
          ∙ ap (λ m. has_live (if m then member_after_fall (has_parent_inside s u.space p) (p == init) status (slot_at s p) else slot_at s p).task) outside

      kept : (x : Thread) → thread_with s.threads k ≡ Some x → (b : Bool) → is_visible_in s.numbering u.space x.process ≡ b → has_live (task_at s'.tree v.process) ≡ true
      kept x was true inside =
          absurd (let z : None ≡ Some v = sym (f.threads.threads k ∙ ap (unless_ends (is_visible_in s.numbering u.space)) was ∙ ap (λ b. if b then None else Some x) inside) ∙ e in cc)
      kept x was false outside =
          let one : Some x ≡ Some v = sym (f.threads.threads k ∙ ap (unless_ends (is_visible_in s.numbering u.space)) was ∙ ap (λ b. if b then None else Some x) outside) ∙ e in
          let process : x.process ≡ v.process = ap (λ o. option_map_or (λ y. y.process) o x.process) one in
          ap (λ p. has_live (task_at s'.tree p)) (sym process) ∙ live x.process outside ∙ w.processes k x was

      go : (o : Option Thread) → thread_with s.threads k ≡ o → has_live (task_at s'.tree v.process) ≡ true
      go None was = absurd (let z : None ≡ Some v = sym (f.threads.threads k ∙ ap (unless_ends (is_visible_in s.numbering u.space)) was) ∙ e in cc)
      go (Some x) was = kept x was (is_visible_in s.numbering u.space x.process) refl

  -- whose process is a member is known by its name
  abbrev its : Name → Bool
  its = is_of (state_of s).spaces id

  its_is : (k : ℕ) (v : Task) → task_at s.tree k ≡ Some v → its (name_at s.numbering k) ≡ is_visible_in s.numbering u.space k
  its_is k v e =
      let x = named s l k v e in
      within-is s.numbering l.numbering x.0.space (name_at s.numbering k).space u.space id (space-id s l k x.0 x.1) own ∙ sym (member-is s.numbering l.numbering k u.space x.0 x.1)

  -- a thread is in the namespace of its process
  thread_is : IsThreaded s.numbering s.threads → (k : ℕ) (x : Thread) → thread_with s.threads k ≡ Some x → its (name_at s.numbering k) ≡ its (name_at s.numbering x.process)
  thread_is i k x e =
      let g = (w.sound.coherent.threads (thread_row_of s k x) (threads-in s l i k x e)).process in
      ap (λ n. is_within (state_of s).spaces n id) (g.4 ∙ ap (λ (a : Name). a.space) g.2)

  -- the model's state after the fall
  pub fallen : IsThreaded s.numbering s.threads → IsThreaded s'.numbering s'.threads → sweep (fall (full_state s) row status) ≡ full_state s'
  unfolding fall rows_after_fall
  fallen i i' =
      let bound : s'.numbering.pid_max ≡ s.numbering.pid_max = f.less.bound ∙ f.falls.bound in
      swept-full f.marked f.laws s' l' i' f.less (fall (full_state s) row status)
      (sym (rows-both s s' l l' bound (λ k v e. let x = named s' l' k v e in roots k x.0 x.1) after stays each_row))
      (sym (threads-left s s' l l' i i' w.processes processes-after bound names_kept roots f.homes (is_visible_in s.numbering u.space) f.threads its (λ x. its x.name) its_is (thread_is i)))
      (sym (marks-left s s' l l' i i' w.processes processes-after bound names_kept roots f.homes (is_visible_in s.numbering u.space) f.threads its (λ x. its x.name) its_is (thread_is i)))
      (spaces-after s.numbering f.marked l.numbering u.space id own f.falls) (sym f.homes.controls) (sym bound)
