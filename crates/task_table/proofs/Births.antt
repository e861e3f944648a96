-- A new task, in each part.
use Rattle.std.proofs.Common.{◌≡◌, ◌≢◌, inl, inr, ℕ, ◌+◌, ◌<◌, ◌≤◌, ◌==◌, ◌&&◌, not, Bool, true, false, List, [], length, Option, Some, None, option_map, is_some, IsSome, if◌then◌else◌, refl, sym, ap, subst, ◌∙◌, arith}
use Rattle.std.specs.Prelude.{slice_set}
use Rattle.std.specs.Option.{option_map_or}
use Rattle.std.proofs.lemmas.Bool.{cases_eq, eq-eqb}
use Rattle.pid_types.proofs.General.{nothing, held}
use Rattle.pid_types.specs.declared.call.Kind.{Kind}
use Rattle.pid_types.specs.declared.call.Kind.TheVariants.{Task as AsTask, Group, Session}
use Rattle.pid_types.specs.Names.{beside}
use Rattle.pid_numbers.specs.Numbering.{Numbering, Identifier, Namespace, identifier_at, namespace_at, path_at, number_in, number_of, new_identifier, uses, moved as cursor_moved}
use Rattle.task_tree.specs.declared.Task.{Task}
use Rattle.process_threads.specs.Threads.{left_at}
use Rattle.task_tree.specs.Tree.{TreeOfTasks, task_at, parent_of, rank_of, waits_for, has_live, lives}
use Rattle.pids_charge.specs.Charges.{Home, home_at, stands, all_tasks, ChangesHome}
use Rattle.groups_sessions.specs.Membership.{Membership, membership_at}
use Rattle.task_table.specs.Store.{Store, IsStore, IsSame, uses_at, one_if, is_kind, is_used_at, is_in_group, is_in_session, lives_in, waits_in, left_in, bare, bare_at, joins, use_of}
use Rattle.task_table.proofs.Less.{AreRanks, ranked_task}
use Rattle.task_table.proofs.Marks.{stays, unmarked}
use Rattle.task_table.proofs.Changes.{IsStore-changed}
use Rattle.task_table.proofs.HomeCounts as homes

-- the identifiers that a new task's group and session are named after are used
pub joined-named : (b : Numbering) (members : List (Option Membership)) (from : Option ℕ) (key g s : ℕ) → joins members from key ≡ Some (record { group = g; session = s })
    → is_used_at b key ≡ true → ((k : ℕ) (m : Membership) → membership_at members k ≡ Some m → (is_used_at b m.group ≡ true) × (is_used_at b m.session ≡ true))
    → (is_used_at b g ≡ true) × (is_used_at b s ≡ true)
joined-named b members None key g s e own named =
    let group : key ≡ g = ap (λ o. option_map_or (λ (m : Membership). m.group) o 0) e in
    let session : key ≡ s = ap (λ o. option_map_or (λ (m : Membership). m.session) o 0) e in
    (subst (λ (i : ℕ). is_used_at b i ≡ true) group own, subst (λ (i : ℕ). is_used_at b i ≡ true) session own)
joined-named b members (Some p) key g s e own named = named p (record { group = g; session = s }) e

no_and : (b : Bool) → one_if (b && false) ≡ 0
no_and true = refl
no_and false = refl

module _ (b c : Numbering) (key space : ℕ) (numbers : List ℕ) (fresh : identifier_at b key ≡ None) (named : identifier_at c key ≡ Some (new_identifier space numbers))
    (others : (j : ℕ) → j ≢ key → identifier_at c j ≡ identifier_at b j) where
  apart : (j : ℕ) → IsSome (identifier_at b j) → j ≢ key
  apart j some same = absurd (let z : false ≡ true = sym (ap is_some (ap (identifier_at b) same ∙ fresh)) ∙ some in cc)

  -- who was there is there
  pub drawn-there : (j : ℕ) → IsSome (identifier_at b j) → IsSome (identifier_at c j)
  drawn-there j some = ap is_some (others j (apart j some)) ∙ some

  -- one use more, as a task
  pub drawn-uses : (k : Kind) (i : ℕ) → uses_at c k i ≡ uses_at b k i + one_if ((i == key) && is_kind k AsTask)
  drawn-uses k i = elim (cases_eq i key) [
    | inl same ↦
        (let on : (i == key) ≡ true = eq-eqb i key same in
        let now : uses_at c k i ≡ uses k (new_identifier space numbers) = ap (uses_at c k) same ∙ ap (λ o. option_map_or (uses k) o 0) named in
        let was : uses_at b k i ≡ 0 = ap (uses_at b k) same ∙ ap (λ o. option_map_or (uses k) o 0) fresh in
        let one = ap (λ z. one_if (z && is_kind k AsTask)) on in
        let new = first_use k in
        omega (arith, now, was, one, new))
    | inr differs ↦
        (let off : (i == key) ≡ false = grind (arith, differs) in
        let same = ap (λ o. option_map_or (uses k) o 0) (others i differs) in
        let one = ap (λ z. one_if (z && is_kind k AsTask)) off in
        omega (arith, same, one))
  ]
    where
      first_use : (k : Kind) → uses k (new_identifier space numbers) ≡ one_if (is_kind k AsTask)
      first_use AsTask = refl
      first_use Group = refl
      first_use Session = refl

  -- still few
  pub drawn-few : ((k : Kind) (i : ℕ) → uses_at b k i ≤ 1073741824) → (k : Kind) (i : ℕ) → uses_at c k i ≤ 1073741824
  drawn-few few k i = elim (cases_eq i key) [
    | inl same ↦
        (let was : uses_at b k i ≡ 0 = ap (uses_at b k) same ∙ ap (λ o. option_map_or (uses k) o 0) fresh in
        let more = drawn-uses k i in
        let one = at_most_one ((i == key) && is_kind k AsTask) in
        omega (arith, was, more, one))
    | inr differs ↦
        (let same = ap (λ o. option_map_or (uses k) o 0) (others i differs) in
        let f = few k i in
        omega (arith, same, f))
  ]
    where
      at_most_one : (b : Bool) → one_if b ≤ 1
      at_most_one true = omega arith
      at_most_one false = omega arith

-- ranks stay where those who were there are what they were, on the paths that were there
pub ranks-born : (b c : Numbering) (old new : TreeOfTasks) (key : ℕ) → identifier_at b key ≡ None → ((j : ℕ) → j ≢ key → bare_at c j ≡ bare_at b j) → ((p : ℕ) → 0 < length (path_at b p) → path_at c p ≡ path_at b p)
    → ((i : ℕ) (u : Identifier) → identifier_at b i ≡ Some u → (0 < length u.numbers) × (length u.numbers ≡ length (path_at b u.space)))
    → ((k : ℕ) → rank_of new k ≡ rank_of old k)
    → ((k p r : ℕ) → rank_of old k ≡ Some (p, r) → (IsSome (identifier_at b k)) × (IsSome (identifier_at b p)))
    → AreRanks b old → AreRanks c new
ranks-born b c old new key fresh names paths full same there ranks k p r e u is =
    let before : rank_of old k ≡ Some (p, r) = sym (same k) ∙ e in
    let both = there k p r before in
    let x = held (identifier_at b p) both.1 in
    let y = held (identifier_at b k) both.0 in
    let p_apart : p ≢ key = λ z. absurd (let f : false ≡ true = sym (ap is_some (ap (identifier_at b) z ∙ fresh)) ∙ both.1 in cc) in
    let k_apart : k ≢ key = λ z. absurd (let f : false ≡ true = sym (ap is_some (ap (identifier_at b) z ∙ fresh)) ∙ both.0 in cc) in
    let space : x.0.space ≡ u.space = ap (λ (o : Option Identifier). option_map_or (λ v. v.space) o 0) (sym (ap (option_map bare) x.1) ∙ sym (names p p_apart) ∙ ap (option_map bare) is) in
    number y.0 y.1 k_apart u.space ∙ ap (number_of b k) (sym space) ∙ ranks k p r before x.0 x.1
  where
    number : (v : Identifier) → identifier_at b k ≡ Some v → k ≢ key → (s : ℕ) → number_of c k s ≡ number_of b k s
    number v is differs s = go (identifier_at c k) refl (names k differs ∙ ap (option_map bare) is)
      where
        go : (o : Option Identifier) → identifier_at c k ≡ o → option_map bare o ≡ Some (bare v) → number_of c k s ≡ number_of b k s
        go None e z = absurd (cc)
        go (Some w) e z =
            let same : bare w ≡ bare v = ap (λ o. option_map_or (λ x. x) o (bare w)) z in
            let f = full k v is in
            let long : 0 < length (path_at b v.space) = (let a = f.0 in let l = f.1 in omega (arith, a, l)) in
            ap (number_in (path_at c) s) e
            ∙ ap (λ q. beside s (path_at c q) w.numbers) (ap (λ (x : Identifier). x.space) same)
            ∙ ap (λ q. beside s q w.numbers) (paths v.space long)
            ∙ ap (beside s (path_at b v.space)) (ap (λ (x : Identifier). x.numbers) same)
            ∙ sym (ap (number_in (path_at b) s) is)

-- a new task is in a group and a session
pub joined-some : (members : List (Option Membership)) (from : Option ℕ) (key : ℕ) → ((p : ℕ) → from ≡ Some p → IsSome (membership_at members p)) → is_some (joins members from key) ≡ true
joined-some members None key there = refl
joined-some members (Some p) key there = there p refl

-- the task came, and all parts agree
pub born : (s s' : Store) → IsStore s → (b : Numbering) (key : ℕ) (from : Option ℕ) (task : Task) → task_at s.tree key ≡ None → membership_at s.members key ≡ None
    → key < length s.tree.tasks → key < length s.members → lives task ≡ true → ((p : ℕ) → from ≡ Some p → IsSome (membership_at s.members p))
    → ((k : Kind) (i : ℕ) → uses_at b k i ≡ uses_at s.numbering k i + one_if ((i == key) && is_kind k AsTask))
    → ((k : Kind) (i : ℕ) → uses_at s'.numbering k i ≡ uses_at b k i + use_of (joins s.members from key) k i)
    → s'.tree.tasks ≡ slice_set s.tree.tasks key (Some task) → s'.members ≡ slice_set s.members key (joins s.members from key) → s'.threads ≡ s.threads
    → ChangesHome s.charges s'.charges task.home (option_map (λ (h : Home). record h { live = h.live + 1 }) (home_at s.charges task.home)) → stands s.charges task.home ≡ true
    → all_tasks s'.charges ≡ all_tasks s.charges + 1 → AreRanks s'.numbering s'.tree → IsStore s'
born s s' w b key from task vacant free task_room member_room live there drawn settled tasks members threads charged up all ranks =
    IsStore-changed s s' w key (Some task) (joins s.members from key) (record {
      tasks = tasks;
      members = members;
      threads = ap (λ t. t.threads) threads;
      left = λ p differs. ap (λ t. left_at t p) threads;
      marks = λ e. live;
      task_room = task_room;
      member_room = member_room;
      both = joined-some s.members from key there;
      as_task = λ i.
          let x = drawn AsTask i in
          let y = settled AsTask i in
          let z = ap (λ o. one_if ((i == key) && is_some o)) vacant in
          let n = no_and (i == key) in
          omega (arith, x, y, z, n);
      as_group = λ i.
          let x = drawn Group i in
          let y = settled Group i in
          let z = ap (λ o. one_if (is_in_group i o)) free in
          let n = no_and (i == key) in
          omega (arith, x, y, z, n);
      as_session = λ i.
          let x = drawn Session i in
          let y = settled Session i in
          let z = ap (λ o. one_if (is_in_session i o)) free in
          let n = no_and (i == key) in
          omega (arith, x, y, z, n);
      live = λ c.
          let z = ap (λ o. one_if (lives_in c o)) vacant in
          let h = (homes.one-came s.charges s'.charges task charged live up c).0 in
          let m = alike c in
          omega (arith, z, h, m);
      zombies = λ c.
          let z = ap (λ o. one_if (waits_in c o)) vacant in
          let h = (homes.one-came s.charges s'.charges task charged live up c).1 in
          let m = alike c in
          omega (arith, z, h, m);
      all = let z = ap (λ o. one_if (is_some o)) vacant in omega (arith, z, all);
      ranks = ranks;
    })
  where
    -- a new process has no mark
    alike : (c : ℕ) → one_if (left_at s'.threads key && lives_in c (Some task)) ≡ left_in s c key
    alike c =
        ap (λ t. one_if (left_at t key && lives_in c (Some task))) threads
        ∙ unmarked (left_at s.threads key) (stays s w key (ap has_live vacant)) (lives_in c (Some task)) (lives_in c (task_at s.tree key))

-- the uses where one identifier came, for a task
abbrev pub OneMore : Numbering → Numbering → ℕ → Type 0
OneMore b c key = (k : Kind) (i : ℕ) → uses_at c k i ≡ uses_at b k i + one_if ((i == key) && is_kind k AsTask)

pub drawn-bare : (b c : Numbering) (key : ℕ) → ((j : ℕ) → j ≢ key → identifier_at c j ≡ identifier_at b j) → (j : ℕ) → j ≢ key → bare_at c j ≡ bare_at b j
drawn-bare b c key others j differs = ap (option_map bare) (others j differs)

-- where no identifier is, no task is
pub no_task : (s : Store) → IsStore s → (key : ℕ) → identifier_at s.numbering key ≡ None → (task_at s.tree key ≡ None) × (membership_at s.members key ≡ None)
no_task s w key fresh =
    let none : one_if (is_some (task_at s.tree key)) ≡ 0 = sym (w.tasks key) ∙ ap (λ o. option_map_or (uses AsTask) o 0) fresh in
    let vacant = empty (task_at s.tree key) none in
    (vacant, nothing (membership_at s.members key) (w.members key ∙ ap is_some vacant))
  where
    empty : {X : Type 0} (o : Option X) → one_if (is_some o) ≡ 0 → o ≡ None
    empty None e = refl
    empty (Some x) e = absurd (omega (arith, e))

-- who is a task has an identifier
pub task_named : (s : Store) → IsStore s → (k : ℕ) → is_some (task_at s.tree k) ≡ true → IsSome (identifier_at s.numbering k)
task_named s w k on = go (identifier_at s.numbering k) refl
  where
    go : (o : Option Identifier) → identifier_at s.numbering k ≡ o → is_some (identifier_at s.numbering k) ≡ true
    go None e = absurd (let z = ap (λ o. option_map_or (uses AsTask) o 0) e in let t = w.tasks k ∙ ap one_if on in omega (arith, z, t))
    go (Some u) e = ap is_some e

-- who has a rank is a task, and so is its parent
pub ranked-there : (s : Store) → IsStore s → ((k : ℕ) → option_map (λ (m : ℕ × ℕ). m.0) (rank_of s.tree k) ≡ waits_for (task_at s.tree k) (parent_of s.tree k))
    → (k p r : ℕ) → rank_of s.tree k ≡ Some (p, r) → ((k p : ℕ) → parent_of s.tree k ≡ Some p → IsSome (task_at s.tree p)) → IsSome (identifier_at s.numbering k) × IsSome (identifier_at s.numbering p)
ranked-there s w waiting k p r e parents =
    (task_named s w k (ranked_task s.tree k (p, r) (waiting k) e), task_named s w p (parents k p (of (task_at s.tree k) (sym (ap (option_map (λ (m : ℕ × ℕ). m.0)) e) ∙ waiting k))))
  where
    of : (o : Option Task) → Some p ≡ waits_for o (parent_of s.tree k) → parent_of s.tree k ≡ Some p
    of None z = absurd (cc)
    of (Some t) z = split (lives t) z
      where
        split : (b : Bool) → Some p ≡ (if not b then parent_of s.tree k else None) → parent_of s.tree k ≡ Some p
        split true z = absurd (cc)
        split false z = sym z

pub parent_task : (a b : Store) → IsSame a b → ((k p : ℕ) → parent_of a.tree k ≡ Some p → IsSome (task_at a.tree p)) → (k p : ℕ) → parent_of b.tree k ≡ Some p → IsSome (task_at b.tree p)
parent_task a b same parents k p e = ap is_some (same.tasks p) ∙ parents k p (sym (same.parents k) ∙ e)

-- a task that it comes from is in a group and a session
pub one_parent : (s : Store) → IsStore s → (from : ℕ) → is_some (task_at s.tree from) ≡ true → (p : ℕ) → Some from ≡ Some p → IsSome (membership_at s.members p)
one_parent s w from on p e = subst (λ (q : ℕ). IsSome (membership_at s.members q)) (ap (λ o. option_map_or (λ (n : ℕ). n) o 0) e) (w.members from ∙ on)

-- a draw keeps the path
pub path_moved : (path numbers : List ℕ) (s : ℕ) (o : Option Namespace) → option_map_or (λ t. t.path) (option_map (cursor_moved path numbers s) o) [] ≡ option_map_or (λ t. t.path) o []
path_moved path numbers s None = refl
path_moved path numbers s (Some t) = refl

-- a namespace with a path is not a new one
pub other_space : (b : Numbering) (new p : ℕ) → namespace_at b new ≡ None → 0 < length (path_at b p) → p ≢ new
other_space b new p fresh long same = absurd (let z : length (path_at b p) ≡ 0 = ap (λ q. length (path_at b q)) same ∙ ap (λ o. length (option_map_or (λ t. t.path) o [])) fresh in omega (arith, z, long))
