-- The parts agree after a change at one key.
use Rattle.std.proofs.Common.{◌≡◌, ◌≢◌, ◌⊎◌, inl, inr, ℕ, ◌+◌, ◌<◌, ◌==◌, ◌&&◌, not, Bool, true, false, List, length, get_or, set, count_by, Option, Some, None, option_map, is_some, IsSome, if◌then◌else◌, cond, refl, sym, ap, ◌∙◌, arith}
use Rattle.std.specs.Prelude.{slice_set, slice_index_or}
use Rattle.std.specs.Option.{option_map_or}
use Rattle.std.proofs.lemmas.List.{get_or-set_same, get_or-set_other, get_or_past, set-get_or}
use Rattle.std.proofs.lemmas.List.Sums.{sum_by-set}
use Rattle.std.proofs.lemmas.Bool.{cases_eq, eq-eqb, eqb-true}
use Rattle.pid_types.specs.declared.call.Kind.TheVariants.{Task as AsTask, Group, Session}
use Rattle.pid_numbers.specs.Numbering.{Numbering, Identifier, identifier_at, number_of}
use Rattle.task_tree.specs.declared.Task.{Task}
use Rattle.process_threads.specs.Threads.{left_at}
use Rattle.task_tree.specs.Tree.{TreeOfTasks, task_at, parent_of, rank_of, waits_for, has_live, handed, lives}
use Rattle.groups_sessions.specs.Membership.{Membership, membership_at}
use Rattle.pids_charge.specs.Charges.{live_at, zombies_at, all_tasks}
use Rattle.task_table.proofs.Less.{AreRanks}
use Rattle.task_table.specs.Store.{Store, uses_at, one_if, is_in_group, is_in_session, lives_in, waits_in, is_homed, left_in, left_homed, IsStore}
use Rattle.task_table.proofs.Marks as marks

-- one element changed: the count changes by what it is and was
pub count-set : {X : Type 0} (p : X → Bool) (xs : List X) (k : ℕ) (y d : X) → k < length xs → count_by p (set xs k y) + one_if (p (get_or xs k d)) ≡ count_by p xs + one_if (p y)
count-set p xs k y d lt = sum_by-set (λ x. cond (p x) 1 0) xs k y d lt

-- what a change at one key, to another task, another membership and another mark, is in each part
pub record IsChange (s s' : Store) (key : ℕ) (t : Option Task) (m : Option Membership) : Type 0 where
  pub tasks : s'.tree.tasks ≡ slice_set s.tree.tasks key t
  pub members : s'.members ≡ slice_set s.members key m
  pub threads : s'.threads.threads ≡ s.threads.threads
  pub left : (p : ℕ) → p ≢ key → left_at s'.threads p ≡ left_at s.threads p
  pub marks : left_at s'.threads key ≡ true → has_live t ≡ true
  pub task_room : key < length s.tree.tasks
  pub member_room : key < length s.members
  pub both : is_some m ≡ is_some t
  pub as_task : (i : ℕ) → uses_at s'.numbering AsTask i + one_if ((i == key) && is_some (task_at s.tree key)) ≡ uses_at s.numbering AsTask i + one_if ((i == key) && is_some t)
  pub as_group : (i : ℕ) → uses_at s'.numbering Group i + one_if (is_in_group i (membership_at s.members key)) ≡ uses_at s.numbering Group i + one_if (is_in_group i m)
  pub as_session : (i : ℕ) → uses_at s'.numbering Session i + one_if (is_in_session i (membership_at s.members key)) ≡ uses_at s.numbering Session i + one_if (is_in_session i m)
  pub live : (c : ℕ) → live_at s'.charges c + one_if (lives_in c (task_at s.tree key)) + one_if (left_at s'.threads key && lives_in c t)
      ≡ live_at s.charges c + one_if (lives_in c t) + left_in s c key
  pub zombies : (c : ℕ) → zombies_at s'.charges c + one_if (waits_in c (task_at s.tree key)) + left_in s c key
      ≡ zombies_at s.charges c + one_if (waits_in c t) + one_if (left_at s'.threads key && lives_in c t)
  pub all : all_tasks s'.charges + one_if (is_some (task_at s.tree key)) ≡ all_tasks s.charges + one_if (is_some t)
  pub ranks : (k p r : ℕ) → rank_of s'.tree k ≡ Some (p, r) → (u : Identifier) → identifier_at s'.numbering p ≡ Some u → number_of s'.numbering k u.space ≡ Some r

-- the count over a list with one change
counted : {X : Type 0} (p : X → Bool) (xs ys : List X) (k : ℕ) (y d : X) → ys ≡ slice_set xs k y → k < length xs → (was now : ℕ) → was ≡ count_by p xs
    → now + one_if (p (get_or xs k d)) ≡ was + one_if (p y) → now ≡ count_by p ys
counted p xs ys k y d is lt was now before change =
    let e = count-set p xs k y d lt in
    let f = ap (count_by p) is in
    omega (arith, e, f, before, change)

pub IsStore-changed : (s s' : Store) → IsStore s → (key : ℕ) (t : Option Task) (m : Option Membership) → IsChange s s' key t m → IsStore s'
IsStore-changed s s' w key t m c = record {
  tasks = λ i. task_is i (cases_eq i key);
  groups = λ i. counted (is_in_group i) s.members s'.members key m None c.members c.member_room _ _ (w.groups i) (c.as_group i);
  sessions = λ i. counted (is_in_session i) s.members s'.members key m None c.members c.member_room _ _ (w.sessions i) (c.as_session i);
  members = λ k. member_is k (cases_eq k key);
  live = λ h.
      let e = count-set (lives_in h) s.tree.tasks key t None c.task_room in
      let f = ap (count_by (lives_in h)) c.tasks in
      let a = w.live h in
      let b = c.live h in
      let m = marked h in
      let d = ap (count_by (is_homed h)) c.threads in
      omega (arith, e, f, a, b, m, d);
  zombies = λ h.
      let e = count-set (waits_in h) s.tree.tasks key t None c.task_room in
      let f = ap (count_by (waits_in h)) c.tasks in
      let a = w.zombies h in
      let b = c.zombies h in
      let m = marked h in
      omega (arith, e, f, a, b, m);
  all =
      let e = count-set is_some s.tree.tasks key t None c.task_room in
      let f = ap (count_by is_some) c.tasks in
      let a = w.all in
      let b = c.all in
      let d = ap (count_by is_some) c.threads in
      omega (arith, e, f, a, b, d);
  marks = λ p. mark_is p (cases_eq p key);
  ranks = c.ranks;
}
  where
    task_here : task_at s'.tree key ≡ t
    task_here = ap (λ l. slice_index_or l key None) c.tasks ∙ get_or-set_same s.tree.tasks key t None c.task_room

    task_other : (k : ℕ) → k ≢ key → task_at s'.tree k ≡ task_at s.tree k
    task_other k differs = ap (λ l. slice_index_or l k None) c.tasks ∙ get_or-set_other s.tree.tasks key k t None differs

    -- how many are marked changes by what the process at the key counts
    marked : (h : ℕ) → left_homed s' h + left_in s h key ≡ left_homed s h + one_if (left_at s'.threads key && lives_in h t)
    marked h = marks.changed s s' key c.left task_other h ∙ ap (λ o. left_homed s h + one_if (left_at s'.threads key && lives_in h o)) task_here

    mark_is : (p : ℕ) → (p ≡ key) ⊎ (p ≢ key) → left_at s'.threads p ≡ true → has_live (task_at s'.tree p) ≡ true
    mark_is p (inl same) e = ap (λ k. has_live (task_at s'.tree k)) same ∙ ap has_live task_here ∙ c.marks (sym (ap (left_at s'.threads) same) ∙ e)
    mark_is p (inr differs) e = ap has_live (task_other p differs) ∙ w.marks p (sym (c.left p differs) ∙ e)

    task_is : (i : ℕ) → (i ≡ key) ⊎ (i ≢ key) → uses_at s'.numbering AsTask i ≡ one_if (is_some (task_at s'.tree i))
    task_is i (inl same) =
        let on : (i == key) ≡ true = eq-eqb i key same in
        let change = c.as_task i in
        let was = w.tasks i ∙ ap (λ k. one_if (is_some (task_at s.tree k))) same in
        let now : one_if (is_some (task_at s'.tree i)) ≡ one_if (is_some t) = ap (λ k. one_if (is_some (task_at s'.tree k))) same ∙ ap (λ o. one_if (is_some o)) task_here in
        let a = ap (λ b. one_if (b && is_some (task_at s.tree key))) on in
        let b = ap (λ b. one_if (b && is_some t)) on in
        omega (arith, change, was, now, a, b)
    task_is i (inr differs) =
        let off : (i == key) ≡ false = grind (arith, differs) in
        let change = c.as_task i in
        let was = w.tasks i in
        let now = ap (λ o. one_if (is_some o)) (task_other i differs) in
        let a = ap (λ b. one_if (b && is_some (task_at s.tree key))) off in
        let b = ap (λ b. one_if (b && is_some t)) off in
        omega (arith, change, was, now, a, b)

    member_is : (k : ℕ) → (k ≡ key) ⊎ (k ≢ key) → is_some (membership_at s'.members k) ≡ is_some (task_at s'.tree k)
    member_is k (inl same) =
        ap (λ j. is_some (membership_at s'.members j)) same
        ∙ ap is_some (ap (λ l. slice_index_or l key None) c.members ∙ get_or-set_same s.members key m None c.member_room)
        ∙ c.both ∙ sym (ap (λ j. is_some (task_at s'.tree j)) same ∙ ap is_some task_here)
    member_is k (inr differs) =
        ap is_some (ap (λ l. slice_index_or l k None) c.members ∙ get_or-set_other s.members key k m None differs)
        ∙ w.members k ∙ sym (ap is_some (task_other k differs))

pub in_range : {X : Type 0} (xs : List (Option X)) (k : ℕ) → IsSome (slice_index_or xs k None) → k < length xs
in_range {X = X} xs k some = go (slice_index_or xs k None) refl some
  where
    go : (o : Option X) → slice_index_or xs k None ≡ o → IsSome o → k < length xs
    go None e some = absurd (cc)
    go (Some x) e some = grind (arith, e, get_or_past xs k None)

-- a task that is there has a membership
pub member_there : (s : Store) → IsStore s → (key : ℕ) (task : Task) → task_at s.tree key ≡ Some task → IsSome (membership_at s.members key)
member_there s w key task e = w.members key ∙ ap is_some e

-- another task at a key, with the same membership, and another mark
pub remarked : (s s' : Store) → IsStore s → (key : ℕ) (old new : Task) → task_at s.tree key ≡ Some old
    → s'.numbering ≡ s.numbering → s'.members ≡ s.members → s'.threads.threads ≡ s.threads.threads → s'.tree.tasks ≡ slice_set s.tree.tasks key (Some new)
    → ((p : ℕ) → p ≢ key → left_at s'.threads p ≡ left_at s.threads p) → (left_at s'.threads key ≡ true → lives new ≡ true)
    → ((c : ℕ) → live_at s'.charges c + one_if (lives_in c (Some old)) + one_if (left_at s'.threads key && lives_in c (Some new))
    ≡ live_at s.charges c + one_if (lives_in c (Some new)) + one_if (left_at s.threads key && lives_in c (Some old)))
    → ((c : ℕ) → zombies_at s'.charges c + one_if (waits_in c (Some old)) + one_if (left_at s.threads key && lives_in c (Some old))
    ≡ zombies_at s.charges c + one_if (waits_in c (Some new)) + one_if (left_at s'.threads key && lives_in c (Some new)))
    → all_tasks s'.charges ≡ all_tasks s.charges → AreRanks s'.numbering s'.tree → IsStore s'
remarked s s' w key old new there numbering members threads tasks left mark live zombies all ranks =
    IsStore-changed s s' w key (Some new) (membership_at s.members key) (record {
      tasks = tasks;
      members = members ∙ sym (set-get_or s.members key None);
      threads = threads;
      left = left;
      marks = mark;
      task_room = in_range s.tree.tasks key (ap is_some there);
      member_room = in_range s.members key (member_there s w key old there);
      both = w.members key ∙ ap is_some there;
      as_task = λ i. let a = ap (λ b. uses_at b AsTask i) numbering in let b = ap (λ o. one_if ((i == key) && is_some o)) there in omega (arith, a, b);
      as_group = λ i. let a = ap (λ b. uses_at b Group i) numbering in omega (arith, a);
      as_session = λ i. let a = ap (λ b. uses_at b Session i) numbering in omega (arith, a);
      live = λ c.
          let a = live c in
          let b = ap (λ o. one_if (lives_in c o)) there in
          let d = ap (λ o. one_if (left_at s.threads key && lives_in c o)) there in
          omega (arith, a, b, d);
      zombies = λ c.
          let a = zombies c in
          let b = ap (λ o. one_if (waits_in c o)) there in
          let d = ap (λ o. one_if (left_at s.threads key && lives_in c o)) there in
          omega (arith, a, b, d);
      all = let b = ap (λ o. one_if (is_some o)) there in omega (arith, all, b);
      ranks = ranks;
    })

-- and the same mark, which counts alike
pub retasked : (s s' : Store) → IsStore s → (key : ℕ) (old new : Task) → task_at s.tree key ≡ Some old
    → s'.numbering ≡ s.numbering → s'.members ≡ s.members → s'.threads ≡ s.threads → s'.tree.tasks ≡ slice_set s.tree.tasks key (Some new)
    → (left_at s.threads key ≡ true → lives new ≡ true)
    → ((c : ℕ) → one_if (left_at s.threads key && lives_in c (Some new)) ≡ one_if (left_at s.threads key && lives_in c (Some old)))
    → ((c : ℕ) → live_at s'.charges c + one_if (lives_in c (Some old)) ≡ live_at s.charges c + one_if (lives_in c (Some new)))
    → ((c : ℕ) → zombies_at s'.charges c + one_if (waits_in c (Some old)) ≡ zombies_at s.charges c + one_if (waits_in c (Some new)))
    → all_tasks s'.charges ≡ all_tasks s.charges → AreRanks s'.numbering s'.tree → IsStore s'
retasked s s' w key old new there numbering members threads tasks mark alike live zombies all ranks =
    remarked s s' w key old new there numbering members (ap (λ t. t.threads) threads) tasks (λ p differs. ap (λ t. left_at t p) threads)
    (λ e. mark (sym (ap (λ t. left_at t key) threads) ∙ e))
    (λ c. let a = live c in let b = alike c in let d = ap (λ t. one_if (left_at t key && lives_in c (Some new))) threads in omega (arith, a, b, d))
    (λ c. let a = zombies c in let b = alike c in let d = ap (λ t. one_if (left_at t key && lives_in c (Some new))) threads in omega (arith, a, b, d))
    all ranks

pub first_of : (p q r t : ℕ) → ◌≡◌ {A = Option (ℕ × ℕ)} (Some (p, r)) (Some (q, t)) → p ≡ q
first_of p q r t e = ap (λ (o : Option (ℕ × ℕ)). option_map_or (λ (m : ℕ × ℕ). m.0) o 0) e

pub held_of : {X Y : Type 0} (f : X → Y) (y : Y) (o : Option X) → option_map f o ≡ Some y → (x : X) × (o ≡ Some x)
held_of f y None e = absurd (cc)
held_of f y (Some x) e = (x, refl)

pub field_is : {X Y : Type 0} (f : X → Y) (x : X) (y : Y) (o : Option X) → o ≡ Some x → option_map f o ≡ Some y → f x ≡ y
field_is f x y o is e = ap (λ o. option_map_or (λ z. z) o (f x)) (sym (ap (option_map f) is) ∙ e)

-- the home and the life tell where a task counts
pub lives_alike : (c : ℕ) (s t : Task) → s.home ≡ t.home → s.life ≡ t.life → lives_in c (Some s) ≡ lives_in c (Some t)
lives_alike c s t home life = ap (λ h. (h == c) && lives s) home ∙ ap (λ l. (t.home == c) && lives (record s { life = l })) life

pub lives_same : (c : ℕ) (s t : Task) → s.home ≡ t.home → s.life ≡ t.life → one_if (lives_in c (Some s)) ≡ one_if (lives_in c (Some t))
lives_same c s t home life = ap one_if (lives_alike c s t home life)

pub waits_same : (c : ℕ) (s t : Task) → s.home ≡ t.home → s.life ≡ t.life → one_if (waits_in c (Some s)) ≡ one_if (waits_in c (Some t))
waits_same c s t home life = ap (λ h. one_if ((h == c) && not (lives s))) home ∙ ap (λ l. one_if ((t.home == c) && not (lives (record s { life = l })))) life

-- a live task waits for nobody
pub no_rank : (tree : TreeOfTasks) (key : ℕ) (task : Task) → task_at tree key ≡ Some task → lives task ≡ true
    → option_map (λ (m : ℕ × ℕ). m.0) (rank_of tree key) ≡ waits_for (task_at tree key) (parent_of tree key) → (m : ℕ × ℕ) → rank_of tree key ≢ Some m
no_rank tree key task there live waiting m e =
    let a : Some m.0 ≡ None = sym (ap (option_map (λ (m : ℕ × ℕ). m.0)) e) ∙ waiting ∙ ap (λ o. waits_for o (parent_of tree key)) there ∙ ap (λ b. if not b then parent_of tree key else None) live in
    absurd (cc)

-- a live task is one at its home
lives_here : (s : Store) (key : ℕ) (task : Task) → task_at s.tree key ≡ Some task → lives task ≡ true → one_if (lives_in task.home (task_at s.tree key)) ≡ 1
lives_here s key task there live =
    ap (λ o. one_if (lives_in task.home o)) there ∙ ap (λ b. one_if (b && lives task)) (eq-eqb task.home task.home refl) ∙ ap (λ b. one_if (true && b)) live

-- the home of a live task whose first thread is there has a live task
pub live_some : (s : Store) → IsStore s → (key : ℕ) (task : Task) → task_at s.tree key ≡ Some task → lives task ≡ true → left_at s.threads key ≡ false
    → 0 < live_at s.charges task.home
live_some s w key task there live stays =
    let fewer = marks.fewer s task.home key (in_range s.tree.tasks key (ap is_some there)) (lives_here s key task there live) stays in
    let count = w.live task.home in
    omega (arith, fewer, count)

-- and where the first thread has left, a zombie
pub left_some : (s : Store) → IsStore s → (key : ℕ) (task : Task) → task_at s.tree key ≡ Some task → left_at s.threads key ≡ true
    → 0 < zombies_at s.charges task.home
left_some s w key task there left =
    let live : lives task ≡ true = sym (ap has_live there) ∙ w.marks key left in
    let here : left_in s task.home key ≡ 1 = ap (λ m. one_if (m && lives_in task.home (task_at s.tree key))) left ∙ lives_here s key task there live in
    let among = marks.among s task.home key (in_range s.tree.tasks key (ap is_some there)) in
    let count = w.zombies task.home in
    omega (arith, here, among, count)

pub ranks-finished : (b : Numbering) (old new : TreeOfTasks) (key rank : ℕ) → AreRanks b old
    → ((p : ℕ) → parent_of old key ≡ Some p → (u : Identifier) → identifier_at b p ≡ Some u → number_of b key u.space ≡ Some rank)
    → rank_of new key ≡ option_map (λ p. (p, rank)) (parent_of old key) → ((k : ℕ) → k ≢ key → rank_of new k ≡ rank_of old k) → AreRanks b new
ranks-finished b old new key rank ranks mine here others k p r e u is = go (cases_eq k key)
  where
    own : (o : Option ℕ) → parent_of old key ≡ o → option_map {U = ℕ × ℕ} (λ p. (p, rank)) o ≡ Some (p, r) → number_of b key u.space ≡ Some r
    own None none z = absurd (cc)
    own (Some q) some z =
        let same : q ≡ p = first_of q p rank r z in
        let ranked : rank ≡ r = ap (λ (o : Option (ℕ × ℕ)). option_map_or (λ (m : ℕ × ℕ). m.1) o 0) z in
        mine p (some ∙ ap Some same) u is ∙ ap Some ranked

    go : (k ≡ key) ⊎ (k ≢ key) → number_of b k u.space ≡ Some r
    go (inl same) = ap (λ j. number_of b j u.space) same ∙ own (parent_of old key) refl (sym here ∙ sym (ap (rank_of new) same) ∙ e)
    go (inr differs) = ranks k p r (sym (others k differs) ∙ e) u is

-- the waiting children of one task are another's, in whose own namespace they have the same numbers
pub ranks-handed : (b : Numbering) (old new : TreeOfTasks) (from to : ℕ) (u v : Identifier) → identifier_at b from ≡ Some u
    → identifier_at b to ≡ Some v → u.space ≡ v.space → ((k : ℕ) → rank_of new k ≡ option_map (λ (m : ℕ × ℕ). (handed from to m.0, m.1)) (rank_of old k))
    → AreRanks b old → AreRanks b new
ranks-handed b old new from to u v at_from at_to space each ranks k p r e w is = go (rank_of old k) refl (sym (each k) ∙ e)
  where
    own : (q : ℕ) → rank_of old k ≡ Some (q, r) → (test : Bool) → (q == from) ≡ test → (if test then to else q) ≡ p → number_of b k w.space ≡ Some r
    own q was false off same = ranks k q r was w (ap (identifier_at b) same ∙ is)
    own q was true on same =
        let mine : v.space ≡ w.space = ap (λ (o : Option Identifier). option_map_or (λ x. x.space) o 0) (sym at_to ∙ ap (identifier_at b) same ∙ is) in
        ap (number_of b k) (sym (space ∙ mine)) ∙ ranks k q r was u (ap (identifier_at b) (eqb-true q from on) ∙ at_from)

    go : (o : Option (ℕ × ℕ)) → rank_of old k ≡ o → option_map {U = ℕ × ℕ} (λ (m : ℕ × ℕ). (handed from to m.0, m.1)) o ≡ Some (p, r)
        → number_of b k w.space ≡ Some r
    go None was z = absurd (cc)
    go (Some (q, t)) was z =
        let rank : t ≡ r = ap (λ (o : Option (ℕ × ℕ)). option_map_or (λ (m : ℕ × ℕ). m.1) o t) z in
        own q (was ∙ ap (λ n. Some (q, n)) rank) (q == from) refl (first_of (handed from to q) p t r z)

-- and a zombie's home has a zombie
pub zombie_some : (s : Store) → IsStore s → (key : ℕ) (task : Task) → task_at s.tree key ≡ Some task → lives task ≡ false → 0 < zombies_at s.charges task.home
zombie_some s w key task there ended =
    let room = in_range s.tree.tasks key (ap is_some there) in
    let e = count-set (waits_in task.home) s.tree.tasks key None None room in
    let here : one_if (waits_in task.home (task_at s.tree key)) ≡ 1 = ap (λ o. one_if (waits_in task.home o)) there ∙ ap (λ b. one_if (b && not (lives task))) (eq-eqb task.home task.home refl) ∙ ap (λ b. one_if (true && not b)) ended in
    let count = w.zombies task.home in
    omega (arith, e, here, count)

-- a task is one of its home's, a live one or a zombie
pub task_some : (s : Store) → IsStore s → (key : ℕ) (task : Task) → task_at s.tree key ≡ Some task
    → (0 < live_at s.charges task.home) ⊎ (0 < zombies_at s.charges task.home)
task_some s w key task there = go (lives task) refl (left_at s.threads key) refl
  where
    go : (b : Bool) → lives task ≡ b → (m : Bool) → left_at s.threads key ≡ m → (0 < live_at s.charges task.home) ⊎ (0 < zombies_at s.charges task.home)
    go true live false stays = inl (live_some s w key task there live stays)
    go true live true left = inr (left_some s w key task there left)
    go false ended m mark = inr (zombie_some s w key task there ended)
