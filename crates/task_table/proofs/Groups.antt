-- A task in another group, in another session.
use Rattle.std.proofs.Common.{◌≡◌, ◌≢◌, ◌⊎◌, inl, inr, ℕ, ◌+◌, ◌<◌, ◌≤◌, ◌==◌, ◌&&◌, Bool, true, false, List, [], ◌∷◌, zero, suc, length, Option, Some, None, option_map, is_some, refl, sym, ap, ◌∙◌, arith}
use Rattle.std.specs.Prelude.{slice_set, slice_index_or}
use Rattle.std.specs.Option.{option_map_or}
use Rattle.std.proofs.lemmas.Bool.{cases_eq, eq-eqb}
use Rattle.std.proofs.lemmas.List.{set-get_or, get_or-set_other}
use Rattle.std.proofs.lemmas.List.Sums.{count_by-le-length}
use Rattle.pid_types.specs.declared.call.Kind.{Kind}
use Rattle.pid_types.specs.declared.call.Kind.TheVariants.{Task as AsTask, Group, Session}
use Rattle.pid_numbers.specs.Numbering.{Numbering}
use Rattle.process_threads.specs.Threads.{left_at}
use Rattle.task_tree.specs.Tree.{TreeOfTasks, task_at}
use Rattle.task_tree.specs.declared.Task.{Task}
use Rattle.groups_sessions.specs.Membership.{Membership, membership_at, group_of, session_of}
use Rattle.pids_charge.specs.Charges.{live_at, zombies_at, all_tasks}
use Rattle.task_table.specs.Store.{Store, IsStore, uses_at, one_if, is_kind, is_in_group, is_in_session, lives_in, waits_in, left_in}
use Rattle.task_table.proofs.Less.{AreRanks}
use Rattle.task_table.proofs.Marks.{not-marked, unmarked}
use Rattle.task_table.proofs.Changes.{count-set, in_range, IsStore-changed}

pub flip : (m n : ℕ) → (m == n) ≡ (n == m)
flip m n = elim (cases_eq m n) [
  | inl same ↦ eq-eqb m n same ∙ sym (eq-eqb n m (sym same))
  | inr differs ↦ (let x : (m == n) ≡ false = grind (arith, differs) in let y : (n == m) ≡ false = grind (arith, differs) in x ∙ sym y)
]

-- one use of a kind is none of another
pub one_of : (b : Bool) → one_if (b && true) ≡ one_if b
one_of true = refl
one_of false = refl

pub none_of : (b : Bool) → one_if (b && false) ≡ 0
none_of true = refl
none_of false = refl

-- a member of a group is a use of it
pub group_used : (s : Store) → IsStore s → (key : ℕ) (m : Membership) → membership_at s.members key ≡ Some m → 0 < uses_at s.numbering Group m.group
group_used s w key m is =
    let e = count-set (is_in_group m.group) s.members key None None (in_range s.members key (ap is_some is)) in
    let here : one_if (is_in_group m.group (membership_at s.members key)) ≡ 1 = ap (λ o. one_if (is_in_group m.group o)) is ∙ ap one_if (eq-eqb m.group m.group refl) in
    let count = w.groups m.group in
    omega (arith, e, here, count)

-- a task of a session is a use of it
pub session_used : (s : Store) → IsStore s → (key : ℕ) (m : Membership) → membership_at s.members key ≡ Some m → 0 < uses_at s.numbering Session m.session
session_used s w key m is =
    let e = count-set (is_in_session m.session) s.members key None None (in_range s.members key (ap is_some is)) in
    let here : one_if (is_in_session m.session (membership_at s.members key)) ≡ 1 = ap (λ o. one_if (is_in_session m.session o)) is ∙ ap one_if (eq-eqb m.session m.session refl) in
    let count = w.sessions m.session in
    omega (arith, e, here, count)

-- no identifier is used as a group, or as a session, more often than there are keys
pub few_groups : (s : Store) → IsStore s → length s.members ≤ 1073741824 → (i : ℕ) → uses_at s.numbering Group i ≤ 1073741824
few_groups s w few i = let h = count_by-le-length (is_in_group i) s.members in let e = w.groups i in omega (arith, h, e, few)

pub few_sessions : (s : Store) → IsStore s → length s.members ≤ 1073741824 → (i : ℕ) → uses_at s.numbering Session i ≤ 1073741824
few_sessions s w few i = let h = count_by-le-length (is_in_session i) s.members in let e = w.sessions i in omega (arith, h, e, few)

-- the uses where a task went from one membership to another
abbrev pub UsesChange : Numbering → Numbering → Membership → Membership → Type 0
UsesChange b c m n = (k : Kind) (i : ℕ) → uses_at c k i + one_if ((i == m.group) && is_kind k Group) + one_if ((i == m.session) && is_kind k Session)
    ≡ uses_at b k i + one_if ((i == n.group) && is_kind k Group) + one_if ((i == n.session) && is_kind k Session)

-- a task in another group or session
pub rejoined : (s : Store) → IsStore s → (key : ℕ) (m n : Membership) → membership_at s.members key ≡ Some m → (b : Numbering)
    → UsesChange s.numbering b m n
    → (members : List (Option Membership)) → members ≡ slice_set s.members key (Some n) → AreRanks b s.tree
    → IsStore (record s { numbering = b; members = members })
rejoined s w key m n is b uses members changed ranks =
    IsStore-changed s (record s { numbering = b; members = members }) w key (task_at s.tree key) (Some n) (record {
      tasks = sym (set-get_or s.tree.tasks key None);
      members = changed;
      threads = refl;
      left = λ p differs. refl;
      marks = w.marks key;
      task_room = in_range s.tree.tasks key (sym (w.members key) ∙ ap is_some is);
      member_room = in_range s.members key (ap is_some is);
      both = sym (sym (w.members key) ∙ ap is_some is);
      as_task = λ i.
          let a = uses AsTask i in
          let x = none_of (i == m.group) in
          let y = none_of (i == m.session) in
          let z = none_of (i == n.group) in
          let t = none_of (i == n.session) in
          omega (arith, a, x, y, z, t);
      as_group = λ i.
          let a = uses Group i in
          let x = one_of (i == m.group) ∙ ap one_if (flip i m.group) in
          let y = none_of (i == m.session) in
          let z = one_of (i == n.group) ∙ ap one_if (flip i n.group) in
          let t = none_of (i == n.session) in
          let e = ap (λ o. one_if (is_in_group i o)) is in
          omega (arith, a, x, y, z, t, e);
      as_session = λ i.
          let a = uses Session i in
          let x = none_of (i == m.group) in
          let y = one_of (i == m.session) ∙ ap one_if (flip i m.session) in
          let z = none_of (i == n.group) in
          let t = one_of (i == n.session) ∙ ap one_if (flip i n.session) in
          let e = ap (λ o. one_if (is_in_session i o)) is in
          omega (arith, a, x, y, z, t, e);
      live = λ c. refl;
      zombies = λ c. refl;
      all = refl;
      ranks = ranks;
    })

-- the identifier of each task is left
pub task_left : (s : Store) → IsStore s → (b : Numbering) (m n : Membership)
    → UsesChange s.numbering b m n
    → (k : ℕ) → is_some (task_at s.tree k) ≡ true → 0 < uses_at b AsTask k
task_left s w b m n uses k on =
    let a = uses AsTask k in
    let x = none_of (k == m.group) in
    let y = none_of (k == m.session) in
    let z = none_of (k == n.group) in
    let u = none_of (k == n.session) in
    let t = w.tasks k ∙ ap one_if on in
    omega (arith, a, x, y, z, u, t)

-- the uses where a task went
abbrev pub UsesLeft : Numbering → Numbering → ℕ → Membership → Type 0
UsesLeft b c key m = (k : Kind) (i : ℕ) → uses_at c k i + one_if ((i == key) && is_kind k AsTask) + one_if ((i == m.group) && is_kind k Group) + one_if ((i == m.session) && is_kind k Session) ≡ uses_at b k i

-- a task is gone
pub left : (s s' : Store) → IsStore s → (key : ℕ) (task : Task) (m : Membership) → task_at s.tree key ≡ Some task → membership_at s.members key ≡ Some m
    → s'.tree.tasks ≡ slice_set s.tree.tasks key None → s'.members ≡ slice_set s.members key None → s'.threads ≡ s.threads → left_at s.threads key ≡ false
    → UsesLeft s.numbering s'.numbering key m
    → ((c : ℕ) → live_at s'.charges c + one_if (lives_in c (Some task)) ≡ live_at s.charges c)
    → ((c : ℕ) → zombies_at s'.charges c + one_if (waits_in c (Some task)) ≡ zombies_at s.charges c)
    → all_tasks s'.charges + 1 ≡ all_tasks s.charges → AreRanks s'.numbering s'.tree → IsStore s'
left s s' w key task m there is tasks members threads stays uses live zombies all ranks =
    IsStore-changed s s' w key None None (record {
      tasks = tasks;
      members = members;
      threads = ap (λ t. t.threads) threads;
      left = λ p differs. ap (λ t. left_at t p) threads;
      marks = λ e. not-marked (left_at s.threads key) stays (sym (ap (λ t. left_at t key) threads) ∙ e);
      task_room = in_range s.tree.tasks key (ap is_some there);
      member_room = in_range s.members key (ap is_some is);
      both = refl;
      as_task = λ i.
          let a = uses AsTask i in
          let x = one_of (i == key) in
          let y = none_of (i == m.group) in
          let z = none_of (i == m.session) in
          let e = ap (λ o. one_if ((i == key) && is_some o)) there in
          let f = none_of (i == key) in
          omega (arith, a, x, y, z, e, f);
      as_group = λ i.
          let a = uses Group i in
          let x = none_of (i == key) in
          let y = one_of (i == m.group) ∙ ap one_if (flip i m.group) in
          let z = none_of (i == m.session) in
          let e = ap (λ o. one_if (is_in_group i o)) is in
          omega (arith, a, x, y, z, e);
      as_session = λ i.
          let a = uses Session i in
          let x = none_of (i == key) in
          let y = none_of (i == m.group) in
          let z = one_of (i == m.session) ∙ ap one_if (flip i m.session) in
          let e = ap (λ o. one_if (is_in_session i o)) is in
          omega (arith, a, x, y, z, e);
      live = λ c. let a = live c in let e = ap (λ o. one_if (lives_in c o)) there in let m = alike c in omega (arith, a, e, m);
      zombies = λ c. let a = zombies c in let e = ap (λ o. one_if (waits_in c o)) there in let m = alike c in omega (arith, a, e, m);
      all = let e = ap (λ o. one_if (is_some o)) there in omega (arith, all, e);
      ranks = ranks;
    })
  where
    -- without a mark nobody counts among the marked, before and after
    alike : (c : ℕ) → one_if (left_at s'.threads key && false) ≡ left_in s c key
    alike c = ap (λ t. one_if (left_at t key && false)) threads ∙ unmarked (left_at s.threads key) stays false (lives_in c (task_at s.tree key))

pub group_is : (members : List (Option Membership)) (key : ℕ) (m : Membership) → membership_at members key ≡ Some m → (g : ℕ) → group_of members key ≡ Some g → m.group ≡ g
group_is members key m is g e = ap (λ o. option_map_or (λ (n : ℕ). n) o 0) (sym (ap (option_map (λ (m : Membership). m.group)) is) ∙ e)

pub session_is : (members : List (Option Membership)) (key : ℕ) (m : Membership) → membership_at members key ≡ Some m → (g : ℕ) → session_of members key ≡ Some g → m.session ≡ g
session_is members key m is g e = ap (λ o. option_map_or (λ (n : ℕ). n) o 0) (sym (ap (option_map (λ (m : Membership). m.session)) is) ∙ e)

-- no identifier is used more often than there are keys
pub few_uses : (s : Store) → IsStore s → length s.members ≤ 1073741824 → (k : Kind) (i : ℕ) → uses_at s.numbering k i ≤ 1073741824
few_uses s w few AsTask i = let e = w.tasks i in let h = small (is_some (task_at s.tree i)) in omega (arith, e, h)
  where
    small : (b : Bool) → one_if b ≤ 1
    small true = omega arith
    small false = omega arith
few_uses s w few Group i = few_groups s w few i
few_uses s w few Session i = few_sessions s w few i

-- the identifier of a task is there
pub own_identifier : (s : Store) → IsStore s → (key : ℕ) → is_some (membership_at s.members key) ≡ true → 0 < uses_at s.numbering AsTask key
own_identifier s w key on = let e = w.tasks key ∙ ap one_if (sym (w.members key) ∙ on) in omega (arith, e)

get_or-set_none : {X : Type 0} (xs : List (Option X)) (i : ℕ) → slice_index_or (slice_set xs i None) i None ≡ None
get_or-set_none [] i = refl
get_or-set_none (x ∷ xs) zero = refl
get_or-set_none (x ∷ xs) (suc i) = get_or-set_none xs i

-- where one task went the identifiers of the others are left
pub others_left : (s : Store) → IsStore s → (key : ℕ) (m : Membership) (b : Numbering) (tree : TreeOfTasks) → tree.tasks ≡ slice_set s.tree.tasks key None → UsesLeft s.numbering b key m
    → (k : ℕ) → is_some (task_at tree k) ≡ true → 0 < uses_at b AsTask k
others_left s w key m b tree tasks uses k on = go (cases_eq k key)
  where
    go : (k ≡ key) ⊎ (k ≢ key) → 0 < uses_at b AsTask k
    go (inl same) = absurd (let z : false ≡ true = sym (ap is_some (ap (λ j. task_at tree j) same ∙ ap (λ l. slice_index_or l key None) tasks ∙ get_or-set_none s.tree.tasks key)) ∙ on in cc)
    go (inr differs) =
        let there = ap is_some (ap (λ l. slice_index_or l k None) tasks ∙ get_or-set_other s.tree.tasks key k None None differs) in
        let t = w.tasks k ∙ ap one_if (sym there ∙ on) in
        let off : (k == key) ≡ false = grind (arith, differs) in
        let a = uses AsTask k in
        let x = ap (λ b. one_if (b && true)) off in
        let y = none_of (k == m.group) in
        let z = none_of (k == m.session) in
        omega (arith, a, x, y, z, t)

pub in_group : (members : List (Option Membership)) (k g : ℕ) → group_of members k ≡ Some g → (m : Membership) × (membership_at members k ≡ Some m) × (m.group ≡ g)
in_group members k g e = go (membership_at members k) refl e
  where
    go : (o : Option Membership) → membership_at members k ≡ o → option_map (λ (m : Membership). m.group) o ≡ Some g → (m : Membership) × (membership_at members k ≡ Some m) × (m.group ≡ g)
    go None is z = absurd (cc)
    go (Some m) is z = (m, is, ap (λ o. option_map_or (λ (n : ℕ). n) o 0) z)
