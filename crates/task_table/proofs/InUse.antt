-- The names in use in a store's state are those of its identifiers.
use Rattle.std.proofs.Common.{◌≡◌, ◌⊎◌, inl, inr, ℕ, zero, suc, ◌+◌, ◌<◌, Bool, true, false, not, ◌==◌, ◌&&◌, List, [], ◌∷◌, count_by, get_or, cond, Option, Some, None, is_some, refl, sym, ap, subst, ◌∙◌, arith, option_map}
use Rattle.std.specs.Option.{option_map_or}
use Rattle.std.proofs.lemmas.Bool.{eqb-true}
use Rattle.std.proofs.lemmas.Bool.Decides.{nat_tests}
use Rattle.pid_types.specs.Queries.{name_by}
use Rattle.std.proofs.lemmas.List.Sums.{sum_by-cons}
use Rattle.pid_types.proofs.General.{held}
use Rattle.pid_types.specs.declared.plain.Row.{Row}
use Rattle.pid_types.specs.declared.plain.Name.{Name}
use Rattle.pid_types.specs.declared.call.Kind.{Kind}
use Rattle.pid_types.specs.declared.call.Kind.TheVariants.{Task as AsTask, Group, Session}
use Rattle.pid_types.specs.Membership.{IsIn}
use Rattle.pid_types.specs.State.{State, root_name}
use Rattle.pid_types.specs.Names.{in_use, names_in_use}
use Rattle.model_laws.proofs.Names.{user_of_name, own_name_in_use, group_in_use, session_in_use}
use Rattle.pid_numbers.specs.Numbering.{Identifier, identifier_at, uses, is_used_as, is_used}
use Rattle.process_threads.specs.Threads.{left_at}
use Rattle.task_tree.specs.declared.Task.{Task}
use Rattle.task_tree.specs.Tree.{task_at, lives}
use Rattle.groups_sessions.specs.Membership.{Membership, membership_at}
use Rattle.task_table.specs.Store.{Store, HasNoThreads, uses_at, one_if, is_in_group, is_in_session, is_used_at}
use Rattle.pids_charge.specs.Charges.{Home, home_at, stands, live_at, zombies_at}
use Rattle.task_table.proofs.Alone.{in_use-rows}
use Rattle.task_table.proofs.Changes.{live_some, task_some}
use Rattle.task_table.proofs.Groups.{group_used, session_used}
use Rattle.task_table.proofs.Threaded.{used-as}
use Rattle.task_table.specs.View.{name_at, row_of, state_of}
use Rattle.task_table.specs.Lawful.{IsLawful}
use Rattle.task_table.proofs.LookUps.{named, group-named, session-named, in-rows, rows-in}

-- whom a count counts
some-counted : {X : Type 0} (p : Option X → Bool) → p None ≡ false → (xs : List (Option X)) → 0 < count_by p xs → (k : ℕ) × (p (get_or xs k None) ≡ true)
some-counted p nothing [] some = absurd (omega (arith, some))
some-counted p nothing (x ∷ xs) some = go (p x) refl (λ h. some-counted p nothing xs h)
  where
    go : (b : Bool) → p x ≡ b → (0 < count_by p xs → (k : ℕ) × (p (get_or xs k None) ≡ true)) → (k : ℕ) × (p (get_or (x ∷ xs) k None) ≡ true)
    go true is again = (zero, is)
    go false is again =
        let rest = sum_by-cons (λ y. cond {A = ℕ} (p y) 1 0) x xs in
        let none : ◌≡◌ {A = ℕ} (cond (p x) 1 0) 0 = ap (λ (b : Bool). cond {A = ℕ} b 1 0) is in
        let r = again (omega (arith, some, rest, none)) in
        (suc r.0, r.1)

module _ (s : Store) (l : IsLawful s) where
  -- what a task is in
  pub member : (k : ℕ) (t : Task) → task_at s.tree k ≡ Some t → (m : Membership) × (membership_at s.members k ≡ Some m)
  member k t e = held (membership_at s.members k) (l.agree.members k ∙ ap is_some e)

  -- each name in use is an identifier's
  pub used-from : (a : Name) → IsIn a (names_in_use (state_of s).rows) → (i : ℕ) × (v : Identifier) × (identifier_at s.numbering i ≡ Some v) × (a ≡ name_at s.numbering i)
  used-from a i =
      let u = user_of_name (state_of s).rows a i in
      let f = in-rows s l u.0 u.1 in
      let m = member f.0 f.1 f.2 in
      go f.0 f.1 f.2 u.0 f.3 m.0 m.1 u.2
    where
      go : (k : ℕ) (t : Task) → task_at s.tree k ≡ Some t → (r : Row) → r ≡ row_of s k t → (m : Membership) → membership_at s.members k ≡ Some m
          → (a ≡ r.name) ⊎ ((a ≡ r.group) ⊎ ((a ≡ r.session) ⊎ ⊥)) → (i : ℕ) × (v : Identifier) × (identifier_at s.numbering i ≡ Some v) × (a ≡ name_at s.numbering i)
      go k t e r is m at (inl own) = let u = named s l k t e in (k, u.0, u.1, own ∙ ap (λ (x : Row). x.name) is)
      go k t e r is m at (inr (inl group)) =
          let u = group-named s l k m at in
          (m.group, u.0, u.1, group ∙ ap (λ (x : Row). x.group) is ∙ ap (λ o. option_map_or (name_at s.numbering) (option_map (λ m. m.group) o) root_name) at)
      go k t e r is m at (inr (inr (inl session))) =
          let u = session-named s l k m at in
          (m.session, u.0, u.1, session ∙ ap (λ (x : Row). x.session) is ∙ ap (λ o. option_map_or (name_at s.numbering) (option_map (λ m. m.session) o) root_name) at)
      go k t e r is m at (inr (inr (inr none))) = absurd none

  in_group : (k i : ℕ) → is_in_group i (membership_at s.members k) ≡ true → (m : Membership) × (membership_at s.members k ≡ Some m) × (m.group ≡ i)
  in_group k i e = go (membership_at s.members k) refl e
    where
      go : (o : Option Membership) → membership_at s.members k ≡ o → option_map_or (λ m. m.group == i) o false ≡ true → (m : Membership) × (membership_at s.members k ≡ Some m) × (m.group ≡ i)
      go None at e = absurd (cc)
      go (Some m) at e = (m, at, eqb-true m.group i e)

  in_session : (k i : ℕ) → is_in_session i (membership_at s.members k) ≡ true → (m : Membership) × (membership_at s.members k ≡ Some m) × (m.session ≡ i)
  in_session k i e = go (membership_at s.members k) refl e
    where
      go : (o : Option Membership) → membership_at s.members k ≡ o → option_map_or (λ m. m.session == i) o false ≡ true → (m : Membership) × (membership_at s.members k ≡ Some m) × (m.session ≡ i)
      go None at e = absurd (cc)
      go (Some m) at e = (m, at, eqb-true m.session i e)

  tasked : (k : ℕ) (m : Membership) → membership_at s.members k ≡ Some m → (t : Task) × (task_at s.tree k ≡ Some t)
  tasked k m e = held (task_at s.tree k) (sym (l.agree.members k) ∙ ap is_some e)

  -- who uses an identifier as the kind
  pub user : (kind : Kind) (i : ℕ) (v : Identifier) → identifier_at s.numbering i ≡ Some v → is_used_as kind (Some v) ≡ true → (r : Row) × IsIn r (state_of s).rows × (name_by kind r ≡ name_at s.numbering i)
  user kind i v e h = go kind (above (uses kind v) (told kind h))
    where
      count : (kind : Kind) → uses_at s.numbering kind i ≡ uses kind v
      count kind = ap (λ o. option_map_or (uses kind) o 0) e

      told : (kind : Kind) → is_used_as kind (Some v) ≡ true → not (uses kind v == 0) ≡ true
      told kind h = h

      above : (n : ℕ) → not (n == 0) ≡ true → 0 < n
      above zero h = absurd (cc)
      above (suc n) h = omega arith

      one : (b : Bool) → 0 < one_if b → b ≡ true
      one true h = refl
      one false h = absurd (omega (arith, h))

      go : (kind : Kind) → 0 < uses kind v → (r : Row) × IsIn r (state_of s).rows × (name_by kind r ≡ name_at s.numbering i)
      go AsTask w =
          let some : 0 < one_if (is_some (task_at s.tree i)) = (let x = count AsTask in let y = l.agree.tasks i in omega (arith, w, x, y)) in
          let t = held (task_at s.tree i) (one (is_some (task_at s.tree i)) some) in
          (row_of s i t.0, rows-in s l i t.0 t.1, refl)
      go Group w =
          let some : 0 < count_by (is_in_group i) s.members = (let x = count Group in let y = l.agree.groups i in omega (arith, w, x, y)) in
          let k = some-counted (is_in_group i) refl s.members some in
          let m = in_group k.0 i k.1 in
          let t = tasked k.0 m.0 m.1 in
          (row_of s k.0 t.0, rows-in s l k.0 t.0 t.1, ap (λ o. option_map_or (name_at s.numbering) (option_map (λ m. m.group) o) root_name) m.1 ∙ ap (name_at s.numbering) m.2)
      go Session w =
          let some : 0 < count_by (is_in_session i) s.members = (let x = count Session in let y = l.agree.sessions i in omega (arith, w, x, y)) in
          let k = some-counted (is_in_session i) refl s.members some in
          let m = in_session k.0 i k.1 in
          let t = tasked k.0 m.0 m.1 in
          (row_of s k.0 t.0, rows-in s l k.0 t.0 t.1, ap (λ o. option_map_or (name_at s.numbering) (option_map (λ m. m.session) o) root_name) m.1 ∙ ap (name_at s.numbering) m.2)

  -- each row uses its identifiers so
  pub used-by : (kind : Kind) (r : Row) → IsIn r (state_of s).rows → (i : ℕ) × (v : Identifier) × (identifier_at s.numbering i ≡ Some v) × (is_used_as kind (Some v) ≡ true) × (name_by kind r ≡ name_at s.numbering i)
  used-by kind r i =
      let f = in-rows s l r i in
      let m = member f.0 f.1 f.2 in
      go kind f.0 f.1 f.2 f.3 m.0 m.1
    where
      counted : (kind : Kind) (i : ℕ) (v : Identifier) → identifier_at s.numbering i ≡ Some v → 0 < uses_at s.numbering kind i → not (uses kind v == 0) ≡ true
      counted kind i v e some = positive (uses kind v) (let x : uses_at s.numbering kind i ≡ uses kind v = ap (λ o. option_map_or (uses kind) o 0) e in omega (arith, some, x))
        where
          positive : (n : ℕ) → 0 < n → not (n == 0) ≡ true
          positive n h = grind (arith, nat_tests, h)

      go : (kind : Kind) (k : ℕ) (t : Task) → task_at s.tree k ≡ Some t → r ≡ row_of s k t → (m : Membership) → membership_at s.members k ≡ Some m
          → (i : ℕ) × (v : Identifier) × (identifier_at s.numbering i ≡ Some v) × (is_used_as kind (Some v) ≡ true) × (name_by kind r ≡ name_at s.numbering i)
      go AsTask k t e is m at =
          let u = named s l k t e in
          let one : one_if (is_some (task_at s.tree k)) ≡ 1 = ap (λ o. one_if (is_some o)) e in
          (k, u.0, u.1, counted AsTask k u.0 u.1 (let y = l.agree.tasks k in omega (arith, y, one)), ap (λ (x : Row). x.name) is)
      go Group k t e is m at =
          let u = group-named s l k m at in
          (m.group, u.0, u.1, counted Group m.group u.0 u.1 (group_used s l.agree k m at), ap (λ (x : Row). x.group) is ∙ ap (λ o. option_map_or (name_at s.numbering) (option_map (λ m. m.group) o) root_name) at)
      go Session k t e is m at =
          let u = session-named s l k m at in
          (m.session, u.0, u.1, counted Session m.session u.0 u.1 (session_used s l.agree k m at), ap (λ (x : Row). x.session) is ∙ ap (λ o. option_map_or (name_at s.numbering) (option_map (λ m. m.session) o) root_name) at)

  -- and the name of an identifier that is used is in use
  pub used-name : (i : ℕ) (v : Identifier) → identifier_at s.numbering i ≡ Some v → is_used v ≡ true → IsIn (name_at s.numbering i) (names_in_use (state_of s).rows)
  used-name i v e = go (v.tasks == 0) refl (v.groups == 0) refl (v.sessions == 0) refl
    where
      by : (kind : Kind) → is_used_as kind (Some v) ≡ true → ((r : Row) → IsIn r (state_of s).rows → IsIn (name_by kind r) (names_in_use (state_of s).rows)) → IsIn (name_at s.numbering i) (names_in_use (state_of s).rows)
      by kind h in_use = let r = user kind i v e h in subst (λ (a : Name). IsIn a (names_in_use (state_of s).rows)) r.2 (in_use r.0 r.1)

      go : (a : Bool) → (v.tasks == 0) ≡ a → (b : Bool) → (v.groups == 0) ≡ b → (c : Bool) → (v.sessions == 0) ≡ c → not ((v.tasks == 0) && ((v.groups == 0) && (v.sessions == 0))) ≡ true
          → IsIn (name_at s.numbering i) (names_in_use (state_of s).rows)
      go false is b bs c cs h = by AsTask (ap not is) (own_name_in_use (state_of s).rows)
      go true is false bs c cs h = by Group (ap not bs) (group_in_use (state_of s).rows)
      go true is true bs false cs h = by Session (ap not cs) (session_in_use (state_of s).rows)
      go true is true bs true cs h = absurd (let z : false ≡ true = sym (ap (λ x. not (x && ((v.groups == 0) && (v.sessions == 0)))) is ∙ ap (λ x. not (true && (x && (v.sessions == 0)))) bs ∙ ap (λ x. not (true && (true && x))) cs) ∙ h in cc)

  -- so where no thread is beside a first one each identifier's name is in use
  pub used-in : HasNoThreads s.threads → (i : ℕ) (v : Identifier) → identifier_at s.numbering i ≡ Some v → IsIn (name_at s.numbering i) (names_in_use (state_of s).rows)
  used-in alone i v e = used-name i v e (l.used alone i v e)

  -- a task's identifier is used
  pub task-used : (i : ℕ) → is_some (task_at s.tree i) ≡ true → is_used_at s.numbering i ≡ true
  task-used i there = used-as s.numbering AsTask i (let y = l.agree.tasks i in let z = ap one_if there in omega (arith, y, z))

  -- and an identifier that is there is used
  pub used-here : HasNoThreads s.threads → (i : ℕ) → is_some (identifier_at s.numbering i) ≡ true → is_used_at s.numbering i ≡ true
  used-here alone i some = let v = held (identifier_at s.numbering i) some in ap (λ o. option_map_or is_used o false) v.1 ∙ l.used alone i v.0 v.1

  -- the control group of a task is there, and that of a live task whose first thread is there stands
  pub homed : (k : ℕ) (t : Task) → task_at s.tree k ≡ Some t → (h : Home) × (home_at s.charges t.home ≡ Some h) × (0 < h.live + h.zombies)
  homed k t e = go (task_some s l.agree k t e)
    where
      some : (o : Option Home) (n : ℕ) → 0 < n → home_at s.charges t.home ≡ o → ((option_map_or (λ h. h.live) o 0 ≡ n) ⊎ (option_map_or (λ h. h.zombies) o 0 ≡ n)) → (h : Home) × (home_at s.charges t.home ≡ Some h) × (0 < h.live + h.zombies)
      some None n pos is (inl f) = absurd (omega (arith, pos, f))
      some None n pos is (inr f) = absurd (omega (arith, pos, f))
      some (Some h) n pos is (inl f) = (h, is, omega (arith, pos, f))
      some (Some h) n pos is (inr f) = (h, is, omega (arith, pos, f))

      go : (0 < live_at s.charges t.home) ⊎ (0 < zombies_at s.charges t.home) → (h : Home) × (home_at s.charges t.home ≡ Some h) × (0 < h.live + h.zombies)
      go (inl more) = some (home_at s.charges t.home) (live_at s.charges t.home) more refl (inl refl)
      go (inr more) = some (home_at s.charges t.home) (zombies_at s.charges t.home) more refl (inr refl)

  pub live-home : (k : ℕ) (t : Task) → task_at s.tree k ≡ Some t → lives t ≡ true → left_at s.threads k ≡ false → stands s.charges t.home ≡ true
  live-home k t e live stays = go (stands s.charges t.home) refl
    where
      go : (b : Bool) → stands s.charges t.home ≡ b → b ≡ true
      go true is = refl
      go false is = absurd (let some = live_some s l.agree k t e live stays in let none = l.ended t.home is in omega (arith, some, none))

-- the names in use in the state are those of the store's identifiers
pub record AreNamed (s : Store) (state : State) : Type 0 where
  pub from : (a : Name) → IsIn a (in_use state) → (i : ℕ) × (v : Identifier) × (identifier_at s.numbering i ≡ Some v) × (a ≡ name_at s.numbering i)
  pub to : (i : ℕ) (v : Identifier) → identifier_at s.numbering i ≡ Some v → IsIn (name_at s.numbering i) (in_use state)

-- those of a state with the store's rows and no threads are, where it has none
pub named-alone : (s : Store) → IsLawful s → HasNoThreads s.threads → (state : State) → state.rows ≡ (state_of s).rows → state.threads ≡ [] → AreNamed s state
named-alone s l alone state rows threads =
    let are = in_use-rows state threads ∙ ap names_in_use rows in record {
      from = λ a i. used-from s l a (subst (IsIn a) are i);
      to = λ i v e. subst (IsIn (name_at s.numbering i)) (sym are) (used-in s l alone i v e);
    }
