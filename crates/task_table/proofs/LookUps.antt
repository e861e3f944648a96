-- What the model's look-ups find in a store's state.
use Rattle.std.proofs.Common.{◌≡◌, ◌≢◌, ◌⊎◌, inl, inr, ℕ, ◌<◌, Bool, true, false, ◌==◌, ◌&&◌, List, [], ◌∷◌, ◌++◌, length, find, Option, Some, None, IsSome, is_some, if◌then◌else◌, refl, sym, ap, ◌∙◌, arith, option_map, option_and_then, unwrap_or}
use Rattle.std.specs.Prelude.{reverse, slice_index}
use Rattle.std.specs.Option.{option_map_or, option_eq}
use Rattle.std.proofs.lemmas.Bool.{cases_eq, eq-eqb, eqb-true}
use Rattle.std.proofs.lemmas.List.{length-reverse, reverse-append}
use Rattle.pid_types.proofs.General.{apart, some_number, held}
use Rattle.pid_types.specs.declared.plain.Row.{Row}
use Rattle.pid_types.specs.declared.call.Kind.TheVariants.{Group, Session}
use Rattle.pid_types.specs.Chains.{contains}
use Rattle.pid_types.specs.Membership.{IsIn}
use Rattle.pid_types.specs.State.{root_name}
use Rattle.pid_types.specs.Names.{beside, root_number, same_name, is_live, row_at, live_row, task_numbered, is_numbered, number_or_zero}
use Rattle.model_laws.proofs.Names.{same_name-true, same_name-refl}
use Rattle.pid_numbers.specs.Numbering.{Identifier, id_at, identifier_at, number_in, number_of, path_at}
use Rattle.pid_numbers.specs.Slabs.{IsPath}
use Rattle.task_tree.specs.declared.Task.{Task}
use Rattle.task_tree.specs.Tree.{task_at, lives, has_live}
use Rattle.groups_sessions.specs.Membership.{Membership, membership_at}
use Rattle.task_table.specs.Store.{Store}
use Rattle.task_table.proofs.Births.{task_named}
use Rattle.task_table.proofs.Less.{used}
use Rattle.task_table.proofs.Groups.{group_used, session_used}
use Rattle.task_table.specs.View.{name_of, name_at, key_numbered, row_of, row_with, row_numbered, state_of}
use Rattle.task_table.specs.Lawful.{IsLawful}
use Rattle.model_laws.proofs.Lists.{find-only, find-none}
use Rattle.task_table.proofs.Collects.{collect-from, collect-in}
use Rattle.task_table.proofs.Keys.{key-some, key-of, is_path, number-is_key, home-id}

-- nothing is not something
pub none_some : {X : Type 0} {x : X} → None ≡ Some x → ⊥
none_some e = cc

-- who lives is there
pub live-there : (o : Option Task) → has_live o ≡ true → (t : Task) × (o ≡ Some t) × (lives t ≡ true)
live-there None e = absurd (cc)
live-there (Some t) e = (t, refl, e)

first_of_more : (xs ys : List ℕ) → 0 < length xs → slice_index (xs ++ ys) 0 ≡ slice_index xs 0
first_of_more [] ys some = absurd (omega (arith, some))
first_of_more (x ∷ xs) ys some = refl

-- the number in the outermost namespace is the last one
pub outermost : (ways : ℕ → List ℕ) (p ns : List ℕ) → IsPath ways p → ways 0 ≡ 0 ∷ [] → contains p 0 ≡ true → length ns ≡ length p → beside 0 p ns ≡ Some (slice_index (reverse ns) 0)
outermost ways [] ns h root on len = absurd (cc)
outermost ways (t ∷ ts) [] h root on len = absurd (omega (arith, len))
outermost ways (t ∷ ts) (n ∷ ns) h root on len = go (cases_eq t 0) (λ e. outermost ways ts ns h.1 root e (omega (arith, len)))
  where
    alone : (ms : List ℕ) → length ms ≡ 0 → ms ≡ []
    alone [] e = refl
    alone (m ∷ ms) e = absurd (omega (arith, e))

    more : (ms : List ℕ) → 0 < length ms → slice_index (reverse (n ∷ ms)) 0 ≡ slice_index (reverse ms) 0
    more ms some = ap (λ l. slice_index l 0) (reverse-append (n ∷ []) ms) ∙ first_of_more (reverse ms) (n ∷ []) (let e = length-reverse ms in omega (arith, e, some))

    filled : (us : List ℕ) → contains us 0 ≡ true → 0 < length us
    filled [] e = absurd (cc)
    filled (u ∷ us) e = omega arith

    go : (t ≡ 0) ⊎ (t ≢ 0) → (contains ts 0 ≡ true → beside 0 ts ns ≡ Some (slice_index (reverse ns) 0)) → (if t == 0 then Some n else beside 0 ts ns) ≡ Some (slice_index (reverse (n ∷ ns)) 0)
    go (inl same) again =
        let tail : ts ≡ [] = (let z : 0 ∷ [] ≡ t ∷ ts = sym root ∙ ap ways (sym same) ∙ h.0 in ap (λ (l : List ℕ). elim l [ [] ↦ [] | q ∷ qs ↦ qs ]) (sym z)) in
        let none : ns ≡ [] = alone ns (let e : length ts ≡ 0 = ap length tail in omega (arith, len, e)) in
        ap (λ b. if b then Some n else beside 0 ts ns) (eq-eqb t 0 same) ∙ ap (λ (l : List ℕ). Some (slice_index (reverse (n ∷ l)) 0)) (sym none)
    go (inr m) again =
        let later : contains ts 0 ≡ true = rw (apart t 0 m) at on in
        let some = filled ts later in
        ap (λ b. if b then Some n else beside 0 ts ns) (apart t 0 m) ∙ again later ∙ ap Some (sym (more ns (omega (arith, some, len))))

module _ (s : Store) (l : IsLawful s) where
  -- a task, a group and a session have an identifier
  pub named : (k : ℕ) (t : Task) → task_at s.tree k ≡ Some t → (u : Identifier) × (identifier_at s.numbering k ≡ Some u)
  named k t e = held (identifier_at s.numbering k) (task_named s l.agree k (ap is_some e))

  pub group-named : (k : ℕ) (m : Membership) → membership_at s.members k ≡ Some m → (u : Identifier) × (identifier_at s.numbering m.group ≡ Some u)
  group-named k m e = used s.numbering Group m.group (group_used s l.agree k m e)

  pub session-named : (k : ℕ) (m : Membership) → membership_at s.members k ≡ Some m → (u : Identifier) × (identifier_at s.numbering m.session ≡ Some u)
  session-named k m e = used s.numbering Session m.session (session_used s l.agree k m e)

  -- an identifier's number in the root namespace
  pub root-number : (k : ℕ) (u : Identifier) → identifier_at s.numbering k ≡ Some u → number_of s.numbering k 0 ≡ Some (root_number (name_at s.numbering k))
  root-number k u e =
      let f = l.numbering.full k u e in
      let some : 0 < length (path_at s.numbering u.space) = (let a = f.0 in let b = f.1 in omega (arith, a, b)) in
      ap (number_in (path_at s.numbering) 0) e
      ∙ outermost (path_at s.numbering) (path_at s.numbering u.space) u.numbers (is_path s.numbering l.numbering u.space) l.numbering.root (l.numbering.ends u.space some) f.1
      ∙ ap (λ o. Some (root_number (option_map_or (name_of s.numbering) o root_name))) (sym e)

  -- keys and names
  pub same-name : (j k : ℕ) → IsSome (identifier_at s.numbering j) → IsSome (identifier_at s.numbering k) → same_name (name_at s.numbering j) (name_at s.numbering k) ≡ (j == k)
  same-name j k at_j at_k = go (cases_eq j k)
    where
      go : (j ≡ k) ⊎ (j ≢ k) → same_name (name_at s.numbering j) (name_at s.numbering k) ≡ (j == k)
      go (inl same) = same_name-refl (name_at s.numbering j) (name_at s.numbering k) (ap (name_at s.numbering) same) ∙ sym (eq-eqb j k same)
      go (inr m) = test (same_name (name_at s.numbering j) (name_at s.numbering k)) refl
        where
          test : (b : Bool) → same_name (name_at s.numbering j) (name_at s.numbering k) ≡ b → b ≡ (j == k)
          test true is =
              let names = same_name-true (name_at s.numbering j) (name_at s.numbering k) is in
              let u = held (identifier_at s.numbering j) at_j in
              let v = held (identifier_at s.numbering k) at_k in
              absurd (m (l.numbering.distinct j k 0 (root_number (name_at s.numbering j)) (root-number j u.0 u.1) (root-number k v.0 v.1 ∙ ap (λ n. Some (root_number n)) (sym names))))
          test false is = sym (let z : (j == k) ≡ false = grind (arith, m) in z)

  -- rows and tasks
  pub row-at : (k sp n : ℕ) (t : Task) → task_at s.tree k ≡ Some t → number_of s.numbering k sp ≡ Some n → row_numbered s sp n ≡ Some (row_of s k t)
  row-at k sp n t e at = ap (option_and_then (row_with s)) (key-of s.numbering l.numbering sp n k at) ∙ ap (option_map (row_of s k)) e

  pub row-from : (sp n : ℕ) (r : Row) → row_numbered s sp n ≡ Some r → (k : ℕ) × (t : Task) × (task_at s.tree k ≡ Some t) × (number_of s.numbering k sp ≡ Some n) × (r ≡ row_of s k t)
  row-from sp n r e = go (key_numbered s.numbering sp n) refl e
    where
      go : (o : Option ℕ) → key_numbered s.numbering sp n ≡ o → option_and_then (row_with s) o ≡ Some r → (k : ℕ) × (t : Task) × (task_at s.tree k ≡ Some t) × (number_of s.numbering k sp ≡ Some n) × (r ≡ row_of s k t)
      go None is e = absurd (cc)
      go (Some k) is e = task (task_at s.tree k) refl e
        where
          task : (o : Option Task) → task_at s.tree k ≡ o → option_map (row_of s k) o ≡ Some r → (k : ℕ) × (t : Task) × (task_at s.tree k ≡ Some t) × (number_of s.numbering k sp ≡ Some n) × (r ≡ row_of s k t)
          task None at e = absurd (cc)
          task (Some t) at e = (k, t, at, key-some s.numbering l.numbering sp n k is, ap (λ o. option_map_or (λ x. x) o r) (sym e))

  -- where a task's row stands
  pub rooted : (k : ℕ) (t : Task) → task_at s.tree k ≡ Some t → (row_numbered s 0 (root_number (name_at s.numbering k)) ≡ Some (row_of s k t)) × (root_number (name_at s.numbering k) < s.numbering.pid_max)
  rooted k t e =
      let u = named k t e in
      let at = root-number k u.0 u.1 in
      (row-at k 0 (root_number (name_at s.numbering k)) t e at, (l.numbering.range k 0 (root_number (name_at s.numbering k)) at).1)

  pub keyed : (n : ℕ) (r : Row) → row_numbered s 0 n ≡ Some r → root_number r.name ≡ n
  keyed n r e =
      let f = row-from 0 n r e in
      let u = named f.0 f.1 f.2 in
      ap (λ (x : Row). root_number x.name) f.4 ∙ (let z : Some (root_number (name_at s.numbering f.0)) ≡ Some n = sym (root-number f.0 u.0 u.1) ∙ f.3 in ap (λ o. option_map_or (λ m. m) o n) z)

  pub in-rows : (r : Row) → IsIn r (state_of s).rows → (k : ℕ) × (t : Task) × (task_at s.tree k ≡ Some t) × (r ≡ row_of s k t)
  in-rows r i =
      let c = collect-from (row_numbered s 0) 0 s.numbering.pid_max r i in
      let f = row-from 0 c.0 r c.1 in
      (f.0, f.1, f.2, f.4)

  pub rows-in : (k : ℕ) (t : Task) → task_at s.tree k ≡ Some t → IsIn (row_of s k t) (state_of s).rows
  rows-in k t e = let h = rooted k t e in collect-in (row_numbered s 0) 0 s.numbering.pid_max (root_number (name_at s.numbering k)) (row_of s k t) (omega arith) (let b = h.1 in omega (arith, b)) h.0

  -- one task's row alone passes a test
  pub find-task : (p : Row → Bool) (k : ℕ) (t : Task) → task_at s.tree k ≡ Some t → p (row_of s k t) ≡ true
      → ((j : ℕ) (v : Task) → task_at s.tree j ≡ Some v → p (row_of s j v) ≡ true → j ≡ k) → find p (state_of s).rows ≡ Some (row_of s k t)
  find-task p k t e passes only =
      find-only p (state_of s).rows (row_of s k t) (rows-in k t e) passes
      (λ y i is.
      let f = in-rows y i in
      let same = only f.0 f.1 f.2 (sym (ap p f.3) ∙ is) in
      let task : Some f.1 ≡ Some t = sym f.2 ∙ ap (task_at s.tree) same ∙ e in
      f.3 ∙ ap (λ j. row_of s j f.1) same ∙ ap (λ o. option_map_or (row_of s k) o y) task)

  pub find-nobody : (p : Row → Bool) → ((j : ℕ) (v : Task) → task_at s.tree j ≡ Some v → p (row_of s j v) ≡ false) → find p (state_of s).rows ≡ None
  find-nobody p none = find-none p (state_of s).rows (λ y i. let f = in-rows y i in ap p f.3 ∙ none f.0 f.1 f.2)

  -- the row with a root number
  of_number : (n k : ℕ) (t : Task) → task_at s.tree k ≡ Some t → (root_number (name_at s.numbering k) == n) ≡ true → number_of s.numbering k 0 ≡ Some n
  of_number n k t e is = let u = named k t e in root-number k u.0 u.1 ∙ ap Some (eqb-true (root_number (name_at s.numbering k)) n is)

  has_number : (n k : ℕ) (t : Task) → task_at s.tree k ≡ Some t → number_of s.numbering k 0 ≡ Some n → (root_number (name_at s.numbering k) == n) ≡ true
  has_number n k t e at =
      let u = named k t e in
      let z : Some (root_number (name_at s.numbering k)) ≡ Some n = sym (root-number k u.0 u.1) ∙ at in
      eq-eqb (root_number (name_at s.numbering k)) n (ap (λ o. option_map_or (λ m. m) o n) z)

  pub row_at-key : (n k : ℕ) (t : Task) → task_at s.tree k ≡ Some t → number_of s.numbering k 0 ≡ Some n → row_at (state_of s).rows n ≡ Some (row_of s k t)
  row_at-key n k t e at =
      find-task (λ row. root_number row.name == n) k t e (has_number n k t e at)
      (λ j v f is. l.numbering.distinct j k 0 n (of_number n j v f is) at)

  pub row_at-none : (n : ℕ) → ((k : ℕ) (t : Task) → task_at s.tree k ≡ Some t → number_of s.numbering k 0 ≢ Some n) → row_at (state_of s).rows n ≡ None
  row_at-none n none = find-nobody (λ row. root_number row.name == n) (λ j v f. test j v f ((root_number (name_at s.numbering j)) == n) refl)
    where
      test : (j : ℕ) (v : Task) → task_at s.tree j ≡ Some v → (b : Bool) → (root_number (name_at s.numbering j) == n) ≡ b → b ≡ false
      test j v f true is = absurd (none j v f (of_number n j v f is))
      test j v f false is = refl

  -- the live task with a root number
  pub live-key : (n k : ℕ) (t : Task) → task_at s.tree k ≡ Some t → number_of s.numbering k 0 ≡ Some n → lives t ≡ true → live_row (state_of s).rows n ≡ Some (row_of s k t)
  live-key n k t e at live =
      find-task (λ row. (root_number row.name == n) && is_live row) k t e (both (has_number n k t e at) live)
      (λ j v f is. l.numbering.distinct j k 0 n (of_number n j v f (left_of (root_number (name_at s.numbering j) == n) (lives v) is)) at)
    where
      both : {a b : Bool} → a ≡ true → b ≡ true → (a && b) ≡ true
      both e f = rw (e, f) refl

      left_of : (a b : Bool) → (a && b) ≡ true → a ≡ true
      left_of true b e = refl
      left_of false b e = e

  pub live-none : (n : ℕ) → ((k : ℕ) (t : Task) → task_at s.tree k ≡ Some t → number_of s.numbering k 0 ≡ Some n → lives t ≡ false) → live_row (state_of s).rows n ≡ None
  live-none n none = find-nobody (λ row. (root_number row.name == n) && is_live row) (λ j v f. test j v f (root_number (name_at s.numbering j) == n) refl)
    where
      test : (j : ℕ) (v : Task) → task_at s.tree j ≡ Some v → (b : Bool) → (root_number (name_at s.numbering j) == n) ≡ b → (b && lives v) ≡ false
      test j v f true is = none j v f (of_number n j v f is)
      test j v f false is = refl

  -- the task with a number in a namespace
  numbered : (sp i n k : ℕ) (t : Task) → id_at s.numbering sp ≡ Some i → task_at s.tree k ≡ Some t → is_numbered (state_of s).spaces (name_at s.numbering k) i n ≡ option_eq ◌==◌ (number_of s.numbering k sp) (Some n)
  numbered sp i n k t e f = let u = named k t f in ap (λ o. option_eq ◌==◌ o (Some n)) (number-is_key s.numbering l.numbering sp i k u.0 e u.1)

  pub task_at-key : (sp i n k : ℕ) (t : Task) → id_at s.numbering sp ≡ Some i → task_at s.tree k ≡ Some t → number_of s.numbering k sp ≡ Some n → task_numbered (state_of s) i n ≡ Some (row_of s k t)
  unfolding task_numbered
  task_at-key sp i n k t e f at =
      find-task (λ row. is_numbered (state_of s).spaces row.name i n) k t f (numbered sp i n k t e f ∙ rw at (eq-eqb n n refl))
      (λ j v g is. l.numbering.distinct j k sp n (some_number (number_of s.numbering j sp) n (sym (numbered sp i n j v e g) ∙ is)) at)

  pub task_at-none : (sp i n : ℕ) → id_at s.numbering sp ≡ Some i → ((k : ℕ) (t : Task) → task_at s.tree k ≡ Some t → number_of s.numbering k sp ≢ Some n) → task_numbered (state_of s) i n ≡ None
  unfolding task_numbered
  task_at-none sp i n e none = find-nobody (λ row. is_numbered (state_of s).spaces row.name i n) (λ j v g. numbered sp i n j v e g ∙ test j v g (option_eq ◌==◌ (number_of s.numbering j sp) (Some n)) refl)
    where
      test : (j : ℕ) (v : Task) → task_at s.tree j ≡ Some v → (b : Bool) → option_eq ◌==◌ (number_of s.numbering j sp) (Some n) ≡ b → b ≡ false
      test j v g true is = absurd (none j v g (some_number (number_of s.numbering j sp) n is))
      test j v g false is = refl

  -- the id of an identifier's namespace
  pub space-id : (k : ℕ) (u : Identifier) → identifier_at s.numbering k ≡ Some u → id_at s.numbering u.space ≡ Some (name_at s.numbering k).space
  space-id k u e = home-id s.numbering l.numbering k u e

  -- one number names one task
  pub one-task : (sp n j k : ℕ) (t v : Task) → task_at s.tree j ≡ Some t → number_of s.numbering j sp ≡ Some n → task_at s.tree k ≡ Some v → number_of s.numbering k sp ≡ Some n → t ≡ v
  one-task sp n j k t v e at f on =
      let same = l.numbering.distinct j k sp n at on in
      let z : Some t ≡ Some v = sym e ∙ ap (task_at s.tree) same ∙ f in
      ap (λ o. option_map_or (λ x. x) o t) z

  -- a number as it is seen in a namespace
  pub seen : (sp i k : ℕ) (u : Identifier) → id_at s.numbering sp ≡ Some i → identifier_at s.numbering k ≡ Some u → number_or_zero (state_of s).spaces (name_at s.numbering k) i ≡ unwrap_or (number_of s.numbering k sp) 0
  seen sp i k u at e = ap (λ o. unwrap_or o 0) (number-is_key s.numbering l.numbering sp i k u at e)
