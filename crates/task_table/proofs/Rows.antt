-- What a change of tasks at keys makes of the model's rows.
use Rattle.std.proofs.Common.{◌≡◌, ◌≢◌, inl, inr, ℕ, Bool, not, ◌==◌, map, filter, Option, Some, None, is_some, if◌then◌else◌, refl, sym, ap, ◌∙◌, arith, option_map, option_and_then}
use Rattle.std.specs.Option.{option_map_or}
use Rattle.std.proofs.lemmas.Bool.{cases_eq, eq-eqb}
use Rattle.std.proofs.lemmas.Map.Entries.{option_filter}
use Rattle.pid_types.proofs.General.{apart}
use Rattle.pid_types.specs.declared.plain.Row.{Row}
use Rattle.pid_types.specs.Names.{root_number, same_name, on_row}
use Rattle.pid_types.specs.Fork.{insert_row}
use Rattle.pid_numbers.specs.Numbering.{identifier_at, number_of}
use Rattle.task_tree.specs.declared.Task.{Task}
use Rattle.task_tree.specs.Tree.{task_at}
use Rattle.task_table.specs.Store.{Store}
use Rattle.task_table.specs.Collect.{collect}
use Rattle.task_table.specs.View.{name_at, row_of, row_with, row_numbered, state_of}
use Rattle.task_table.specs.Lawful.{IsLawful}
use Rattle.task_table.proofs.Collects.{collect-map, collect-filter, collect-insert}
use Rattle.task_table.proofs.Keys.{key-of}
use Rattle.task_table.proofs.LookUps.{named, row-at, row-from, keyed, root-number, same-name}

-- two rows with the same of each are one
pub row-ext : (a b : Row) → a.name ≡ b.name → a.parent ≡ b.parent → a.group ≡ b.group → a.session ≡ b.session → a.executed ≡ b.executed → a.life ≡ b.life → a.home ≡ b.home
    → a.children_space ≡ b.children_space → a.subreaper ≡ b.subreaper → a ≡ b
row-ext a b n p g s e l h c r = λ i. record { name = n i; parent = p i; group = g i; session = s i; executed = e i; life = l i; home = h i; children_space = c i; subreaper = r i }

module _ (s s' : Store) (l : IsLawful s) (l' : IsLawful s') (bound : s'.numbering.pid_max ≡ s.numbering.pid_max)
    (roots : (k : ℕ) (t : Task) → task_at s'.tree k ≡ Some t → number_of s'.numbering k 0 ≡ number_of s.numbering k 0) where
  -- a change of rows by key is one by number
  numbered-change : (g : Option Row → Option Row) → g None ≡ None → ((k : ℕ) → row_with s' k ≡ g (row_with s k)) → (n : ℕ) → row_numbered s' 0 n ≡ g (row_numbered s 0 n)
  numbered-change g nothing each n = new (row_numbered s' 0 n) refl
    where
      old : (o : Option Row) → row_numbered s 0 n ≡ o → row_numbered s' 0 n ≡ None → None ≡ g o
      old None is none = sym nothing
      old (Some r) is none =
          let f = row-from s l 0 n r is in
          let with : row_with s f.0 ≡ Some r = ap (option_map (row_of s f.0)) f.2 ∙ ap Some (sym f.4) in
          after f.0 f.3 (task_at s'.tree f.0) refl ∙ each f.0 ∙ ap g with
        where
          after : (k : ℕ) → number_of s.numbering k 0 ≡ Some n → (o : Option Task) → task_at s'.tree k ≡ o → None ≡ row_with s' k
          after k at None e = sym (ap (option_map (row_of s' k)) e)
          after k at (Some t) e = absurd (let z : None ≡ Some (row_of s' k t) = sym none ∙ row-at s' l' k 0 n t e (roots k t e ∙ at) in cc)

      new : (o : Option Row) → row_numbered s' 0 n ≡ o → row_numbered s' 0 n ≡ g (row_numbered s 0 n)
      new None is = is ∙ old (row_numbered s 0 n) refl is
      new (Some r) is =
          let f = row-from s' l' 0 n r is in
          let at : number_of s.numbering f.0 0 ≡ Some n = sym (roots f.0 f.1 f.2) ∙ f.3 in
          let here : row_numbered s 0 n ≡ row_with s f.0 = ap (option_and_then (row_with s)) (key-of s.numbering l.numbering 0 n f.0 at) in
          is ∙ ap Some f.4 ∙ sym (ap (option_map (row_of s' f.0)) f.2) ∙ each f.0 ∙ ap g (sym here)

  -- each row changed
  pub rows-map : (h : Row → Row) → ((k : ℕ) → row_with s' k ≡ option_map h (row_with s k)) → (state_of s').rows ≡ map h (state_of s).rows
  rows-map h each =
      ap (collect (row_numbered s' 0) 0) bound
      ∙ collect-map (row_numbered s 0) (row_numbered s' 0) h 0 s.numbering.pid_max (numbered-change (option_map h) refl each)

  -- some rows kept
  pub rows-filter : (p : Row → Bool) → ((k : ℕ) → row_with s' k ≡ option_filter p (row_with s k)) → (state_of s').rows ≡ filter p (state_of s).rows
  rows-filter p each =
      ap (collect (row_numbered s' 0) 0) bound
      ∙ collect-filter (row_numbered s 0) (row_numbered s' 0) p 0 s.numbering.pid_max (numbered-change (option_filter p) refl each)

  -- some rows kept, and changed
  pub rows-both : (h : Row → Row) (p : Row → Bool) → ((k : ℕ) → row_with s' k ≡ option_map h (option_filter p (row_with s k))) → (state_of s').rows ≡ map h (filter p (state_of s).rows)
  rows-both h p each =
      ap (collect (row_numbered s' 0) 0) bound
      ∙ collect-map (λ n. option_filter p (row_numbered s 0 n)) (row_numbered s' 0) h 0 s.numbering.pid_max (numbered-change (λ o. option_map h (option_filter p o)) refl each)
      ∙ ap (map h) (collect-filter (row_numbered s 0) (λ n. option_filter p (row_numbered s 0 n)) p 0 s.numbering.pid_max (λ n. refl))

  named_as : (j k : ℕ) (t v : Task) → task_at s.tree j ≡ Some t → task_at s.tree k ≡ Some v → same_name (name_at s.numbering j) (name_at s.numbering k) ≡ (j == k)
  named_as j k t v at_j at_k = same-name s l j k (ap is_some (named s l j t at_j).1) (ap is_some (named s l k v at_k).1)

  -- one task's row changed
  pub rows-on : (k : ℕ) (t : Task) (h : Row → Row) → task_at s.tree k ≡ Some t → row_with s' k ≡ Some (h (row_of s k t)) → ((j : ℕ) → j ≢ k → row_with s' j ≡ row_with s j)
      → (state_of s').rows ≡ map (on_row (name_at s.numbering k) h) (state_of s).rows
  rows-on k t h at here others = rows-map (on_row (name_at s.numbering k) h) (λ j. elim (cases_eq j k) [
    | inl same ↦
        ap (row_with s') same ∙ here
        ∙ ap (λ b. Some (if b then h (row_of s k t) else row_of s k t)) (sym (named_as k k t t at at ∙ eq-eqb k k refl))
        ∙ sym (ap (λ o. option_map (on_row (name_at s.numbering k) h) o) (ap (row_with s) same ∙ ap (option_map (row_of s k)) at))
    | inr differs ↦ others j differs ∙ other j differs (task_at s.tree j) refl
  ])
    where
      other : (j : ℕ) → j ≢ k → (o : Option Task) → task_at s.tree j ≡ o → option_map (row_of s j) (task_at s.tree j) ≡ option_map (on_row (name_at s.numbering k) h) (option_map (row_of s j) (task_at s.tree j))
      other j differs None e = rw e refl
      other j differs (Some v) e = rw e (ap (λ b. Some (if b then h (row_of s j v) else row_of s j v)) (sym (named_as j k v t e at ∙ apart j k differs)))

  -- one task gone
  pub rows-without : (k : ℕ) (t : Task) → task_at s.tree k ≡ Some t → task_at s'.tree k ≡ None → ((j : ℕ) → j ≢ k → row_with s' j ≡ row_with s j)
      → (state_of s').rows ≡ filter (λ row. not (same_name row.name (name_at s.numbering k))) (state_of s).rows
  rows-without k t at gone others = rows-filter (λ row. not (same_name row.name (name_at s.numbering k))) (λ j. elim (cases_eq j k) [
    | inl same ↦
        ap (row_with s') same ∙ ap (option_map (row_of s' k)) gone
        ∙ sym (ap (option_filter (λ row. not (same_name row.name (name_at s.numbering k)))) (ap (row_with s) same ∙ ap (option_map (row_of s k)) at)
        ∙ ap (λ b. if not b then Some (row_of s k t) else None) (named_as k k t t at at ∙ eq-eqb k k refl))
    | inr differs ↦ others j differs ∙ other j differs (task_at s.tree j) refl
  ])
    where
      other : (j : ℕ) → j ≢ k → (o : Option Task) → task_at s.tree j ≡ o
          → option_map (row_of s j) (task_at s.tree j) ≡ option_filter (λ row. not (same_name row.name (name_at s.numbering k))) (option_map (row_of s j) (task_at s.tree j))
      other j differs None e = rw e refl
      other j differs (Some v) e = rw e (ap (λ b. if not b then Some (row_of s j v) else None) (sym (named_as j k v t e at ∙ apart j k differs)))

-- one task more
pub rows-insert : (s s' : Store) (l : IsLawful s) (l' : IsLawful s') → s'.numbering.pid_max ≡ s.numbering.pid_max
    → (key : ℕ) (t : Task) → task_at s.tree key ≡ None → identifier_at s.numbering key ≡ None → task_at s'.tree key ≡ Some t
    → ((k : ℕ) → k ≢ key → number_of s'.numbering k 0 ≡ number_of s.numbering k 0) → ((k : ℕ) → k ≢ key → row_with s' k ≡ row_with s k)
    → (state_of s').rows ≡ insert_row (row_of s' key t) (state_of s).rows
rows-insert s s' l l' bound key t fresh unnamed at roots others =
    let u = named s' l' key t at in
    let root = root-number s' l' key u.0 u.1 in
    ap (collect (row_numbered s' 0) 0) bound
    ∙ collect-insert (λ (r : Row). root_number r.name) (row_numbered s 0) (keyed s l) (row_of s' key t) (row_numbered s' 0) (root_number (name_at s'.numbering key)) 0 s.numbering.pid_max refl
    (free (root_number (name_at s'.numbering key)) root (row_numbered s 0 (root_number (name_at s'.numbering key))) refl)
    (row-at s' l' key 0 (root_number (name_at s'.numbering key)) t at root)
    (λ n differs. same n (λ e. differs (let z : Some (root_number (name_at s'.numbering key)) ≡ Some n = sym root ∙ e in ap (λ o. option_map_or (λ m. m) o n) (sym z))))
    (omega arith) (let r = (l'.numbering.range key 0 (root_number (name_at s'.numbering key)) root).1 in omega (arith, r, bound))
  where
    -- a key that stood was another
    other : (k : ℕ) (v : Task) → task_at s.tree k ≡ Some v → k ≢ key
    other k v e same = let z : None ≡ Some v = sym fresh ∙ ap (task_at s.tree) (sym same) ∙ e in cc

    free : (n : ℕ) → number_of s'.numbering key 0 ≡ Some n → (o : Option Row) → row_numbered s 0 n ≡ o → row_numbered s 0 n ≡ None
    free n root None is = is
    free n root (Some r) is =
        let f = row-from s l 0 n r is in
        absurd (other f.0 f.1 f.2 (l'.numbering.distinct f.0 key 0 n (roots f.0 (other f.0 f.1 f.2) ∙ f.3) root))

    same : (n : ℕ) → number_of s'.numbering key 0 ≢ Some n → row_numbered s' 0 n ≡ row_numbered s 0 n
    same n away = new (row_numbered s' 0 n) refl
      where
        old : (o : Option Row) → row_numbered s 0 n ≡ o → row_numbered s' 0 n ≡ None → None ≡ o
        old None is none = refl
        old (Some r) is none =
            let f = row-from s l 0 n r is in
            let differs = other f.0 f.1 f.2 in
            let with : row_with s' f.0 ≡ Some r = others f.0 differs ∙ ap (option_map (row_of s f.0)) f.2 ∙ ap Some (sym f.4) in
            let here : row_numbered s' 0 n ≡ row_with s' f.0 = ap (option_and_then (row_with s')) (key-of s'.numbering l'.numbering 0 n f.0 (roots f.0 differs ∙ f.3)) in
            sym none ∙ here ∙ with

        new : (o : Option Row) → row_numbered s' 0 n ≡ o → row_numbered s' 0 n ≡ row_numbered s 0 n
        new None is = is ∙ old (row_numbered s 0 n) refl is ∙ refl
        new (Some r) is =
            let f = row-from s' l' 0 n r is in
            let differs : f.0 ≢ key = (λ e. away (ap (λ k. number_of s'.numbering k 0) (sym e) ∙ f.3)) in
            let here : row_numbered s 0 n ≡ row_with s f.0 = ap (option_and_then (row_with s)) (key-of s.numbering l.numbering 0 n f.0 (sym (roots f.0 differs) ∙ f.3)) in
            is ∙ ap Some f.4 ∙ sym (ap (option_map (row_of s' f.0)) f.2) ∙ others f.0 differs ∙ sym here
