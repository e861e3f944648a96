-- The tasks of a namespace by a walk over its numbers, and in the model.
use Rattle.std.proofs.Common.{◌≡◌, ◌≢◌, ◌⊎◌, inl, inr, ℕ, zero, suc, ◌+◌, ◌<◌, ◌≤◌, ◌==◌, Bool, true, false, nat_le, List, [], ◌∷◌, ◌++◌, length, take, filter, filter_map, Option, Some, None, IsSome, is_some, if◌then◌else◌, cond, option_map, refl, sym, ap, subst, ◌∙◌, arith}
use Rattle.std.specs.Option.{option_eq}
use Rattle.std.specs.List.Sorted.{IsPermutation, IsSorted}
use Rattle.std.specs.Ordering.{nat_cmp}
use Rattle.std.proofs.lemmas.Bool.{cases_eq, eq-eqb}
use Rattle.std.proofs.lemmas.List.Sorted.{IsNonDecreasingBy-from_sort, length_permutation}
use Rattle.std.proofs.lemmas.List.{length-append, take_all}
use Rattle.std.proofs.lemmas.List.Sums.{sum_by-append}
use Rattle.pid_types.proofs.General.{apart, held, some_number}
use Rattle.pid_types.specs.declared.call.Kind.TheVariants.{Task as AsTask}
use Rattle.pid_types.specs.Membership.{IsIn}
use Rattle.pid_types.specs.Names.{number}
use Rattle.model_laws.proofs.Lists.{IsIn-append, IsIn-append_left, IsIn-append_right, IsIn-filter, IsIn-from_filter, IsIn-filter_map, IsIn-from_filter_map}
use Rattle.member_lists.specs.Owners.{times}
use Rattle.pid_numbers.specs.Numbering.{Identifier, id_at, identifier_at, number_of, IsNumberUsedAs}
use Rattle.task_tree.specs.declared.Task.{Task}
use Rattle.task_tree.specs.Tree.{task_at}
use Rattle.task_table.specs.Store.{Store}
use Rattle.task_table.specs.View.{name_at, row_of, state_of}
use Rattle.task_table.specs.Lawful.{IsLawful}
use Rattle.task_table.proofs.Around.{number-own}
use Rattle.task_table.proofs.Keys.{home-id, number-is_key}
use Rattle.task_table.proofs.LookUps.{named, in-rows, rows-in}
use Rattle.translate.specs.declared.members.Asked.{Asked}
use Rattle.translate.specs.declared.members.Reach.{Reach}
use Rattle.translate.specs.declared.members.Reach.TheVariants.{Own, Subtree}
use Rattle.translate.specs.Gathered.{numbers_of_keys}
use Rattle.translate.specs.Members.{is_among, visible_numbers}
use Rattle.translate.specs.Pages.{AreListedFrom, AreLeastFrom}
use Rattle.translate.specs.Passed.{is_reached, numbers_passed, IsBehindCursor, ArePassed, ArePassedFor}
use Rattle.translate.proofs.LeastFrom.{least}
use Rattle.translate.proofs.Parts.{task-used, used-task}
use Rattle.translate.proofs.Rising.{zero-of, times-cons, times-IsIn, times-permuted, IsIn-permuted, IsIn-unpermuted, rising-once}

module _ (s : Store) (l : IsLawful s) (asked : Asked) where
  -- the number that one task adds
  added-in : (k m : ℕ) → IsIn m (numbers_passed s.numbering asked k) → (is_reached s.numbering asked.reach asked.space k ≡ true) × (asked.from ≤ m) × (number_of s.numbering k asked.viewer ≡ Some m)
  added-in k m on = go (is_reached s.numbering asked.reach asked.space k) refl on
    where
      go : (b : Bool) → is_reached s.numbering asked.reach asked.space k ≡ b → IsIn m (if b then numbers_of_keys s.numbering asked.viewer asked.from (k ∷ []) else [])
          → (is_reached s.numbering asked.reach asked.space k ≡ true) × (asked.from ≤ m) × (number_of s.numbering k asked.viewer ≡ Some m)
      go false is on = absurd on
      go true is on =
          let f = IsIn-from_filter (nat_le asked.from) m (filter_map (λ j. number_of s.numbering j asked.viewer) (k ∷ [])) on in
          let g = IsIn-from_filter_map (λ j. number_of s.numbering j asked.viewer) m (k ∷ []) f.0 in
          (is, grind (arith, f.1), mine g.0 g.1 g.2)
        where
          mine : (j : ℕ) → IsIn j (k ∷ []) → number_of s.numbering j asked.viewer ≡ Some m → number_of s.numbering k asked.viewer ≡ Some m
          mine j (inl same) has = ap (λ i. number_of s.numbering i asked.viewer) (sym same) ∙ has
          mine j (inr none) has = absurd none

  added-of : (k m : ℕ) → is_reached s.numbering asked.reach asked.space k ≡ true → asked.from ≤ m → number_of s.numbering k asked.viewer ≡ Some m → IsIn m (numbers_passed s.numbering asked k)
  added-of k m meant le has =
      subst (λ b. IsIn m (if b then numbers_of_keys s.numbering asked.viewer asked.from (k ∷ []) else [])) (sym meant)
      (IsIn-filter (nat_le asked.from) m (filter_map (λ j. number_of s.numbering j asked.viewer) (k ∷ []))
      (IsIn-filter_map (λ j. number_of s.numbering j asked.viewer) k m (k ∷ []) (inl refl) has) (grind (arith, le)))

  added-once : (k m : ℕ) → times m (numbers_passed s.numbering asked k) ≤ 1
  added-once k m = go (is_reached s.numbering asked.reach asked.space k)
    where
      one : (x : ℕ) → times m (x ∷ []) ≤ 1
      one x = test (x == m) (times-cons m x [])
        where
          test : (b : Bool) → times m (x ∷ []) ≡ cond {A = ℕ} b 1 0 + times m [] → times m (x ∷ []) ≤ 1
          test true e = omega (arith, e)
          test false e = omega (arith, e)

      go : (b : Bool) → times m (if b then numbers_of_keys s.numbering asked.viewer asked.from (k ∷ []) else []) ≤ 1
      go false = omega arith
      go true = has (number_of s.numbering k asked.viewer) refl
        where
          has : (o : Option ℕ) → number_of s.numbering k asked.viewer ≡ o → times m (numbers_of_keys s.numbering asked.viewer asked.from (k ∷ [])) ≤ 1
          has None is = rw is (omega arith)
          has (Some x) is = test (nat_le asked.from x) refl
            where
              test : (b : Bool) → nat_le asked.from x ≡ b → times m (numbers_of_keys s.numbering asked.viewer asked.from (k ∷ [])) ≤ 1
              test false out = rw (is, out) (omega arith)
              test true out = rw (is, out) (one x)

  -- one task adds at most one number
  added-few : (k : ℕ) → length (numbers_passed s.numbering asked k) ≤ 1
  added-few k = go (is_reached s.numbering asked.reach asked.space k)
    where
      go : (b : Bool) → length (if b then numbers_of_keys s.numbering asked.viewer asked.from (k ∷ []) else []) ≤ 1
      go false = omega arith
      go true = has (number_of s.numbering k asked.viewer) refl
        where
          has : (o : Option ℕ) → number_of s.numbering k asked.viewer ≡ o → length (numbers_of_keys s.numbering asked.viewer asked.from (k ∷ [])) ≤ 1
          has None is = rw is (omega arith)
          has (Some x) is = test (nat_le asked.from x) refl
            where
              test : (b : Bool) → nat_le asked.from x ≡ b → length (numbers_of_keys s.numbering asked.viewer asked.from (k ∷ [])) ≤ 1
              test false out = rw (is, out) (omega arith)
              test true out = rw (is, out) (omega arith)

  pub added-length : (k room : ℕ) (xs : List ℕ) → length xs ≤ room → length (xs ++ numbers_passed s.numbering asked k) ≤ room + 1
  added-length k room xs few = let one = added-few k in omega (arith, few, one, length-append xs (numbers_passed s.numbering asked k))

  -- in the viewer's own namespace a task has one number
  own-number : (cursor m : ℕ) → asked.viewer ≡ asked.space → (p : IsBehindCursor s asked cursor m) → p.own ≡ m
  own-number cursor m same p =
      let z : Some p.own ≡ Some m = sym p.inside ∙ ap (number_of s.numbering p.key) (sym same) ∙ p.has in
      cc

  -- there nobody below the first number that is listed is asked for
  pub none-below : asked.viewer ≡ asked.space → ArePassed s asked asked.from []
  none-below same = record {
    once = λ m. omega arith;
    each = λ m. ((λ on. absurd on), (λ h. absurd (let lt = h.1.passed in let is = own-number asked.from m same h.1 in let le = h.0 in omega (arith, lt, is, le))));
  }

  -- nobody is passed at first
  pub none-passed : ArePassed s asked 0 []
  none-passed = record { once = λ m. omega arith; each = λ m. ((λ on. absurd on), (λ h. let lt = h.1.passed in absurd (omega (arith, lt)))) }

  -- the task with the next number is passed
  pub one-passed : (at n k : ℕ) (xs : List ℕ) → ArePassed s asked at xs → at ≤ n → number_of s.numbering k asked.space ≡ Some n → IsNumberUsedAs s.numbering AsTask asked.space n
      → ((m : ℕ) → at ≤ m → IsNumberUsedAs s.numbering AsTask asked.space m → n ≤ m) → ArePassed s asked (n + 1) (xs ++ numbers_passed s.numbering asked k)
  one-passed at n k xs was le here used least = record { once = once; each = λ m. (to m, of m) }
    where
      is_task : IsSome (task_at s.tree k)
      is_task =
          let t = used-task s l used.key used.used in
          ap is_some (ap (task_at s.tree) (l.numbering.distinct k used.key asked.space n here used.has) ∙ t.1)

      -- it was not passed before
      fresh : (m : ℕ) → IsIn m xs → IsIn m (numbers_passed s.numbering asked k) → ⊥
      fresh m on again =
          let p = ((was.each m).0 on).1 in
          let same = l.numbering.distinct p.key k asked.viewer m p.has (added-in k m again).2 in
          let number : Some p.own ≡ Some n = sym p.inside ∙ ap (λ j. number_of s.numbering j asked.space) same ∙ here in
          let equal : p.own ≡ n = cc in
          let lt = p.passed in
          absurd (omega (arith, equal, lt, le))

      once : (m : ℕ) → times m (xs ++ numbers_passed s.numbering asked k) ≤ 1
      once m = go (times m xs) refl
        where
          sum : times m (xs ++ numbers_passed s.numbering asked k) ≡ times m xs + times m (numbers_passed s.numbering asked k)
          sum = sum_by-append (λ j. cond {A = ℕ} (j == m) 1 0) xs (numbers_passed s.numbering asked k)

          go : (c : ℕ) → times m xs ≡ c → times m (xs ++ numbers_passed s.numbering asked k) ≤ 1
          go zero none = let few = added-once k m in omega (arith, sum, none, few)
          go (suc c) some =
              let none = zero-of (times m (numbers_passed s.numbering asked k)) (λ more. fresh m (times-IsIn m xs (omega (arith, some))) (times-IsIn m (numbers_passed s.numbering asked k) more)) in
              let few = was.once m in
              omega (arith, sum, none, few)

      to : (m : ℕ) → IsIn m (xs ++ numbers_passed s.numbering asked k) → (asked.from ≤ m) × IsBehindCursor s asked (n + 1) m
      to m on = go (IsIn-append m xs (numbers_passed s.numbering asked k) on)
        where
          go : IsIn m xs ⊎ IsIn m (numbers_passed s.numbering asked k) → (asked.from ≤ m) × IsBehindCursor s asked (n + 1) m
          go (inl old) =
              let h = (was.each m).0 old in
              let p = h.1 in
              let lt = p.passed in
              (h.0, record { key = p.key; task = p.task; meant = p.meant; own = p.own; inside = p.inside; passed = omega (arith, lt, le); has = p.has })
          go (inr new) =
              let h = added-in k m new in
              (h.1, record { key = k; task = is_task; meant = h.0; own = n; inside = here; passed = omega arith; has = h.2 })

      of : (m : ℕ) → (asked.from ≤ m) × IsBehindCursor s asked (n + 1) m → IsIn m (xs ++ numbers_passed s.numbering asked k)
      of m h = elim (cases_eq h.1.own n) [
        | inl same ↦
            let j = l.numbering.distinct h.1.key k asked.space n (h.1.inside ∙ ap Some same) here in
            IsIn-append_right m xs (numbers_passed s.numbering asked k)
            (added-of k m (ap (is_reached s.numbering asked.reach asked.space) (sym j) ∙ h.1.meant) h.0 (ap (λ i. number_of s.numbering i asked.viewer) (sym j) ∙ h.1.has))
        | inr differs ↦ IsIn-append_left m xs (numbers_passed s.numbering asked k) ((was.each m).1 (h.0, before h.1 differs))
      ]
        where
          before : (p : IsBehindCursor s asked (n + 1) m) → p.own ≢ n → IsBehindCursor s asked at m
          before p differs = record { key = p.key; task = p.task; meant = p.meant; own = p.own; inside = p.inside; passed = below (nat_le at p.own) refl; has = p.has }
            where
              below : (b : Bool) → nat_le at p.own ≡ b → p.own < at
              below true is =
                  let up : at ≤ p.own = grind (arith, is) in
                  let t = held (task_at s.tree p.key) p.task in
                  let far = least p.own up (record { key = p.key; has = p.inside; used = task-used s l p.key t.0 t.1 }) in
                  let lt = p.passed in
                  absurd (differs (omega (arith, far, lt)))
              below false is = grind (arith, is)

  -- each number is in its range
  in-range : (cursor m : ℕ) → IsBehindCursor s asked cursor m → IsBehindCursor s asked s.numbering.pid_max m
  in-range cursor m p = record {
    key = p.key;
    task = p.task;
    meant = p.meant;
    own = p.own;
    inside = p.inside;
    passed = (l.numbering.range p.key asked.space p.own p.inside).1;
    has = p.has;
  }

  -- where no number is left, all are passed
  pub all-passed : (at : ℕ) (xs : List ℕ) → ArePassed s asked at xs → ((m : ℕ) → at ≤ m → IsNumberUsedAs s.numbering AsTask asked.space m → ⊥) → ArePassed s asked s.numbering.pid_max xs
  all-passed at xs was none = record {
    once = was.once;
    each = λ m. (
      (λ on. let h = (was.each m).0 on in (h.0, in-range at m h.1)),
      (λ h. (was.each m).1 (h.0, before m h.1)),
    );
  }
    where
      before : (m : ℕ) → IsBehindCursor s asked s.numbering.pid_max m → IsBehindCursor s asked at m
      before m p = record { key = p.key; task = p.task; meant = p.meant; own = p.own; inside = p.inside; passed = below (nat_le at p.own) refl; has = p.has }
        where
          below : (b : Bool) → nat_le at p.own ≡ b → p.own < at
          below true is =
              let up : at ≤ p.own = grind (arith, is) in
              let t = held (task_at s.tree p.key) p.task in
              absurd (none p.own up (record { key = p.key; has = p.inside; used = task-used s l p.key t.0 t.1 }))
          below false is = grind (arith, is)

  module _ (i v : ℕ) (at : id_at s.numbering asked.space ≡ Some i) (at_viewer : id_at s.numbering asked.viewer ≡ Some v) where
    -- the model and the keys mean the same tasks
    among-is : (reach : Reach) (k : ℕ) (t : Task) → task_at s.tree k ≡ Some t → is_among (state_of s).spaces reach i (row_of s k t) ≡ is_reached s.numbering reach asked.space k
    among-is Subtree k t e = let u = named s l k t e in ap is_some (number-is_key s.numbering l.numbering asked.space i k u.0 at u.1)
    among-is Own k t e = go (cases_eq u.0.space asked.space)
      where
        u : (u : Identifier) × (identifier_at s.numbering k ≡ Some u)
        u = named s l k t e

        own : id_at s.numbering u.0.space ≡ Some (name_at s.numbering k).space
        own = home-id s.numbering l.numbering k u.0 u.1

        go : (u.0.space ≡ asked.space) ⊎ (u.0.space ≢ asked.space) → ((name_at s.numbering k).space == i) ≡ is_reached s.numbering Own asked.space k
        go (inl same) =
            let z : Some (name_at s.numbering k).space ≡ Some i = sym own ∙ ap (id_at s.numbering) same ∙ at in
            eq-eqb (name_at s.numbering k).space i (cc)
            ∙ sym (ap (λ o. option_eq ◌==◌ (option_map (λ (w : Identifier). w.space) o) (Some asked.space)) u.1 ∙ eq-eqb u.0.space asked.space same)
        go (inr differs) =
            apart (name_at s.numbering k).space i (λ same. differs (l.numbering.ids u.0.space asked.space i (own ∙ ap Some same) at))
            ∙ sym (ap (λ o. option_eq ◌==◌ (option_map (λ (w : Identifier). w.space) o) (Some asked.space)) u.1 ∙ apart u.0.space asked.space differs)

    -- who is meant has a number in the namespace
    inside-of : (reach : Reach) (k : ℕ) → is_reached s.numbering reach asked.space k ≡ true → (n : ℕ) × (number_of s.numbering k asked.space ≡ Some n)
    inside-of Subtree k meant = held (number_of s.numbering k asked.space) meant
    inside-of Own k meant = go (identifier_at s.numbering k) refl (some_number (option_map (λ (w : Identifier). w.space) (identifier_at s.numbering k)) asked.space meant)
      where
        go : (o : Option Identifier) → identifier_at s.numbering k ≡ o → option_map (λ (w : Identifier). w.space) o ≡ Some asked.space → (n : ℕ) × (number_of s.numbering k asked.space ≡ Some n)
        go None is e = absurd (cc)
        go (Some u) is e =
            let n = number-own s.numbering l.numbering k u is in
            let same : u.space ≡ asked.space = cc in
            (n.0, ap (number_of s.numbering k) (sym same) ∙ n.1)

    -- the numbers of the model are those of the keys
    to-passed : (m : ℕ) → IsIn m (visible_numbers (state_of s) asked.reach i v) → IsBehindCursor s asked s.numbering.pid_max m
    to-passed m on =
        let f = IsIn-from_filter_map (λ row. number (state_of s).spaces row.name v) m (filter (is_among (state_of s).spaces asked.reach i) (state_of s).rows) on in
        let g = IsIn-from_filter (is_among (state_of s).spaces asked.reach i) f.0 (state_of s).rows f.1 in
        let r = in-rows s l f.0 g.0 in
        let u = named s l r.0 r.1 r.2 in
        let meant = sym (among-is asked.reach r.0 r.1 r.2) ∙ sym (ap (is_among (state_of s).spaces asked.reach i) r.3) ∙ g.1 in
        let own = inside-of asked.reach r.0 meant in
        record {
          key = r.0;
          task = ap is_some r.2;
          meant = meant;
          own = own.0;
          inside = own.1;
          passed = (l.numbering.range r.0 asked.space own.0 own.1).1;
          has = sym (number-is_key s.numbering l.numbering asked.viewer v r.0 u.0 at_viewer u.1) ∙ ap (λ row. number (state_of s).spaces row.name v) (sym r.3) ∙ f.2;
        }

    of-passed : (m : ℕ) → IsBehindCursor s asked s.numbering.pid_max m → IsIn m (visible_numbers (state_of s) asked.reach i v)
    of-passed m p =
        let t = held (task_at s.tree p.key) p.task in
        let u = named s l p.key t.0 t.1 in
        IsIn-filter_map (λ row. number (state_of s).spaces row.name v) (row_of s p.key t.0) m (filter (is_among (state_of s).spaces asked.reach i) (state_of s).rows)
        (IsIn-filter (is_among (state_of s).spaces asked.reach i) (row_of s p.key t.0) (state_of s).rows (rows-in s l p.key t.0 t.1) (among-is asked.reach p.key t.0 t.1 ∙ p.meant))
        (number-is_key s.numbering l.numbering asked.viewer v p.key u.0 at_viewer u.1 ∙ p.has)

    -- what was gathered, in order
    pub listed : (xs ys : List ℕ) → ArePassed s asked s.numbering.pid_max xs → IsPermutation xs ys → IsSorted nat_cmp ys → AreListedFrom (visible_numbers (state_of s) asked.reach i v) asked.from ys
    listed xs ys g p sorted = record {
      rising = rising-once ys (IsNonDecreasingBy-from_sort (λ x. x) ys sorted) (λ m. let e = times-permuted m xs ys p in let one = g.once m in omega (arith, e, one));
      each = λ m. (
        (λ on. let h = (g.each m).0 (IsIn-unpermuted m xs ys p on) in (h.0, of-passed m h.1)),
        (λ h. IsIn-permuted m xs ys p ((g.each m).1 (h.0, to-passed m h.1))),
      );
    }

    -- of the viewer's own namespace, those below a cursor
    below-cursor : (cursor most : ℕ) (xs ys : List ℕ) → asked.viewer ≡ asked.space → length ys ≡ most → ArePassed s asked cursor xs → IsPermutation xs ys → IsSorted nat_cmp ys
        → AreLeastFrom (visible_numbers (state_of s) asked.reach i v) asked.from most ys
    below-cursor cursor most xs ys same many g p sorted = record {
      rising = rising-once ys (IsNonDecreasingBy-from_sort (λ x. x) ys sorted) (λ m. let e = times-permuted m xs ys p in let one = g.once m in omega (arith, e, one));
      few = omega (arith, many);
      each = λ m on. (let h = (g.each m).0 (IsIn-unpermuted m xs ys p on) in (h.0, of-passed m (in-range cursor m h.1)));
      others = λ m le on. other m le (to-passed m on);
    }
      where
        other : (m : ℕ) → asked.from ≤ m → IsBehindCursor s asked s.numbering.pid_max m → IsIn m ys ⊎ ((length ys ≡ most) × ((k : ℕ) → IsIn k ys → k < m))
        other m le q = go (nat_le cursor q.own) refl
          where
            go : (b : Bool) → nat_le cursor q.own ≡ b → IsIn m ys ⊎ ((length ys ≡ most) × ((k : ℕ) → IsIn k ys → k < m))
            go false is =
                let lt : q.own < cursor = grind (arith, is) in
                inl (IsIn-permuted m xs ys p ((g.each m).1 (le, record { key = q.key; task = q.task; meant = q.meant; own = q.own; inside = q.inside; passed = lt; has = q.has })))
            go true is = inr (many, below)
              where
                below : (k : ℕ) → IsIn k ys → k < m
                below k on =
                    let up : cursor ≤ q.own = grind (arith, is) in
                    let h = ((g.each k).0 (IsIn-unpermuted k xs ys p on)).1 in
                    let lt = h.passed in
                    let mine = own-number s.numbering.pid_max m same q in
                    let its = own-number cursor k same h in
                    omega (arith, up, lt, mine, its)

    -- what was gathered for a room, in order and cut
    pub listed_for : (room : ℕ) (xs ys front : List ℕ) → ArePassedFor s asked room xs → IsPermutation xs ys → IsSorted nat_cmp ys → front ≡ take (room + 1) ys
        → AreLeastFrom (visible_numbers (state_of s) asked.reach i v) asked.from (room + 1) front
    listed_for room xs ys front (inl all) p sorted cut =
        subst (AreLeastFrom (visible_numbers (state_of s) asked.reach i v) asked.from (room + 1)) (sym cut)
        (least (visible_numbers (state_of s) asked.reach i v) asked.from (room + 1) ys (listed xs ys all p sorted))
    listed_for room xs ys front (inr own) p sorted cut =
        let many : length ys ≡ room + 1 = length_permutation xs ys p ∙ own.1 in
        subst (AreLeastFrom (visible_numbers (state_of s) asked.reach i v) asked.from (room + 1)) (sym (cut ∙ take_all (room + 1) ys (omega (arith, many))))
        (below-cursor own.2.0 (room + 1) xs ys own.0 many own.2.1 p sorted)
