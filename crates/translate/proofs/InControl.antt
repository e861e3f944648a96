-- Who lives directly in a control group, in the model and by keys.
use Rattle.std.proofs.Common.{◌≡◌, ℕ, zero, suc, ◌≤◌, ◌==◌, ◌&&◌, Bool, true, false, List, filter, Option, Some, None, if◌then◌else◌, refl, sym, ap, ◌∙◌, arith}
use Rattle.std.specs.List.Sorted.{IsPermutation, IsSorted}
use Rattle.std.specs.Ordering.{nat_cmp}
use Rattle.std.proofs.lemmas.Bool.{eq-eqb, eqb-true}
use Rattle.std.proofs.lemmas.List.Sorted.{IsNonDecreasingBy-from_sort}
use Rattle.member_lists.specs.Owners.{times}
use Rattle.pid_types.specs.declared.plain.Row.{Row}
use Rattle.pid_types.specs.Membership.{IsIn}
use Rattle.pid_types.specs.Names.{number}
use Rattle.model_laws.proofs.Lists.{IsIn-filter, IsIn-from_filter, IsIn-filter_map, IsIn-from_filter_map}
use Rattle.pid_numbers.specs.Numbering.{id_at, number_of}
use Rattle.pids_charge.specs.Charges.{stands, home_id}
use Rattle.task_tree.specs.declared.Task.{Task}
use Rattle.task_tree.specs.Tree.{task_at, lives}
use Rattle.task_table.specs.Store.{Store, HasNoThreads}
use Rattle.task_table.specs.View.{row_of, state_of}
use Rattle.task_table.specs.Lawful.{IsLawful}
use Rattle.task_table.specs.Residents.{live_home, AreResidents}
use Rattle.task_table.proofs.Changes.{live_some}
use Rattle.task_table.proofs.Keys.{number-is_key}
use Rattle.task_table.proofs.Places.{each-in}
use Rattle.task_table.proofs.LookUps.{named, in-rows, rows-in}
use Rattle.translate.specs.Gathered.{numbers_of_keys}
use Rattle.translate.specs.Pages.{AreListedFrom}
use Rattle.translate.specs.Residents.{resides, residents_seen}
use Rattle.translate.proofs.Pages.{numbers-in, numbers-of, numbers-once}
use Rattle.translate.proofs.Rising.{times-IsIn, times-permuted, IsIn-permuted, IsIn-unpermuted, rising-once}

both-of : (a b : Bool) → (a && b) ≡ true → (a ≡ true) × (b ≡ true)
both-of true b e = (refl, e)
both-of false b e = absurd (cc)

module _ (s : Store) (l : IsLawful s) (alone : HasNoThreads s.threads) (home : ℕ) (up : stands s.charges home ≡ true) where
  -- a live task's home stands
  up-home : (k : ℕ) (t : Task) → task_at s.tree k ≡ Some t → lives t ≡ true → stands s.charges t.home ≡ true
  up-home k t there live = go (stands s.charges t.home) refl
    where
      go : (b : Bool) → stands s.charges t.home ≡ b → b ≡ true
      go true e = refl
      go false e = absurd (let some = live_some s l.agree k t there live (alone.stays k) in let none = l.ended t.home e in omega (arith, some, none))

  -- the group's id is that of one key alone
  home-told : (k : ℕ) (t : Task) → task_at s.tree k ≡ Some t → resides (home_id s.charges home) (row_of s k t) ≡ true → live_home (task_at s.tree k) ≡ Some home
  home-told k t there on =
      let b = both-of (home_id s.charges t.home == home_id s.charges home) (lives t) on in
      let same = l.controls t.home home (up-home k t there b.1) up (eqb-true (home_id s.charges t.home) (home_id s.charges home) b.0) in
      ap live_home there ∙ ap (λ b. if b then Some t.home else None) b.1 ∙ ap Some same

  told-home : (k : ℕ) → live_home (task_at s.tree k) ≡ Some home → (t : Task) × (task_at s.tree k ≡ Some t) × (resides (home_id s.charges home) (row_of s k t) ≡ true)
  told-home k e = go (task_at s.tree k) refl e
    where
      one : (t : Task) → (b : Bool) → lives t ≡ b → (if b then Some t.home else None) ≡ Some home → resides (home_id s.charges home) (row_of s k t) ≡ true
      one t true live e =
          let same : t.home ≡ home = cc in
          ap (λ b. (home_id s.charges t.home == home_id s.charges home) && b) live ∙ ap (λ b. b && true) (eq-eqb (home_id s.charges t.home) (home_id s.charges home) (ap (home_id s.charges) same))
      one t false live e = absurd (cc)

      go : (o : Option Task) → task_at s.tree k ≡ o → live_home o ≡ Some home → (t : Task) × (task_at s.tree k ≡ Some t) × (resides (home_id s.charges home) (row_of s k t) ≡ true)
      go None is e = absurd (cc)
      go (Some t) is e = (t, is, one t (lives t) refl e)

  module _ (sp : ℕ) (caller : Row) (at : id_at s.numbering sp ≡ Some caller.name.space) (keys : List ℕ) (mine : AreResidents s.tree home keys) where
    -- the numbers of the model are those of the keys
    tasks-to : (m k : ℕ) → IsIn k keys → number_of s.numbering k sp ≡ Some m → IsIn m (residents_seen (state_of s) (home_id s.charges home) caller)
    tasks-to m k on has =
        let t = told-home k (each-in (λ k. live_home (task_at s.tree k) ≡ Some home) keys mine.each k on) in
        let u = named s l k t.0 t.1 in
        IsIn-filter_map (λ row. number (state_of s).spaces row.name caller.name.space) (row_of s k t.0) m (filter (resides (home_id s.charges home)) (state_of s).rows)
        (IsIn-filter (resides (home_id s.charges home)) (row_of s k t.0) (state_of s).rows (rows-in s l k t.0 t.1) t.2)
        (number-is_key s.numbering l.numbering sp caller.name.space k u.0 at u.1 ∙ has)

    tasks-back : (m : ℕ) → IsIn m (residents_seen (state_of s) (home_id s.charges home) caller) → (k : ℕ) × IsIn k keys × (number_of s.numbering k sp ≡ Some m)
    tasks-back m on =
        let f = IsIn-from_filter_map (λ row. number (state_of s).spaces row.name caller.name.space) m (filter (resides (home_id s.charges home)) (state_of s).rows) on in
        let g = IsIn-from_filter (resides (home_id s.charges home)) f.0 (state_of s).rows f.1 in
        let r = in-rows s l f.0 g.0 in
        let h = home-told r.0 r.1 r.2 (sym (ap (resides (home_id s.charges home)) r.3) ∙ g.1) in
        let u = named s l r.0 r.1 r.2 in
        let one = mine.once r.0 h in (
          r.0,
          times-IsIn r.0 keys (omega (arith, one)),
          sym (number-is_key s.numbering l.numbering sp caller.name.space r.0 u.0 at u.1) ∙ ap (λ row. number (state_of s).spaces row.name caller.name.space) (sym r.3) ∙ f.2,
        )

    few : (k : ℕ) → times k keys ≤ 1
    few k = go (times k keys) refl
      where
        go : (c : ℕ) → times k keys ≡ c → times k keys ≤ 1
        go zero e = omega (arith, e)
        go (suc c) e = let one = mine.once k (each-in (λ k. live_home (task_at s.tree k) ≡ Some home) keys mine.each k (times-IsIn k keys (omega (arith, e)))) in omega (arith, one)

    -- what was gathered, in order
    pub residents-listed : (from : ℕ) (ys : List ℕ) → IsPermutation (numbers_of_keys s.numbering sp from keys) ys → IsSorted nat_cmp ys
        → AreListedFrom (residents_seen (state_of s) (home_id s.charges home) caller) from ys
    residents-listed from ys p sorted =
        let xs = numbers_of_keys s.numbering sp from keys in record {
          rising = rising-once ys (IsNonDecreasingBy-from_sort (λ x. x) ys sorted) (λ m. let e = times-permuted m xs ys p in let one = numbers-once s l sp from keys few m in omega (arith, e, one));
          each = λ m. (
            (λ on. let h = numbers-in s l sp from keys m (IsIn-unpermuted m xs ys p on) in (h.0, tasks-to m h.1.0 h.1.1 h.1.2)),
            (λ h. let b = tasks-back m h.1 in IsIn-permuted m xs ys p (numbers-of s l sp from keys m b.0 h.0 b.1 b.2)),
          );
        }
