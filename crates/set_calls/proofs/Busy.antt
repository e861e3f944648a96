-- Whether a control group is busy, in the model and by its key.
use Rattle.std.proofs.Common.{◌≡◌, ℕ, ◌<◌, ◌==◌, ◌&&◌, ◌||◌, nat_lt, Bool, true, false, length, cond, Option, Some, None, refl, sym, ap, ◌∙◌, arith}
use Rattle.std.specs.Option.{option_eq}
use Rattle.std.specs.List.{list_any}
use Rattle.std.proofs.lemmas.Bool.{eq-eqb, eqb-true, and_parts}
use Rattle.std.proofs.lemmas.Bool.Decides.{nat_tests}
use Rattle.pid_types.specs.declared.plain.Row.{Row}
use Rattle.pid_types.specs.Names.{is_live}
use Rattle.pid_types.specs.Changes.{is_busy}
use Rattle.model_laws.proofs.Lists.{some_passes, list_any-from_one}
use Rattle.pids_charge.specs.Charges.{stands, live_at, home_id, is_occupied}
use Rattle.pids_charge.proofs.Sums.{sum-zero, sum_by-places}
use Rattle.task_tree.specs.declared.Task.{Task}
use Rattle.task_tree.specs.Tree.{task_at, lives}
use Rattle.task_table.specs.Store.{Store, lives_in, HasNoThreads}
use Rattle.task_table.proofs.Changes.{live_some}
use Rattle.task_table.proofs.Counts.{live-alone}
use Rattle.task_table.specs.View.{row_of, state_of}
use Rattle.task_table.specs.Lawful.{IsLawful}
use Rattle.task_table.proofs.LookUps.{in-rows, rows-in}
use Rattle.task_table.proofs.InUse.{live-home}

module _ (s : Store) (l : IsLawful s) (alone : HasNoThreads s.threads) (c : ℕ) (standing : stands s.charges c ≡ true) where
  abbrev lives_here : Row → Bool
  lives_here row = (row.home == home_id s.charges c) && is_live row

  -- a live row there is a live task with that key as its home
  here : (k : ℕ) (t : Task) → task_at s.tree k ≡ Some t → lives_here (row_of s k t) ≡ true → 0 < live_at s.charges c
  here k t e on =
      let h = and_parts (home_id s.charges t.home == home_id s.charges c) (lives t) on in
      let same : t.home ≡ c = l.controls t.home c (live-home s l k t e h.1 (alone.stays k)) standing (eqb-true (home_id s.charges t.home) (home_id s.charges c) h.0) in
      let some = live_some s l.agree k t e h.1 (alone.stays k) in
      let z = ap (live_at s.charges) same in
      omega (arith, some, z)

  -- where no such row is there is no such task
  nobody : list_any lives_here (state_of s).rows ≡ false → live_at s.charges c ≡ 0
  nobody none =
      live-alone s l alone c ∙ sum_by-places (λ o. cond {A = ℕ} (lives_in c o) 1 0) None s.tree.tasks
      ∙ sum-zero (length s.tree.tasks) (λ k. cond {A = ℕ} (lives_in c (task_at s.tree k)) 1 0) (λ k. ap (λ (b : Bool). cond {A = ℕ} b 1 0) (each k (task_at s.tree k) refl))
    where
      each : (k : ℕ) (o : Option Task) → task_at s.tree k ≡ o → lives_in c (task_at s.tree k) ≡ false
      each k None e = ap (lives_in c) e
      each k (Some t) e = ap (lives_in c) e ∙ go ((t.home == c) && lives t) refl
        where
          go : (b : Bool) → ((t.home == c) && lives t) ≡ b → b ≡ false
          go false is = refl
          go true is =
              let h = and_parts (t.home == c) (lives t) is in
              let home : (home_id s.charges t.home == home_id s.charges c) ≡ true = eq-eqb (home_id s.charges t.home) (home_id s.charges c) (ap (home_id s.charges) (eqb-true t.home c h.0)) in
              let on : lives_here (row_of s k t) ≡ true = (λ i. home i && h.1 i) in
              let some = list_any-from_one lives_here (state_of s).rows (row_of s k t) (rows-in s l k t e) on in
              absurd (let z : true ≡ false = sym some ∙ none in cc)

  live-is : list_any lives_here (state_of s).rows ≡ nat_lt 0 (live_at s.charges c)
  live-is = go (list_any lives_here (state_of s).rows) refl
    where
      go : (b : Bool) → list_any lives_here (state_of s).rows ≡ b → b ≡ nat_lt 0 (live_at s.charges c)
      go true e =
          let r = some_passes lives_here (state_of s).rows e in
          let f = in-rows s l r.0 r.1 in
          let some = here f.0 f.1 f.2 (sym (ap lives_here f.3) ∙ r.2) in
          sym (let z : nat_lt 0 (live_at s.charges c) ≡ true = grind (arith, nat_tests, some) in z)
      go false e = let none = nobody e in sym (let z : nat_lt 0 (live_at s.charges c) ≡ false = grind (arith, nat_tests, none) in z)

  -- a control group is busy in the model where it is by its key
  pub busy-is : is_busy (state_of s) (home_id s.charges c) ≡ is_occupied s.charges c
  unfolding is_busy
  busy-is = ap (λ (b : Bool). b || list_any (λ g. option_eq ◌==◌ g.parent (Some (home_id s.charges c))) s.charges.controls) live-is
