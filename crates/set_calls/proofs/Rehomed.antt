-- What the model's state becomes when control groups change and no task does.
use Rattle.std.proofs.Common.{◌≡◌, ℕ, ◌+◌, ◌<◌, ◌==◌, ◌||◌, nat_lt, Bool, true, false, List, map, Option, Some, None, is_some, if◌then◌else◌, refl, sym, ap, subst, ◌∙◌, arith, option_map, option_and_then}
use Rattle.std.specs.Option.{option_map_or}
use Rattle.std.proofs.lemmas.Bool.Decides.{nat_tests}
use Rattle.std.proofs.lemmas.List.{map-id}
use Rattle.pid_types.specs.declared.plain.Row.{Row}
use Rattle.pid_types.specs.Outcome.{sweep}
use Rattle.pid_numbers.specs.Numbering.{number_of}
use Rattle.task_tree.specs.declared.Task.{Task}
use Rattle.task_tree.specs.Tree.{task_at, parent_of}
use Rattle.pids_charge.specs.Charges.{Home, home_at, kept, handed_on, home_id}
use Rattle.task_table.specs.Store.{Store, IsLess, HasNoThreads}
use Rattle.task_table.specs.View.{row_of, row_with, state_of}
use Rattle.task_table.specs.Lawful.{IsLawful}
use Rattle.task_table.specs.Whole.{HasParents}
use Rattle.task_table.proofs.InUse.{homed}
use Rattle.task_table.proofs.Rows.{rows-map}
use Rattle.task_table.proofs.Changed.{IsLess-same, swept}

-- the row in the control group that comes of its own
abbrev pub in_home : (ℕ → ℕ) → Row → Row
in_home f row = record row { home = f row.home }

module _ (s s' : Store) (l : IsLawful s) (l' : IsLawful s') (rest : s' ≡ record s { charges = s'.charges }) where
  -- parents are tasks as before
  pub parents-rehomed : HasParents s → HasParents s'
  parents-rehomed parents j p e = ap (λ x. is_some (task_at x.tree p)) rest ∙ parents j p (sym (ap (λ x. parent_of x.tree j) rest) ∙ e)

  row-rehomed : (f : ℕ → ℕ) (k : ℕ) (t : Task) → home_id s'.charges t.home ≡ f (home_id s.charges t.home) → row_of s' k t ≡ in_home f (row_of s k t)
  row-rehomed f k t home = ap (λ x. row_of x k t) rest ∙ ap (λ (i : ℕ). record (row_of s k t) { home = i }) home

  -- each task's row is in the control group that comes of its own
  rows-rehomed : (f : ℕ → ℕ) → ((k : ℕ) (t : Task) → task_at s.tree k ≡ Some t → home_id s'.charges t.home ≡ f (home_id s.charges t.home)) → (state_of s').rows ≡ map (in_home f) (state_of s).rows
  rows-rehomed f homes =
      rows-map s s' l l' (ap (λ x. x.numbering.pid_max) rest) (λ k t e. ap (λ x. number_of x.numbering k 0) rest) (in_home f) (λ k. go k (task_at s.tree k) refl)
    where
      go : (k : ℕ) (o : Option Task) → task_at s.tree k ≡ o → row_with s' k ≡ option_map (in_home f) (row_with s k)
      go k None e = ap (option_map (row_of s' k)) (ap (λ x. task_at x.tree k) rest ∙ e) ∙ sym (ap (λ o. option_map (in_home f) (option_map (row_of s k) o)) e)
      go k (Some t) e =
          ap (option_map (row_of s' k)) (ap (λ x. task_at x.tree k) rest ∙ e) ∙ ap Some (row-rehomed f k t (homes k t e))
          ∙ sym (ap (λ o. option_map (in_home f) (option_map (row_of s k) o)) e)

  -- so is the model's state, with the control groups
  pub rehomed : HasNoThreads s.threads → (f : ℕ → ℕ) → ((k : ℕ) (t : Task) → task_at s.tree k ≡ Some t → home_id s'.charges t.home ≡ f (home_id s.charges t.home))
      → sweep (record (state_of s) { rows = map (in_home f) (state_of s).rows; controls = s'.charges.controls }) ≡ state_of s'
  rehomed alone f homes =
      swept s.numbering l.numbering s' l' (subst HasNoThreads (sym (ap (λ x. x.threads) rest)) alone) (subst (IsLess s.numbering) (sym (ap (λ x. x.numbering) rest)) (IsLess-same s.numbering l.numbering))
      (record (state_of s) { rows = map (in_home f) (state_of s).rows; controls = s'.charges.controls }) (sym (rows-rehomed f homes)) refl refl refl refl (sym (ap (λ x. x.numbering.pid_max) rest))

  -- where each task is in the control group that it was in, these alone are different
  pub unmoved : HasNoThreads s.threads → ((k : ℕ) (t : Task) → task_at s.tree k ≡ Some t → home_at s'.charges t.home ≡ home_at s.charges t.home) → sweep (record (state_of s) { controls = s'.charges.controls }) ≡ state_of s'
  unmoved alone homes =
      ap (λ (rows : List Row). sweep (record (state_of s) { rows = rows; controls = s'.charges.controls })) (sym (map-id (state_of s).rows))
      ∙ rehomed alone (λ i. i) (λ k t e. ap (λ o. option_map_or (λ h. h.id) o 0) (homes k t e))

  -- the tasks of a control group that was removed are in its parent
  pub handed : HasNoThreads s.threads → (from to : ℕ) → ((k : ℕ) → home_at s'.charges k ≡ option_and_then (handed_on from to) (home_at s.charges k))
      → sweep (record (state_of s) { rows = map (in_home (λ i. if i == from then to else i)) (state_of s).rows; controls = s'.charges.controls }) ≡ state_of s'
  handed alone from to homes = rehomed alone (λ i. if i == from then to else i) (λ k t e.
      let h = homed s l k t e in
      ap (λ o. option_map_or (λ h. h.id) o 0) (homes t.home ∙ ap (option_and_then (handed_on from to)) h.1) ∙ id_of h.0 h.2 ∙ sym (ap (λ o. if option_map_or (λ h. h.id) o 0 == from then to else option_map_or (λ h. h.id) o 0) h.1))
    where
      stays : (h : Home) → 0 < h.live + h.zombies → kept (record h { id = to; stands = false }) ≡ Some (record h { id = to; stands = false })
      stays h some =
          let filled : nat_lt 0 (h.live + h.zombies) ≡ true = grind (arith, nat_tests, some) in
          ap (λ (b : Bool). if false || b then Some (record h { id = to; stands = false }) else None) filled

      id_of : (h : Home) → 0 < h.live + h.zombies → option_map_or (λ (h : Home). h.id) (handed_on from to h) 0 ≡ (if h.id == from then to else h.id)
      id_of h some = go (h.id == from)
        where
          go : (b : Bool) → option_map_or (λ (h : Home). h.id) (if b then kept (record h { id = to; stands = false }) else Some h) 0 ≡ (if b then to else h.id)
          go true = ap (λ o. option_map_or (λ (h : Home). h.id) o 0) (stays h some)
          go false = refl
