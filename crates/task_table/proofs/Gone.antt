-- What is left in a store when a task without children is gone.
use Rattle.std.proofs.Common.{◌≡◌, ◌≢◌, ◌⊎◌, inl, inr, ℕ, ◌+◌, ◌-◌, ◌<◌, Bool, true, false, ◌||◌, nat_lt, get_or, Option, Some, None, is_some, if◌then◌else◌, refl, sym, ap, ◌∙◌, arith, option_map, option_and_then}
use Rattle.std.specs.Prelude.{slice_set}
use Rattle.std.specs.Option.{option_map_or}
use Rattle.std.proofs.lemmas.Bool.{cases_eq}
use Rattle.std.proofs.lemmas.List.{get_or-set_same, get_or-set_other}
use Rattle.pids_charge.specs.Charges.{Home, home_at, live_at, zombies_at, kept, ChangesHome, home_id}
use Rattle.task_tree.specs.declared.Task.{Task}
use Rattle.task_tree.specs.Tree.{task_at, parent_of, lives}
use Rattle.task_table.specs.Store.{Store, IsLess, home_without}
use Rattle.task_table.proofs.Changes.{in_range, task_some}
use Rattle.task_table.specs.View.{row_of, row_with}
use Rattle.task_table.specs.Lawful.{IsLawful}
use Rattle.task_table.specs.Whole.{HasParents}
use Rattle.task_table.proofs.Sweeps.{name-less}
use Rattle.task_table.proofs.Changed.{row-left}

-- where a task is home there is a control group's key
home-there : (s : Store) → IsLawful s → (k : ℕ) (t : Task) → task_at s.tree k ≡ Some t → (h : Home) × (home_at s.charges t.home ≡ Some h)
home-there s l k t at = go (home_at s.charges t.home) refl (task_some s l.agree k t at)
  where
    go : (o : Option Home) → home_at s.charges t.home ≡ o → (0 < live_at s.charges t.home) ⊎ (0 < zombies_at s.charges t.home)
        → (h : Home) × (home_at s.charges t.home ≡ Some h)
    go (Some h) e either = (h, e)
    go None e (inl some) = absurd (let z : live_at s.charges t.home ≡ 0 = ap (λ o. option_map_or (λ h. h.live) o 0) e in omega (arith, some, z))
    go None e (inr some) = absurd (let z : zombies_at s.charges t.home ≡ 0 = ap (λ o. option_map_or (λ h. h.zombies) o 0) e in omega (arith, some, z))

-- a task is gone
pub record IsGone (s s' : Store) (k : ℕ) (t : Task) : Type 0 where
  pub tasks : s'.tree.tasks ≡ slice_set s.tree.tasks k None
  pub parent : parent_of s'.tree k ≡ None
  pub parents : (j : ℕ) → j ≢ k → parent_of s'.tree j ≡ parent_of s.tree j
  pub members : s'.members ≡ slice_set s.members k None
  pub home : ChangesHome s.charges s'.charges t.home (option_and_then (λ (h : Home). kept (home_without t h)) (home_at s.charges t.home))
  pub numbers : IsLess s.numbering s'.numbering

module _ (s s' : Store) (l : IsLawful s) (l' : IsLawful s') (kin : HasParents s) (k : ℕ) (t : Task) (at : task_at s.tree k ≡ Some t)
    (childless : (j : ℕ) → parent_of s.tree j ≢ Some k) (g : IsGone s s' k t) where
  pub gone : task_at s'.tree k ≡ None
  gone = ap (λ ts. get_or ts k None) g.tasks ∙ get_or-set_same s.tree.tasks k None None (in_range s.tree.tasks k (ap is_some at))

  pub others : (j : ℕ) → j ≢ k → task_at s'.tree j ≡ task_at s.tree j
  others j m = ap (λ ts. get_or ts j None) g.tasks ∙ get_or-set_other s.tree.tasks k j None None m

  -- who is left had another key
  other : (j : ℕ) (v : Task) → task_at s'.tree j ≡ Some v → j ≢ k
  other j v e same = let z : None ≡ Some v = sym gone ∙ ap (task_at s'.tree) (sym same) ∙ e in cc

  pub parents-left : HasParents s'
  parents-left j p e = elim (cases_eq j k) [
    | inl same ↦ absurd (let z : None ≡ Some p = sym g.parent ∙ ap (parent_of s'.tree) (sym same) ∙ e in cc)
    | inr differs ↦
        let old : parent_of s.tree j ≡ Some p = sym (g.parents j differs) ∙ e in
        let not : p ≢ k = λ same. childless j (old ∙ ap Some same) in
        ap is_some (others p not) ∙ kin j p old
  ]

  either : (b : Bool) (h : Home) → (if b then record h { live = h.live - 1 } else record h { zombies = h.zombies - 1 }).id ≡ h.id
  either true h = refl
  either false h = refl

  same_id : (h h' : Home) → kept (home_without t h) ≡ Some h' → h'.id ≡ h.id
  same_id h h' e = go ((home_without t h).stands || nat_lt 0 ((home_without t h).live + (home_without t h).zombies)) refl e ∙ either (lives t) h
    where
      go : (b : Bool) → ((home_without t h).stands || nat_lt 0 ((home_without t h).live + (home_without t h).zombies)) ≡ b → (if b then Some (home_without t h) else None) ≡ Some h' → h'.id ≡ (home_without t h).id
      go false is e = absurd (cc)
      go true is e = ap (λ (o : Option Home). option_map_or (λ x. x.id) o 0) (sym e)

  -- a control group's key keeps its id as long as a task has it as home
  home-left : (j : ℕ) (v : Task) → task_at s'.tree j ≡ Some v → home_id s'.charges v.home ≡ home_id s.charges v.home
  home-left j v e = go (cases_eq v.home t.home)
    where
      old : (h' : Home) → (o : Option Home) → home_at s.charges t.home ≡ o → option_and_then (λ (h : Home). kept (home_without t h)) o ≡ Some h' → h'.id ≡ home_id s.charges t.home
      old h' None is e = absurd (cc)
      old h' (Some h) is e = same_id h h' e ∙ sym (ap (λ (o : Option Home). option_map_or (λ x. x.id) o 0) is)

      go : (v.home ≡ t.home) ⊎ (v.home ≢ t.home) → home_id s'.charges v.home ≡ home_id s.charges v.home
      go (inr differs) = ap (λ (o : Option Home). option_map_or (λ x. x.id) o 0) (g.home.others v.home differs)
      go (inl same) =
          let h = home-there s' l' j v e in
          ap (λ (o : Option Home). option_map_or (λ x. x.id) o 0) h.1
          ∙ old h.0 (home_at s.charges t.home) refl (sym g.home.here ∙ sym (ap (home_at s'.charges) same) ∙ h.1)
          ∙ sym (ap (home_id s.charges) same)

  pub row_left : (j : ℕ) → j ≢ k → row_with s' j ≡ row_with s j
  row_left j m = go (task_at s'.tree j) refl
    where
      go : (o : Option Task) → task_at s'.tree j ≡ o → row_with s' j ≡ row_with s j
      go None e = ap (option_map (row_of s' j)) e ∙ sym (ap (option_map (row_of s j)) (sym (others j m) ∙ e))
      go (Some v) e =
          ap (option_map (row_of s' j)) e
          ∙ ap Some (row-left s s' l' (name-less s.numbering s'.numbering l.numbering g.numbers) j v e (g.parents j m) (λ p f. parents-left j p f)
          (ap (λ ms. get_or ms j None) g.members ∙ get_or-set_other s.members k j None None m) (home-left j v e))
          ∙ sym (ap (option_map (row_of s j)) (sym (others j m) ∙ e))
