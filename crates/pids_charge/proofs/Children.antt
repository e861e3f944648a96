-- The control groups directly in one, as its list has them.
use Rattle.pids_charge.proofs.Words.{◌≡◌, ℕ, ◌==◌, true, false, if◌then◌else◌, List, [], ◌∷◌, map, Option, Some, None, option_map, option_and_then, inl, inr, refl, sym, ap, ◌∙◌, arith}
use Rattle.pids_charge.proofs.Words.{cases_eq, eq-eqb, sum_by-cons, AllByRecursion, key_of, owner_of, parent_control, control_at, Control, Charges, home_id, stands}
use Rattle.pids_charge.proofs.Words.{IsListed, charges_of, IsNodeTree, TreeOfNodes, limit_in, tree_of}
use Rattle.std.proofs.Common.{Bool, cond, IfSome, IsSome, MatchOption}
use Rattle.member_lists.specs.Owners.{times, AreMembers}
use Rattle.pids_charge.specs.Charges.{AreControlsIn}
use Rattle.pids_charge.specs.declared.Controls.TheInside.{Inside}
use Rattle.pids_charge.proofs.Climbs.{eqb-apart}
use Rattle.pids_charge.proofs.Dropped.{all-weaken}
use Rattle.pids_charge.proofs.Views.{find_is, id_in, parent_seen, same_key, stand_in, stands-of}

-- a number comes as often among what the keys have as its key among them
times-mapped : (f : ℕ → ℕ) (n k : ℕ) (keys : List ℕ) → AllByRecursion (λ j. (f j == n) ≡ (j == k)) keys → times n (map f keys) ≡ times k keys
times-mapped f n k [] all = refl
times-mapped f n k (j ∷ keys) all =
    let first = sum_by-cons (λ x. cond {A = ℕ} (x == n) 1 0) (f j) (map f keys) in
    let second = sum_by-cons (λ x. cond {A = ℕ} (x == k) 1 0) j keys in
    let here : cond {A = ℕ} (f j == n) 1 0 ≡ cond (j == k) 1 0 = ap (λ b. cond {A = ℕ} b 1 0) all.0 in
    let rest = times-mapped f n k keys all.1 in
    omega (arith, first, second, here, rest)

-- what an option has that a test lets through
passed : (b : Bool) (o : Option ℕ) (c : ℕ) → (if b then o else None) ≡ Some c → (b ≡ true) × (o ≡ Some c)
passed true o c e = (refl, e)
passed false o c e = absurd (cc)

module _ (s : Inside) {v : Charges} (is : charges_of s.nodes s.ids ≡ v) (w : IsNodeTree (tree_of s.nodes)) (l : IsListed (tree_of s.nodes) s.children s.ids) (c : ℕ)
    (on : stands v c ≡ true) where
  abbrev t : TreeOfNodes
  t = tree_of s.nodes

  -- a child stands, and its parent is that group
  child-in : (k : ℕ) → owner_of s.children k ≡ Some c → (stands v k ≡ true) × (parent_control v.controls (home_id v k) ≡ Some (home_id v c))
  child-in k at =
      let child = passed (t.stand k) (t.up k) c (sym (l.owners k) ∙ at) in
      let up : stands v k ≡ true = stands-of s is k ∙ child.0 in
      (up, sym (parent_seen s is l w k up (Some c) child.1).0)

  -- who has that parent is a child
  in-child : (k : ℕ) → stands v k ≡ true → parent_control v.controls (home_id v k) ≡ Some (home_id v c) → owner_of s.children k ≡ Some c
  in-child k up parent = l.owners k ∙ ap (λ (b : Bool). if b then t.up k else None) (stand_in s is k up) ∙ go (t.up k) refl (parent_seen s is l w k up (t.up k) refl)
    where
      go : (o : Option ℕ) → t.up k ≡ o → (option_map (home_id v) o ≡ parent_control v.controls (home_id v k)) × IfSome o (λ p. stands v p ≡ true) → o ≡ Some c
      go None above seen = absurd (let z : None ≡ Some (home_id v c) = seen.0 ∙ parent in cc)
      go (Some p) above seen =
          let both : Some (home_id v p) ≡ Some (home_id v c) = seen.0 ∙ parent in
          let same : home_id v p ≡ home_id v c = cc in
          ap Some (same_key t (limit_in s.nodes) s.children s.ids l p c (stand_in s is p seen.1) (stand_in s is c on) (sym (id_in s is p seen.1) ∙ same ∙ id_in s is c on))

  pub listed : (keys : List ℕ) → AreMembers s.children c keys → AreControlsIn v c keys
  listed keys m = record {
    once = λ id parent. found id parent (key_of s.ids id) (find_is s is l id (key_of s.ids id) refl);
    each = all-weaken (λ k. owner_of s.children k ≡ Some c) (λ k. (stands v k ≡ true) × (parent_control v.controls (home_id v k) ≡ Some (home_id v c))) child-in keys m.owned;
  }
    where
      found : (id : ℕ) → parent_control v.controls id ≡ Some (home_id v c) → (r : Option ℕ)
          → MatchOption r (control_at v.controls id ≡ None) (λ c. IsSome (control_at v.controls id))
          × IfSome r (λ c. stands v c ≡ true) × IfSome r (λ c. home_id v c ≡ id) × IfSome r (λ c. (k : ℕ) → stands v k ≡ true → home_id v k ≡ id → k ≡ c)
          → times id (map (home_id v) keys) ≡ 1
      found id parent None f = absurd (let z : None ≡ Some (home_id v c) = sym (ap (option_and_then (λ (g : Control). g.parent)) f.0) ∙ parent in cc)
      found id parent (Some k) f =
          times-mapped (home_id v) id k keys (all-weaken (λ j. owner_of s.children j ≡ Some c) (λ j. (home_id v j == id) ≡ (j == k)) same keys m.owned)
          ∙ m.once k (in-child k f.1 (ap (parent_control v.controls) f.2 ∙ parent))
        where
          same : (j : ℕ) → owner_of s.children j ≡ Some c → (home_id v j == id) ≡ (j == k)
          same j at = elim (cases_eq j k) [
            | inl e ↦ eq-eqb (home_id v j) id (ap (home_id v) e ∙ f.2) ∙ sym (eq-eqb j k e)
            | inr d ↦ eqb-apart (home_id v j) id (λ e. d (f.3 j (child-in j at).0 e)) ∙ sym (eqb-apart j k d)
          ]
