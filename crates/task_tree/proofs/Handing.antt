-- All children of one task go to another.
use Rattle.std.proofs.Common.{◌≡◌, ◌≢◌, ◌⊎◌, inl, inr, ℕ, ◌<◌, Bool, true, false, List, length, Option, Some, None, option_map, refl, sym, ap, ◌∙◌, arith}
use Rattle.std.specs.Option.{option_map_or}
use Rattle.std.specs.Prelude.{slice_index_or, if◌then◌else◌}
use Rattle.std.proofs.lemmas.Bool.{cases_eq}
use Rattle.member_lists.proofs.Owners.{handed-from, handed-other}
use Rattle.member_lists.specs.Owners.{owner_of}
use Rattle.member_queues.specs.Ranks.{ranked}
use Rattle.task_tree.specs.declared.Task.{Task}
use Rattle.task_tree.specs.Tree.{IsTaskTree, is_zombie, waits_for, handed}
use Rattle.task_tree.proofs.Changes.{of_parent}

-- the rank among the children of the one or of the other
abbrev pub rank_handed : ℕ → ℕ → ℕ × ℕ → ℕ × ℕ
rank_handed from to m = (handed from to m.0, m.1)

pair_of : (p q r s : ℕ) → (o : Option (ℕ × ℕ)) → o ≡ Some (p, r) → o ≡ Some (q, s) → (p ≡ q) × (r ≡ s)
pair_of p q r s o a b =
    let e : Some (p, r) ≡ Some (q, s) = sym a ∙ b in
    (ap (λ o. option_map_or (λ (m : ℕ × ℕ). m.0) o 0) e, ap (λ o. option_map_or (λ (m : ℕ × ℕ). m.1) o 0) e)

module _ (from to : ℕ) (es : List (Option (ℕ × ℕ)))
    (one : (j k p r : ℕ) → ranked es j ≡ Some (p, r) → ranked es k ≡ Some (p, r) → j ≡ k)
    (apart : (j k r : ℕ) → ranked es j ≡ Some (from, r) → ranked es k ≢ Some (to, r)) where
  -- when the children of the two are one's, no rank comes twice
  pub apart-handed : (j k p r : ℕ) → option_map (rank_handed from to) (ranked es j) ≡ Some (p, r) → option_map (rank_handed from to) (ranked es k) ≡ Some (p, r) → j ≡ k
  apart-handed j k p r a b = go (ranked es j) refl (ranked es k) refl a b
    where
      meet : (pj pk : ℕ) → ranked es j ≡ Some (pj, r) → ranked es k ≡ Some (pk, r) → handed from to pj ≡ p → handed from to pk ≡ p → (pj ≡ from) ⊎ (pj ≢ from) → (pk ≡ from) ⊎ (pk ≢ from) → j ≡ k
      meet pj pk ej ek hj hk (inl fj) (inl fk) = one j k from r (ej ∙ ap (λ q. Some (q, r)) fj) (ek ∙ ap (λ q. Some (q, r)) fk)
      meet pj pk ej ek hj hk (inl fj) (inr nk) =
          let pk_to : pk ≡ to = sym (handed-other from to pk nk) ∙ hk ∙ sym hj ∙ ap (handed from to) fj ∙ handed-from from to in
          absurd (apart j k r (ej ∙ ap (λ q. Some (q, r)) fj) (ek ∙ ap (λ q. Some (q, r)) pk_to))
      meet pj pk ej ek hj hk (inr nj) (inl fk) =
          let pj_to : pj ≡ to = sym (handed-other from to pj nj) ∙ hj ∙ sym hk ∙ ap (handed from to) fk ∙ handed-from from to in
          absurd (apart k j r (ek ∙ ap (λ q. Some (q, r)) fk) (ej ∙ ap (λ q. Some (q, r)) pj_to))
      meet pj pk ej ek hj hk (inr nj) (inr nk) =
          one j k p r (ej ∙ ap (λ q. Some (q, r)) (sym (handed-other from to pj nj) ∙ hj)) (ek ∙ ap (λ q. Some (q, r)) (sym (handed-other from to pk nk) ∙ hk))

      go : (o : Option (ℕ × ℕ)) → ranked es j ≡ o → (q : Option (ℕ × ℕ)) → ranked es k ≡ q → option_map (rank_handed from to) o ≡ Some (p, r) → option_map (rank_handed from to) q ≡ Some (p, r) → j ≡ k
      go None oj q ok a b = absurd (cc)
      go (Some m) oj None ok a b = absurd (cc)
      go (Some m) oj (Some n) ok a b =
          let ha = pair_of _ _ _ _ (Some (rank_handed from to m)) refl a in
          let hb = pair_of _ _ _ _ (Some (rank_handed from to n)) refl b in
          meet m.0 n.0 (oj ∙ ap (λ s. Some (m.0, s)) ha.1) (ok ∙ ap (λ s. Some (n.0, s)) hb.1) ha.0 hb.0 (cases_eq m.0 from) (cases_eq n.0 from)

-- the parent of one that goes with its rank
through : (from to : ℕ) (o : Option (ℕ × ℕ)) → option_map of_parent (option_map (rank_handed from to) o) ≡ option_map (handed from to) (option_map of_parent o)
through from to None = refl
through from to (Some m) = refl

module _ (tasks : List (Option Task)) (ps : List (Option ℕ)) (es : List (Option (ℕ × ℕ))) (t : IsTaskTree tasks ps es) (from to : ℕ) (below : to < length tasks)
    (apart : (j k r : ℕ) → ranked es j ≡ Some (from, r) → ranked es k ≢ Some (to, r)) where
  -- all agree once all children have gone
  pub IsTree-handed : (ps' : List (Option ℕ)) (es' : List (Option (ℕ × ℕ))) → ((k : ℕ) → owner_of ps' k ≡ option_map (handed from to) (owner_of ps k))
      → ((k : ℕ) → ranked es' k ≡ option_map (rank_handed from to) (ranked es k)) → length ps' ≡ length ps → length es' ≡ length es → IsTaskTree tasks ps' es'
  IsTree-handed ps' es' parents ranks links heaps = record {
    links = let l = t.links in omega (arith, links, l);
    heaps = let l = t.heaps in omega (arith, heaps, l);
    few = t.few;
    known = λ k p e. known k p (owner_of ps k) refl (sym (parents k) ∙ e);
    absent = λ k e. parents k ∙ ap (option_map (handed from to)) (t.absent k e);
    waiting = λ k. ap (option_map of_parent) (ranks k) ∙ through from to (ranked es k) ∙ ap (option_map (handed from to)) (t.waiting k) ∙ over (is_zombie (slice_index_or tasks k None)) (owner_of ps k)
        ∙ sym (ap (waits_for (slice_index_or tasks k None)) (parents k));
    apart = λ j k p r a b. apart-handed from to es t.apart apart j k p r (sym (ranks j) ∙ a) (sym (ranks k) ∙ b);
  }
    where
      known : (k p : ℕ) (o : Option ℕ) → owner_of ps k ≡ o → option_map (handed from to) o ≡ Some p → (k < length tasks) × (p < length tasks)
      known k p None e z = absurd (cc)
      known k p (Some q) e z =
          let h = t.known k q e in
          let is : handed from to q ≡ p = ap (λ o. option_map_or (λ (n : ℕ). n) o 0) z in (
            h.0,
            elim (cases_eq q from) [
              | inl same ↦ (let p_to : p ≡ to = sym is ∙ ap (handed from to) same ∙ handed-from from to in omega (arith, p_to, below))
              | inr differs ↦ (let p_q : p ≡ q = sym is ∙ handed-other from to q differs in let l = h.1 in omega (arith, p_q, l))
            ],
          )

      over : (b : Bool) (o : Option ℕ) → option_map (handed from to) (if b then o else None) ≡ (if b then option_map (handed from to) o else None)
      over true o = refl
      over false o = refl
