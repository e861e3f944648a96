-- Marks of keys whose way up leads to the first task.
use Rattle.std.proofs.Common.{◌≡◌, ◌⊎◌, inl, inr, ℕ, zero, suc, ◌<◌, ◌≤◌, Bool, true, false, List, length, get_or, Some, None, sym, ap, subst, ◌∙◌, arith}
use Rattle.std.specs.Prelude.{slice_index_or, slice_set, replicate}
use Rattle.std.specs.Option.{option_map_or}
use Rattle.std.proofs.lemmas.Bool.{cases_eq}
use Rattle.std.proofs.lemmas.List.{get_or-set_same, get_or-set_other, get_or-replicate, get_or_past, length-set, length-replicate}
use Rattle.pid_types.specs.Chains.{climb}
use Rattle.pid_types.specs.Membership.{IsIn}
use Rattle.model_laws.proofs.Chains.{climb_cases, IsIn-climb_first, IsIn-climb_parent}
use Rattle.task_tree.specs.Tree.{parent_of}
use Rattle.task_table.specs.Store.{Store}
use Rattle.task_table.specs.Lawful.{IsLawful}
use Rattle.sound_store.specs.Ways.{IsFirstTask, LeadsUp, Reaches, AreReached}

-- no mark
blank : (n k : ℕ) → slice_index_or (replicate n false) k false ≡ true → ⊥
blank n k e = go (cases_le k n)
  where
    cases_le : (a b : ℕ) → (a < b) ⊎ (b ≤ a)
    cases_le zero zero = inr (omega arith)
    cases_le zero (suc b) = inl (omega arith)
    cases_le (suc a) zero = inr (omega arith)
    cases_le (suc a) (suc b) = elim (cases_le a b) [ inl h ↦ inl (omega (arith, h)) | inr h ↦ inr (omega (arith, h)) ]

    go : (k < n) ⊎ (n ≤ k) → ⊥
    go (inl h) = let z : false ≡ true = sym (get_or-replicate n k false false h) ∙ e in cc
    go (inr h) = let z : false ≡ true = sym (get_or_past (replicate n false) k false (let l = length-replicate n false in omega (arith, h, l))) ∙ e in cc

module _ (s : Store) where
  -- the first task leads to itself
  pub reaches-first : (k : ℕ) → IsFirstTask s k → Reaches s k
  reaches-first k one = (1, (k, one, IsIn-climb_first (parent_of s.tree) 0 k))

  -- one whose parent leads up does too
  pub reaches-child : (k p : ℕ) → parent_of s.tree k ≡ Some p → Reaches s p → Reaches s k
  reaches-child k p up r = (suc r.0, (r.1.0, r.1.1, IsIn-climb_parent (parent_of s.tree) r.0 k p r.1.0 up r.1.2))

  -- and the other way, but at the first
  pub reaches-parent : (k p : ℕ) → parent_of s.tree k ≡ Some p → (IsFirstTask s k → ⊥) → Reaches s k → Reaches s p
  unfolding climb
  reaches-parent k p up differs r = go r.0 r.1
    where
      go : (most : ℕ) → LeadsUp s most k → Reaches s p
      go zero w = absurd w.2
      go (suc most) w = elim (climb_cases (parent_of s.tree) most k w.0 w.2) [
        | inl same ↦ absurd (differs (subst (IsFirstTask s) same w.1))
        | inr q ↦
            let z : Some q.0 ≡ Some p = sym q.1 ∙ up in
            (most, (w.0, w.1, subst (λ x. IsIn w.0 (climb (parent_of s.tree) most x)) (ap (λ o. option_map_or (λ n. n) o p) z) q.2))
      ]

  -- one more mark
  pub marked-set : (known : List Bool) (k : ℕ) → k < length known → Reaches s k → AreReached s known → AreReached s (slice_set known k true)
  marked-set known k lt reach h = record {
    room = length-set known k true ∙ h.room;
    first = λ j one. elim (cases_eq j k) [
      | inl same ↦ ap (λ i. get_or (slice_set known k true) i false) same ∙ get_or-set_same known k true false lt
      | inr differs ↦ get_or-set_other known k j true false differs ∙ h.first j one
    ];
    reach = λ j on. elim (cases_eq j k) [
      | inl same ↦ subst (Reaches s) (sym same) reach
      | inr differs ↦ h.reach j (sym (get_or-set_other known k j true false differs) ∙ on)
    ];
  }

  -- the first mark of all
  pub marked-one : (l : IsLawful s) (n k : ℕ) → n ≡ length s.tree.tasks → k < n → IsFirstTask s k → AreReached s (slice_set (replicate n false) k true)
  marked-one l n k room lt one = record {
    room = length-set (replicate n false) k true ∙ length-replicate n false ∙ room;
    first = λ j also. ap (λ i. get_or (slice_set (replicate n false) k true) i false) (l.numbering.distinct j k 0 1 also one) ∙ get_or-set_same (replicate n false) k true false long;
    reach = λ j on. elim (cases_eq j k) [
      | inl same ↦ subst (Reaches s) (sym same) (reaches-first k one)
      | inr differs ↦ absurd (blank n j (sym (get_or-set_other (replicate n false) k j true false differs) ∙ on))
    ];
  }
    where
      long : k < length (replicate n false)
      long = let e = length-replicate n false in omega (arith, lt, e)

  -- what is not marked is not the first
  pub unmarked : (known : List Bool) (k : ℕ) → AreReached s known → slice_index_or known k false ≡ false → IsFirstTask s k → ⊥
  unmarked known k h off one = let z : true ≡ false = sym (h.first k one) ∙ off in cc

  -- ---- a walk up that met no mark yet

  -- the keys of a way are not marked, but those that are still to come
  abbrev pub IsAhead : List Bool → ℕ → ℕ → ℕ → Type 0
  IsAhead known key left at = (x : ℕ) → IsIn x (climb (parent_of s.tree) s.numbering.pid_max key)
      → (slice_index_or known x false ≡ false) ⊎ IsIn x (climb (parent_of s.tree) left at)

  pub ahead-on : (known : List Bool) (key left at p : ℕ) → slice_index_or known at false ≡ false → parent_of s.tree at ≡ Some p → IsAhead known key (suc left) at → IsAhead known key left p
  ahead-on known key left at p off up before x i = go (before x i)
    where
      go : (slice_index_or known x false ≡ false) ⊎ IsIn x (climb (parent_of s.tree) (suc left) at) → (slice_index_or known x false ≡ false) ⊎ IsIn x (climb (parent_of s.tree) left p)
      go (inl e) = inl e
      go (inr j) = elim (climb_cases (parent_of s.tree) left at x j) [
        | inl same ↦ inl (ap (λ k. slice_index_or known k false) same ∙ off)
        | inr q ↦ (let z : Some q.0 ≡ Some p = sym q.1 ∙ up in
            inr (subst (λ k. IsIn x (climb (parent_of s.tree) left k)) (ap (λ o. option_map_or (λ n. n) o p) z) q.2))
      ]

  -- a walk that ended at no mark
  pub ahead-none : (known : List Bool) (key left at : ℕ) → AreReached s known → slice_index_or known at false ≡ false → parent_of s.tree at ≡ None → IsAhead known key left at
      → LeadsUp s s.numbering.pid_max key → ⊥
  unfolding climb
  ahead-none known key left at h off top before w = go left (before w.0 w.2)
    where
      go : (left : ℕ) → (slice_index_or known w.0 false ≡ false) ⊎ IsIn w.0 (climb (parent_of s.tree) left at) → ⊥
      go left (inl e) = unmarked known w.0 h e w.1
      go zero (inr j) = j
      go (suc left) (inr j) = elim (climb_cases (parent_of s.tree) left at w.0 j) [
        | inl same ↦ unmarked known w.0 h (ap (λ k. slice_index_or known k false) same ∙ off) w.1
        | inr q ↦ (let z : None ≡ Some q.0 = sym top ∙ q.1 in let never : ⊥ = cc in never)
      ]

  -- a walk that took all its steps
  pub ahead-out : (known : List Bool) (key at : ℕ) → AreReached s known → IsAhead known key 0 at → LeadsUp s s.numbering.pid_max key → ⊥
  unfolding climb
  ahead-out known key at h before w = elim (before w.0 w.2) [ inl e ↦ unmarked known w.0 h e w.1 | inr j ↦ j ]
