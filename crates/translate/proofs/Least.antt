-- The next number in use, in the model and in a store.
use Rattle.std.proofs.Common.{◌≡◌, inl, inr, ℕ, ◌<◌, ◌≤◌, Bool, true, false, nat_lt, nat_le, List, [], ◌∷◌, filter, Option, Some, None, if◌then◌else◌, refl, sym, ap, subst, ◌∙◌, arith}
use Rattle.std.specs.Option.{option_map_or}
use Rattle.pid_types.specs.declared.call.Kind.{Kind}
use Rattle.pid_types.specs.Chains.{least_of}
use Rattle.pid_types.specs.Membership.{IsIn}
use Rattle.pid_types.specs.Names.{number}
use Rattle.pid_types.specs.Queries.{name_by, numbers_by}
use Rattle.model_laws.proofs.Lists.{IsIn-filter, IsIn-from_filter, IsIn-filter_map, IsIn-from_filter_map}
use Rattle.pid_numbers.specs.Numbering.{Identifier, id_at, identifier_at, is_used_as, IsNumberUsedAs, IsNextUsed}
use Rattle.task_table.specs.Store.{Store}
use Rattle.task_table.specs.View.{state_of}
use Rattle.task_table.specs.Lawful.{IsLawful}
use Rattle.task_table.proofs.Keys.{number-is_key}
use Rattle.task_table.proofs.InUse.{user, used-by}

pub least_bound : (ns : List ℕ) (m : ℕ) → least_of ns ≡ Some m → IsIn m ns × ((k : ℕ) → IsIn k ns → m ≤ k)
least_bound [] m e = absurd (cc)
least_bound (n ∷ ns) m e = go (least_of ns) refl (λ k h. least_bound ns k h) e
  where
    out : (a b : ℕ) → Some a ≡ Some b → a ≡ b
    out a b h = ap (λ o. option_map_or (λ x. x) o a) h

    go : (o : Option ℕ) → least_of ns ≡ o → ((k : ℕ) → least_of ns ≡ Some k → IsIn k ns × ((j : ℕ) → IsIn j ns → k ≤ j)) → Some (option_map_or (λ k. if nat_lt k n then k else n) o n) ≡ Some m
        → IsIn m (n ∷ ns) × ((k : ℕ) → IsIn k (n ∷ ns) → m ≤ k)
    go None is rest e =
        let same = out n m e in
        (inl (sym same), λ k i. elim i [ inl own ↦ omega (arith, own, same) | inr later ↦ absurd (empty ns is k later) ])
      where
        empty : (xs : List ℕ) → least_of xs ≡ None → (k : ℕ) → IsIn k xs → ⊥
        empty [] e k i = i
        empty (x ∷ xs) e k i = cc
    go (Some k) is rest e = test (nat_lt k n) refl (rest k is) e
      where
        test : (b : Bool) → nat_lt k n ≡ b → IsIn k ns × ((j : ℕ) → IsIn j ns → k ≤ j) → Some (if b then k else n) ≡ Some m → IsIn m (n ∷ ns) × ((j : ℕ) → IsIn j (n ∷ ns) → m ≤ j)
        test true less h e =
            let same = out k m e in
            let lt : k < n = grind (arith, less) in
            (inr (subst (λ x. IsIn x ns) same h.0), λ j i. elim i [ inl own ↦ omega (arith, own, same, lt) | inr later ↦ (let le = h.1 j later in omega (arith, le, same)) ])
        test false more h e =
            let same = out n m e in
            let ge : n ≤ k = grind (arith, more) in
            (inl (sym same), λ j i. elim i [ inl own ↦ omega (arith, own, same) | inr later ↦ (let le = h.1 j later in omega (arith, le, ge, same)) ])

-- the least is who is there and not above any
pub least-some : (ns : List ℕ) (n : ℕ) → IsIn n ns → ((m : ℕ) → IsIn m ns → n ≤ m) → least_of ns ≡ Some n
least-some ns n i least = go (least_of ns) refl
  where
    none : (xs : List ℕ) → least_of xs ≡ None → IsIn n xs → ⊥
    none [] e i = i
    none (x ∷ xs) e i = cc

    go : (o : Option ℕ) → least_of ns ≡ o → least_of ns ≡ Some n
    go None e = absurd (none ns e i)
    go (Some m) e =
        let b = least_bound ns m e in
        let low = least m b.0 in
        let high = b.1 n i in
        e ∙ ap Some (let z : m ≡ n = omega (arith, low, high) in z)

pub least-none : (ns : List ℕ) → ((n : ℕ) → IsIn n ns → ⊥) → least_of ns ≡ None
least-none [] none = refl
least-none (n ∷ ns) none = absurd (none n (inl refl))

module _ (s : Store) (l : IsLawful s) (sp i : ℕ) (at : id_at s.numbering sp ≡ Some i) (kind : Kind) (from : ℕ) where
  -- the numbers in use as the kind, from one on
  listed : (n : ℕ) → from ≤ n → IsNumberUsedAs s.numbering kind sp n → IsIn n (filter (nat_le from) (numbers_by (state_of s) kind i))
  listed n above u = go (identifier_at s.numbering u.key) refl u.used
    where
      go : (o : Option Identifier) → identifier_at s.numbering u.key ≡ o → is_used_as kind (identifier_at s.numbering u.key) ≡ true → IsIn n (filter (nat_le from) (numbers_by (state_of s) kind i))
      go None e h = absurd (let z : false ≡ true = sym (ap (is_used_as kind) e) ∙ h in cc)
      go (Some v) e h =
          let r = user s l kind u.key v e (sym (ap (is_used_as kind) e) ∙ h) in
          IsIn-filter (nat_le from) n (numbers_by (state_of s) kind i)
          (IsIn-filter_map (λ row. number (state_of s).spaces (name_by kind row) i) r.0 n (state_of s).rows r.1
          (ap (λ name. number (state_of s).spaces name i) r.2 ∙ number-is_key s.numbering l.numbering sp i u.key v at e ∙ u.has))
          (grind (arith, above))

  used : (n : ℕ) → IsIn n (filter (nat_le from) (numbers_by (state_of s) kind i)) → (from ≤ n) × IsNumberUsedAs s.numbering kind sp n
  used n h =
      let f = IsIn-from_filter (nat_le from) n (numbers_by (state_of s) kind i) h in
      let r = IsIn-from_filter_map (λ row. number (state_of s).spaces (name_by kind row) i) n (state_of s).rows f.0 in
      let u = used-by s l kind r.0 r.1 in (
        grind (arith, f.1),
        record {
          key = u.0;
          has = sym (number-is_key s.numbering l.numbering sp i u.0 u.1 at u.2) ∙ ap (λ name. number (state_of s).spaces name i) (sym u.4) ∙ r.2;
          used = ap (is_used_as kind) u.2 ∙ u.3;
        },
      )

  -- the next one
  pub next-is : (result : Option ℕ) → IsNextUsed s.numbering kind sp from result → least_of (filter (nat_le from) (numbers_by (state_of s) kind i)) ≡ result
  next-is None none = least-none (filter (nat_le from) (numbers_by (state_of s) kind i)) (λ m h. let f = used m h in none m f.0 f.1)
  next-is (Some n) (above, u, least) = least-some (filter (nat_le from) (numbers_by (state_of s) kind i)) n (listed n above u) (λ m h. let f = used m h in least m f.0 f.1)
