-- Sessions in the order of their last use, as a cache keeps them.
use Rattle.std.proofs.Common.{◌≡◌, ℕ, ◌+◌, ◌-◌, ◌≤◌, false, nat_eq, eqb, List, [], ◌∷◌, length, take, Option, Some, None, refl, sym, ap, ◌∙◌, subst, arith}
use Rattle.std.specs.List.{AllByRecursion, IsDistinct}
use Rattle.std.specs.Option.{option_map_or}
use Rattle.std.specs.Map.{keys_of, lookup_entry, remove_entry}
use Rattle.std.proofs.lemmas.List.{take_all}
use Rattle.std.proofs.lemmas.Option.{none-some, same_Some}
use Rattle.lru.specs.LruCache.{LruCache, IsValid, put_entries}
use Rattle.pid_script.proofs.Cuts.{by_test}
use Rattle.replica.specs.Replicas.{without_key, used}
use Rattle.replica.proofs.Found.{same_number}

-- a session that is not there is not taken away
absent : {V : Type 0} (s : ℕ) (es : List (ℕ × V)) → AllByRecursion (λ k. eqb s k ≡ false) (keys_of es) → without_key s es ≡ es
absent s [] all = refl
absent s (e ∷ es) all = rw all.0 (ap (λ l. e ∷ l) (absent s es all.1))

not_found : {V : Type 0} (s : ℕ) (es : List (ℕ × V)) → lookup_entry (nat_eq s) es ≡ None → without_key s es ≡ es
not_found s [] none = refl
not_found s (e ∷ es) none =
    by_test (eqb s e.0)
    (λ same. absurd (none-some e (sym (rw same at none))))
    (λ differ. rw differ (ap (λ l. e ∷ l) (not_found s es (rw differ at none))))

-- one that is there is there once
pub remove_without : {V : Type 0} (s : ℕ) (es : List (ℕ × V)) → IsDistinct nat_eq (keys_of es) → remove_entry (nat_eq s) es ≡ without_key s es
unfolding IsDistinct
remove_without s [] distinct = refl
remove_without s (e ∷ es) distinct =
    by_test (eqb s e.0)
    (λ same.
    let others = subst (λ k. AllByRecursion (λ j. eqb k j ≡ false) (keys_of es)) (sym (same_number s e.0 same)) distinct.0 in
    rw same (sym (absent s es others)))
    (λ differ. rw differ (ap (λ l. e ∷ l) (remove_without s es distinct.1)))

found_key : {V : Type 0} (s : ℕ) (es : List (ℕ × V)) (f : ℕ × V) → lookup_entry (nat_eq s) es ≡ Some f → (f.0 ≡ s) × (length (remove_entry (nat_eq s) es) + 1 ≡ length es)
found_key s [] f here = absurd (none-some f here)
found_key s (e ∷ es) f here =
    by_test (eqb s e.0)
    (λ same. (ap (λ p. p.0) (sym (same_Some e f (rw same at here))) ∙ sym (same_number s e.0 same), rw same (omega arith)))
    (λ differ. let later = found_key s es f (rw differ at here) in (later.0, rw differ (omega (arith, later.1))))

module _ {V : Type 0} (c : LruCache ℕ V) (s : ℕ) (n : V) (valid : IsValid nat_eq c) (cap : c.cap ≡ 4096) where
  abbrev after : Option (ℕ × V) → List (ℕ × V)
  after o = option_map_or (λ e. (e.0, n) ∷ remove_entry (nat_eq s) c.entries) o ((s, n) ∷ take (c.cap - 1) c.entries)

  cases : (o : Option (ℕ × V)) → lookup_entry (nat_eq s) c.entries ≡ o → after o ≡ used s n c.entries
  cases None none =
      let most : c.cap - 1 ≡ 4095 = omega (arith, cap) in
      rw most (ap (λ l. (s, n) ∷ take 4095 l) (sym (not_found s c.entries none)))
  cases (Some f) here =
      let key = found_key s c.entries f here in
      let same = remove_without s c.entries valid.0 in
      let few : length (without_key s c.entries) ≤ 4095 = omega (arith, key.1, ap length same, valid.1, cap) in
      ap (λ k. (k, n) ∷ remove_entry (nat_eq s) c.entries) key.0
      ∙ ap (λ l. (s, n) ∷ l) (same ∙ sym (take_all 4095 (without_key s c.entries) few))

  -- a session is put before the others
  pub put_used : put_entries nat_eq c s n ≡ used s n c.entries
  put_used = cases (lookup_entry (nat_eq s) c.entries) refl
