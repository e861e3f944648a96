-- Which namespace is inside which, by keys and by ids.
use Rattle.std.proofs.Common.{◌≡◌, ◌≢◌, ◌⊎◌, inl, inr, ℕ, ◌==◌, ◌||◌, Bool, true, false, List, [], ◌∷◌, length, map, Some, is_some, if◌then◌else◌, refl, sym, ap, ◌∙◌, arith}
use Rattle.std.specs.Option.{option_map_or}
use Rattle.std.proofs.lemmas.Bool.{cases_eq, eq-eqb, ne_eqb}
use Rattle.pid_types.specs.Chains.{contains}
use Rattle.pid_types.specs.Names.{beside, is_within}
use Rattle.pid_numbers.specs.Numbering.{Numbering, Identifier, id_at, identifier_at, number_in, number_of, path_at}
use Rattle.task_table.specs.View.{spaces_of}
use Rattle.task_table.specs.Lawful.{HasLaws}
use Rattle.task_table.proofs.Keys.{id_for, own_id, only, path-is}

-- what is told apart from all others is in the list if its image is
contains-map : (f : ℕ → ℕ) (t : ℕ) → ((k : ℕ) → f k ≡ f t → k ≡ t) → (p : List ℕ) → contains (map f p) (f t) ≡ contains p t
contains-map f t only [] = refl
contains-map f t only (x ∷ xs) = go (contains-map f t only xs) (cases_eq x t)
  where
    go : contains (map f xs) (f t) ≡ contains xs t → (x ≡ t) ⊎ (x ≢ t) → ((f x == f t) || contains (map f xs) (f t)) ≡ ((x == t) || contains xs t)
    go again (inl e) = rw (eq-eqb x t e, eq-eqb (f x) (f t) (ap f e)) refl
    go again (inr m) = rw (ne_eqb x t m, ne_eqb (f x) (f t) (λ e. m (only x e))) again

-- a number stands beside the keys of the path, and no others
beside-contains : (s : ℕ) (path numbers : List ℕ) → length numbers ≡ length path → is_some (beside s path numbers) ≡ contains path s
beside-contains s [] numbers len = refl
beside-contains s (t ∷ ts) [] len = absurd (omega (arith, len))
beside-contains s (t ∷ ts) (n ∷ ns) len = go (t == s) (beside-contains s ts ns (omega (arith, len)))
  where
    go : (b : Bool) → is_some (beside s ts ns) ≡ contains ts s → is_some (if b then Some n else beside s ts ns) ≡ (b || contains ts s)
    go true e = refl
    go false e = e

module _ (b : Numbering) (l : HasLaws b) where
  -- what is inside by ids is inside by keys
  pub within-is : (s i t j : ℕ) → id_at b s ≡ Some i → id_at b t ≡ Some j → is_within (spaces_of b) i j ≡ contains (path_at b s) t
  within-is s i t j at on =
      ap (λ p. contains p j) (path-is b l s i j at (l.some s i at)) ∙ ap (contains (map (id_for b l j) (path_at b s))) (sym (own_id b l t j on j))
      ∙ contains-map (id_for b l j) t (only b l t j on) (path_at b s)

  -- two namespaces are one if their ids are
  pub same-space : (s i t j : ℕ) → id_at b s ≡ Some i → id_at b t ≡ Some j → (i == j) ≡ (s == t)
  same-space s i t j at on = go (cases_eq s t)
    where
      go : (s ≡ t) ⊎ (s ≢ t) → (i == j) ≡ (s == t)
      go (inl e) = eq-eqb i j (let z : Some i ≡ Some j = sym at ∙ ap (id_at b) e ∙ on in ap (λ o. option_map_or (λ n. n) o i) z) ∙ sym (eq-eqb s t e)
      go (inr m) = ne_eqb i j (λ e. m (l.ids s t i at (on ∙ ap Some (sym e)))) ∙ sym (ne_eqb s t m)

  -- who is visible in a namespace has its own inside that one
  pub member-is : (k s : ℕ) (u : Identifier) → identifier_at b k ≡ Some u → is_some (number_of b k s) ≡ contains (path_at b u.space) s
  member-is k s u at = ap (λ o. is_some (number_in (path_at b) s o)) at ∙ beside-contains s (path_at b u.space) u.numbers (l.full k u at).1
