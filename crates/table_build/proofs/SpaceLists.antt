-- What one more namespace makes of the list of all.
use Rattle.std.proofs.Common.{◌≡◌, ◌≢◌, ℕ, ◌<◌, false, drop, List, [], ◌∷◌, ◌++◌, length, map, slice_get, Option, Some, None, refl, sym, ap, ◌∙◌, arith, option_map, option_and_then}
use Rattle.std.specs.Prelude.{slice_index_or}
use Rattle.std.specs.Option.{option_map_or}
use Rattle.std.proofs.lemmas.List.{map-append}
use Rattle.std.specs.List.{AllByRecursion}
use Rattle.pid_numbers.specs.Numbering.{Numbering, Namespace, namespace_at, id_at, path_at, new_namespace}
use Rattle.task_table.specs.View.{space_of, spaces_of}
use Rattle.task_table.specs.Lawful.{HasLaws}
use Rattle.task_table.proofs.Keys.{on_path}

module _ (b c : Numbering) (h : HasLaws b) (key id parent : ℕ) (fresh : namespace_at b key ≡ None)
    (made : namespace_at c key ≡ Some (new_namespace id (key ∷ path_at b parent))) (others : (s : ℕ) → s ≢ key → namespace_at c s ≡ namespace_at b s)
    (order : c.order ≡ b.order ++ (id, key) ∷ []) where
  -- whoever was there has another key
  other : (s : ℕ) (t : Namespace) → namespace_at b s ≡ Some t → s ≢ key
  other s t at same = let z : None ≡ Some t = sym fresh ∙ ap (namespace_at b) (sym same) ∙ at in cc

  here : (s i : ℕ) → id_at b s ≡ Some i → (t : Namespace) × (namespace_at b s ≡ Some t)
  here s i e = go (namespace_at b s) refl e
    where
      go : (o : Option Namespace) → namespace_at b s ≡ o → option_map (λ (t : Namespace). t.id) o ≡ Some i → (t : Namespace) × (namespace_at b s ≡ Some t)
      go None is e = absurd (cc)
      go (Some t) is e = (t, is)

  -- a namespace from before is what it was
  same_space : (p : ℕ × ℕ) → id_at b p.1 ≡ Some p.0 → space_of c p ≡ space_of b p
  same_space p e =
      let t = here p.1 p.0 e in
      let same = others p.1 (other p.1 t.0 t.1) in
      λ i. record {
        id = p.0;
        parent = (ap (λ o. option_and_then (id_at c) (slice_get (option_map_or (λ (t : Namespace). t.path) o []) 1)) same ∙ up (path_at b p.1) refl) i;
        cursor = option_map_or (λ (t : Namespace). t.cursor) (same i) 0;
        fallen = option_map_or (λ (t : Namespace). t.fallen) (same i) false;
      }
    where
      up : (path : List ℕ) → path_at b p.1 ≡ path → option_and_then (id_at c) (slice_get path 1) ≡ option_and_then (id_at b) (slice_get path 1)
      up [] is = refl
      up (q ∷ []) is = refl
      up (q ∷ r ∷ rest) is =
          let around : path_at b r ≡ r ∷ rest = ap (λ l. path_at b (slice_index_or l 1 0)) (sym is) ∙ h.around p.1 1 (let z = ap length is in omega (arith, z)) ∙ ap (drop 1) is in
          let t = on_path b h r r rest around in
          ap (option_map (λ (t : Namespace). t.id)) (others r (other r t.0 t.1))

  same_spaces : (ps : List (ℕ × ℕ)) → AllByRecursion (λ p. id_at b p.1 ≡ Some p.0) ps → map (space_of c) ps ≡ map (space_of b) ps
  same_spaces [] all = refl
  same_spaces (p ∷ ps) all = ap (λ s. s ∷ map (space_of c) ps) (same_space p all.0) ∙ ap (λ ss. space_of b p ∷ ss) (same_spaces ps all.1)

  new_space : (around : ℕ) → id_at b parent ≡ Some around → space_of c (id, key) ≡ record { id = id; parent = Some around; cursor = 0; fallen = false }
  new_space around e =
      let t = here parent around e in
      let up = ap (λ o. option_and_then (id_at c) (slice_get (option_map_or (λ (t : Namespace). t.path) o []) 1)) made ∙ head (path_at b parent) refl (h.some parent around e)
      ∙ ap (option_map (λ (t : Namespace). t.id)) (others parent (other parent t.0 t.1)) ∙ e in
      λ i. record { id = id; parent = up i; cursor = option_map_or (λ (t : Namespace). t.cursor) (made i) 0; fallen = option_map_or (λ (t : Namespace). t.fallen) (made i) false }
    where
      head : (path : List ℕ) → path_at b parent ≡ path → 0 < length path → option_and_then (id_at c) (slice_get (key ∷ path) 1) ≡ id_at c parent
      head [] is some = absurd (omega (arith, some))
      head (q ∷ qs) is some = ap (id_at c) (ap (λ l. slice_index_or l 0 0) (sym is) ∙ h.own parent (let z = ap length is in omega (arith, z, some)))

  -- it is the last one
  pub spaces-push : (around : ℕ) → id_at b parent ≡ Some around → spaces_of c ≡ spaces_of b ++ record { id = id; parent = Some around; cursor = 0; fallen = false } ∷ []
  spaces-push around e =
      ap (map (space_of c)) order ∙ map-append (space_of c) b.order ((id, key) ∷ [])
      ∙ ap (λ l. l ++ space_of c (id, key) ∷ []) (same_spaces b.order h.each) ∙ ap (λ x. spaces_of b ++ x ∷ []) (new_space around e)
