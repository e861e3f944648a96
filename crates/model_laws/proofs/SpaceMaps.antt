-- What stays of names, parents and paths where namespaces change.
use Rattle.model_laws.proofs.Words.{◌≡◌, ℕ, List, map, length, sym, ap, ◌∙◌, subst, ◌⊎◌, inl, inr, option_map, None, refl, Some, true, Name, Row, Space, space_at, path_up, number, IsIn, IsWellNumbered, HasGoodParents, HasGoodChildrenSpace, IsTreeOfSpaces, climb, parent_number, root_number, is_live}
use Rattle.model_laws.proofs.Ground.{at-map, chain-map, IsTree-map, number-same_path}

-- a name stays well numbered where its path stays, and is there
pub IsWellNumbered-kept : (spaces others : List Space) (pid_max : ℕ) (a : Name) → path_up others a.space ≡ path_up spaces a.space
    → ((x : ℕ) (s : Space) → IsIn x (path_up spaces a.space) → space_at spaces x ≡ Some s → (t : Space) × (space_at others x ≡ Some t))
    → IsWellNumbered spaces pid_max a → IsWellNumbered others pid_max a
IsWellNumbered-kept spaces others pid_max a path there well = record {
  listed = λ x i. let j = subst (IsIn x) path i in let l = well.listed x j in there x l.0 j l.1;
  one_each = well.one_each ∙ ap length (sym path);
  in_range = well.in_range;
}

-- parents stay good where the row keeps its name, its parent and its path, its parent lives on, and the chain ends at number 1
pub HasGoodParents-kept : (rows after : List Row) (spaces others : List Space) (r next : Row) → next.name ≡ r.name → next.parent ≡ r.parent
    → path_up others r.name.space ≡ path_up spaces r.name.space
    → ((q : Row) → IsIn q rows → r.parent ≡ Some q.name → is_live q ≡ true → (x : Row) × IsIn x after × (x.name ≡ q.name) × (is_live x ≡ true))
    → IsIn 1 (climb (parent_number after) (length after) (root_number r.name)) → HasGoodParents rows spaces r → HasGoodParents after others next
HasGoodParents-kept rows after spaces others r next name up path lives chain old = record {
  first = λ none. ap root_number name ∙ old.first (sym up ∙ none);
  good = λ parent e.
      let there : r.parent ≡ Some parent = sym up ∙ e in
      let g = old.good parent there in
      let x = lives g.lives.0 g.lives.1 (there ∙ ap Some (sym g.lives.2)) g.lives.3 in
      record {
        lives = (x.0, x.1, x.2 ∙ g.lives.2, x.3);
        around = subst (λ (a : Name). IsIn parent.space (path_up others a.space)) (sym name) (subst (IsIn parent.space) (sym path) g.around);
        outside = subst (λ (a : Name). number others a a.space ≡ Some 1 → parent.space ≡ a.space → ⊥) (sym name)
            (λ one. g.outside (sym (number-same_path spaces others r.name r.name.space path) ∙ one));
      };
  chain = subst (λ (a : Name). IsIn 1 (climb (parent_number after) (length after) (root_number a))) (sym name) chain;
}

module _ (spaces : List Space) (h : Space → Space) (ids : (s : Space) → (h s).id ≡ s.id) (parents : (s : Space) → (h s).parent ≡ s.parent) where
  -- what is found is changed
  pub space_at-map : (x : ℕ) → space_at (map h spaces) x ≡ option_map h (space_at spaces x)
  space_at-map x = at-map Space (λ s. s.id) (λ s. s.parent) spaces h ids parents x

  -- paths stay
  pub path_up-map : (x : ℕ) → path_up (map h spaces) x ≡ path_up spaces x
  unfolding path_up
  path_up-map x = chain-map Space (λ s. s.id) (λ s. s.parent) spaces h ids parents 33 x

  -- numbers stay
  pub number-map_spaces : (a : Name) (s : ℕ) → number (map h spaces) a s ≡ number spaces a s
  number-map_spaces a s = number-same_path spaces (map h spaces) a s (path_up-map a.space)

  -- the tree stays
  pub IsTreeOfSpaces-map : IsTreeOfSpaces spaces → IsTreeOfSpaces (map h spaces)
  IsTreeOfSpaces-map tree = IsTree-map Space (λ s. s.id) (λ s. s.parent) spaces h ids parents (path_up spaces) (path_up (map h spaces)) path_up-map tree

  -- names stay well numbered
  pub IsWellNumbered-map : (pid_max : ℕ) (a : Name) → IsWellNumbered spaces pid_max a → IsWellNumbered (map h spaces) pid_max a
  IsWellNumbered-map pid_max a =
      IsWellNumbered-kept spaces (map h spaces) pid_max a (path_up-map a.space) (λ x s i e. (h s, space_at-map x ∙ ap (option_map h) e))

  -- children's namespaces stay good, those of threads too
  pub IsGoodSpace-map : (own into : ℕ) → (space_at spaces into ≡ None) ⊎ IsIn own (path_up spaces into)
      → (space_at (map h spaces) into ≡ None) ⊎ IsIn own (path_up (map h spaces) into)
  IsGoodSpace-map own into (inl none) = inl (space_at-map into ∙ ap (option_map h) none)
  IsGoodSpace-map own into (inr i) = inr (subst (IsIn own) (sym (path_up-map into)) i)

  pub HasGoodChildrenSpace-map : (r : Row) → HasGoodChildrenSpace spaces r → HasGoodChildrenSpace (map h spaces) r
  HasGoodChildrenSpace-map r good = IsGoodSpace-map r.name.space r.children_space good

  -- parents stay good
  pub HasGoodParents-map : (rows : List Row) (r : Row) → HasGoodParents rows spaces r → HasGoodParents rows (map h spaces) r
  HasGoodParents-map rows r old =
      HasGoodParents-kept rows rows spaces (map h spaces) r r refl refl (path_up-map r.name.space) (λ q i up live. (q, i, refl, live)) old.chain old
