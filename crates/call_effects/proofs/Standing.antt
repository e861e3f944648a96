-- A namespace that falls or goes is around a name of a task that is watched.
use Rattle.model_laws.proofs.Words.{◌≡◌, ◌<◌, ℕ, zero, suc, Bool, true, false, not, nat_lt, List, [], ◌∷◌, filter, flat_map, map, Option, Some, None, is_some, option_and_then, option_map, option_map_or, refl, sym, ap, ◌∙◌, subst, inl, inr, arith, Name, Row, Space, State, names_in_use, number, parent_space, path_up, root_number, space_at, is_live, IsIn, IsRising, IsSound}
use Rattle.std.specs.Prelude.{IfSome}
unfoldable use Rattle.pid_types.specs.Chains.{climb}
use Rattle.model_laws.proofs.Ground.{IsIn-filter, IsIn-from_filter, number-on_path, number-within, own_in_use, path_first, path_listed, space_at-Some, user_of_name, Uses}
use Rattle.model_laws.proofs.Chains.{climb-None, climb-Some, climb-stopped, IsIn-climb_first, IsIn-climb_parent, Stops-at_root}
use Rattle.model_laws.proofs.Lists.{IsIn-flat_map, IsIn-from_flat_map}
use Rattle.model_laws.proofs.Names.{IsIn-names_in_use, used_by_row}
use Rattle.task_table.proofs.Alone.{in_use-rows}
use Rattle.model_laws.proofs.Trees.{root_space_parent}
use Rattle.translate.specs.Pages.{AreListedFrom}
use Rattle.translate.specs.Relations.{relations_of}
use Rattle.translate.specs.Stat.{still_lives}
use Rattle.translate.specs.Spaces.{space_stat_at, space_stat_of}
use Rattle.translate.specs.declared.relations.Relations.{Relations}
use Rattle.translate.specs.declared.space.SpaceStat.{SpaceStat}
use Rattle.call_effects.specs.declared.tasks.Watched.{Watched}
use Rattle.call_effects.specs.Effects.{is_space, takes_tasks}
use Rattle.call_effects.specs.Spaces.{inner_path, watched_spaces}
use Rattle.call_effects.specs.Touched.{AreWatched, KeepsParents, MayEnd, Touches}
use Rattle.call_effects.proofs.Fates.{lives-is}
use Rattle.call_effects.proofs.Rows.{IsWatchedRow, StaysAs, either, row_of_watched}

-- ---- the path of a namespace, as it is gathered

module _ (state : State) (sound : IsSound state) where
  -- the parent of one that is there
  parent_at : (id : ℕ) (s : Space) → space_at state.spaces id ≡ Some s → parent_space state.spaces id ≡ s.parent
  parent_at id s at = ap (option_and_then (λ (x : Space). x.parent)) at

  -- the path of the root namespace has no other
  pub path_of_root : (id : ℕ) (s : Space) → space_at state.spaces id ≡ Some s → s.parent ≡ None → inner_path state id ≡ []
  unfolding path_up
  path_of_root id s at up =
      let f = parent_space state.spaces in
      let path : climb f 33 id ≡ id ∷ [] = climb-None f 32 id (parent_at id s at ∙ up) in
      let h = space_at-Some state.spaces id s at in
      let on : IsIn 0 (climb f 33 s.id) = sound.coherent.spaces.chains s h.0 in
      let first : id ≡ 0 = elim (subst (IsIn 0) (ap (climb f 33) h.1 ∙ path) on) [ inl e ↦ sym e | inr none ↦ absurd none ] in
      ap (filter (nat_lt 0)) (path ∙ ap (λ n. n ∷ []) first)

  -- any other path goes on with the parent's
  pub path_of_inner : (id : ℕ) (s : Space) (p : ℕ) → space_at state.spaces id ≡ Some s → s.parent ≡ Some p → inner_path state id ≡ id ∷ inner_path state p
  unfolding path_up
  path_of_inner id s p at up =
      let f = parent_space state.spaces in
      let h = space_at-Some state.spaces id s at in
      let on : IsIn 0 (climb f 33 id) = subst (λ n. IsIn 0 (climb f 33 n)) h.1 (sound.coherent.spaces.chains s h.0) in
      let path : climb f 33 id ≡ id ∷ climb f 32 p = climb-Some f 32 id p (parent_at id s at ∙ up) in
      let older : p < s.id = (let o = sound.coherent.spaces.older s h.0 in subst (λ q. IfSome q (λ n. n < s.id)) up o) in
      let e = h.1 in
      let deep : 0 < id = omega (arith, older, e) in
      let above : IsIn 0 (climb f 32 p) = elim (subst (IsIn 0) path on) [ inl z ↦ absurd (omega (arith, z, deep)) | inr i ↦ i ] in
      let whole : climb f 33 p ≡ climb f 32 p = climb-stopped f 32 p (Stops-at_root f 32 p (root_space_parent state.spaces sound.coherent.spaces) above) in
      let lt : nat_lt 0 id ≡ true = grind (arith, deep) in
      ap (filter (nat_lt 0)) (path ∙ ap (λ ns. id ∷ ns) (sym whole)) ∙ rw lt refl

  -- a parent is there
  pub parent_there : (id : ℕ) (s : Space) (p : ℕ) → space_at state.spaces id ≡ Some s → s.parent ≡ Some p → is_space state p ≡ true
  unfolding path_up
  parent_there id s p at up =
      let f = parent_space state.spaces in
      let h = space_at-Some state.spaces id s at in
      let on : IsIn 0 (climb f 33 id) = subst (λ n. IsIn 0 (climb f 33 n)) h.1 (sound.coherent.spaces.chains s h.0) in
      let found = path_listed state.spaces sound.coherent.spaces id p on (IsIn-climb_parent f 32 id p p (parent_at id s at ∙ up) (IsIn-climb_first f 31 p)) in
      ap is_some found.1

  -- what is read of a namespace is that of one that is there
  read : (id : ℕ) (stat : SpaceStat) → space_stat_at state id ≡ Some stat → (s : Space) × (space_at state.spaces id ≡ Some s) × (stat.parent ≡ s.parent)
  read id stat e = go (space_at state.spaces id) refl e
    where
      go : (o : Option Space) → space_at state.spaces id ≡ o → option_map (space_stat_of state) o ≡ Some stat → (s : Space) × (space_at state.spaces id ≡ Some s) × (stat.parent ≡ s.parent)
      go None at e = absurd (cc)
      go (Some s) at e = (s, at, (let z : space_stat_of state s ≡ stat = cc in sym (ap (λ (x : SpaceStat). x.parent) z)))

  pub read_root : (id : ℕ) (stat : SpaceStat) → space_stat_at state id ≡ Some stat → stat.parent ≡ None → inner_path state id ≡ []
  read_root id stat e up = let r = read id stat e in path_of_root id r.0 r.1 (sym r.2 ∙ up)

  pub read_inner : (id : ℕ) (stat : SpaceStat) (p : ℕ) → space_stat_at state id ≡ Some stat → stat.parent ≡ Some p
      → (inner_path state id ≡ id ∷ inner_path state p) × (is_space state p ≡ true) × (p < id)
  read_inner id stat p e up =
      let r = read id stat e in
      let h = space_at-Some state.spaces id r.0 r.1 in
      let o = sound.coherent.spaces.older r.0 h.0 in
      let older : p < r.0.id = subst (λ q. IfSome q (λ n. n < r.0.id)) (sym r.2 ∙ up) o in
      let same = h.1 in
      (path_of_inner id r.0 p r.1 (sym r.2 ∙ up), parent_there id r.0 p r.1 (sym r.2 ∙ up), omega (arith, older, same))

-- ---- paths before and behind

-- two chains that go the same way where both have something are one
climb_both : (old new : List Space) → ((id : ℕ) (s t : Space) → space_at old id ≡ Some s → space_at new id ≡ Some t → t.parent ≡ s.parent) → (k id : ℕ)
    → ((x : ℕ) → IsIn x (climb (parent_space old) k id) → (s : Space) × (space_at old x ≡ Some s))
    → ((x : ℕ) → IsIn x (climb (parent_space new) k id) → (t : Space) × (space_at new x ≡ Some t))
    → climb (parent_space new) k id ≡ climb (parent_space old) k id
unfolding climb
climb_both old new keeps zero id here there = refl
climb_both old new keeps (suc k) id here there = go (λ p on off. climb_both old new keeps k p on off) (parent_space old id) refl
  where
    s : (s : Space) × (space_at old id ≡ Some s)
    s = here id (IsIn-climb_first (parent_space old) k id)

    t : (t : Space) × (space_at new id ≡ Some t)
    t = there id (IsIn-climb_first (parent_space new) k id)

    same : parent_space new id ≡ parent_space old id
    same = ap (option_and_then (λ (x : Space). x.parent)) t.1 ∙ keeps id s.0 t.0 s.1 t.1 ∙ sym (ap (option_and_then (λ (x : Space). x.parent)) s.1)

    go : ((p : ℕ) → ((x : ℕ) → IsIn x (climb (parent_space old) k p) → (s : Space) × (space_at old x ≡ Some s))
        → ((x : ℕ) → IsIn x (climb (parent_space new) k p) → (t : Space) × (space_at new x ≡ Some t)) → climb (parent_space new) k p ≡ climb (parent_space old) k p)
        → (o : Option ℕ) → parent_space old id ≡ o → climb (parent_space new) (suc k) id ≡ climb (parent_space old) (suc k) id
    go rest None e = climb-None (parent_space new) k id (same ∙ e) ∙ sym (climb-None (parent_space old) k id e)
    go rest (Some p) e =
        climb-Some (parent_space new) k id p (same ∙ e)
        ∙ ap (λ ns. id ∷ ns) (rest p (λ x i. here x (IsIn-climb_parent (parent_space old) k id p x e i)) (λ x i. there x (IsIn-climb_parent (parent_space new) k id p x (same ∙ e) i)))
        ∙ sym (climb-Some (parent_space old) k id p e)

-- ---- the tasks' own namespaces

module _ (old : State) (sound : IsSound old) (numbers : List ℕ) (tasks : List Watched) (watched : AreWatched old numbers tasks) where
  -- the rows of before
  rise : IsRising (map (λ (r : Row). root_number r.name) old.rows)
  rise = sound.coherent.rows_rise

  -- each of the tasks' own namespaces is that of a name that is used
  own_name : (x : ℕ) → IsIn x (flat_map watched_spaces tasks) → (a : Name) × IsIn a (names_in_use old.rows) × (a.space ≡ x)
  own_name x on =
      let m = IsIn-from_flat_map watched_spaces x tasks on in
      let r = row_of_watched old rise numbers tasks watched m.0 m.1 in
      go m.0 r.0 r.1 r.3 m.2
    where
      go : (w : Watched) (row : Row) → IsIn row old.rows → w.before ≡ relations_of row → IsIn x (watched_spaces w) → (a : Name) × IsIn a (names_in_use old.rows) × (a.space ≡ x)
      go w row i before (inl e) = (row.name, IsIn-names_in_use old.rows row row.name i (inl refl), sym (ap (λ (r : Relations). r.space) before) ∙ sym e)
      go w row i before (inr (inl e)) = (row.group, IsIn-names_in_use old.rows row row.group i (inr (inl refl)), sym (ap (λ (r : Relations). r.group_space) before) ∙ sym e)
      go w row i before (inr (inr (inl e))) =
          (row.session, IsIn-names_in_use old.rows row row.session i (inr (inr (inl refl))), sym (ap (λ (r : Relations). r.session_space) before) ∙ sym e)
      go w row i before (inr (inr (inr none))) = absurd none

  -- so it is there
  pub own_there : (x : ℕ) → IsIn x (flat_map watched_spaces tasks) → is_space old x ≡ true
  own_there x on =
      let a = own_name x on in
      let l = (sound.coherent.numbered a.0 (used_by_row old a.0 a.1)).listed x (subst (λ n. IsIn x (path_up old.spaces n)) (sym a.2) (path_first old.spaces x)) in
      ap is_some l.1

  -- and so is all that is listed
  pub listed_there : (own ids : List ℕ) → AreListedFrom (flat_map watched_spaces tasks) 0 own → AreListedFrom (flat_map (inner_path old) own) 0 ids → (x : ℕ) → IsIn x ids → is_space old x ≡ true
  listed_there own ids owns listed x on =
      let m = IsIn-from_flat_map (inner_path old) x own ((listed.each x).0 on).1 in
      let a = own_name m.0 ((owns.each m.0).0 m.1).1 in
      let f = IsIn-from_filter (nat_lt 0) x (path_up old.spaces m.0) m.2 in
      let l = (sound.coherent.numbered a.0 (used_by_row old a.0 a.1)).listed x (subst (λ n. IsIn x (path_up old.spaces n)) (sym a.2) f.0) in
      ap is_some l.1

-- ---- what is not around a watched name

module _ (old new : State) (sound : IsSound old) (sound_new : IsSound new) (keeps : KeepsParents old new) (numbers : List ℕ) (tasks : List Watched)
    (touches : Touches old new numbers) (watched : AreWatched old numbers tasks) (own ids : List ℕ) (owns : AreListedFrom (flat_map watched_spaces tasks) 0 own)
    (listed : AreListedFrom (flat_map (inner_path old) own) 0 ids) (alone : old.threads ≡ []) where
  -- a name that is used before and one that is used behind, of one namespace, have one path
  path_same : (a b : Name) → IsIn a (names_in_use old.rows) → IsIn b (names_in_use new.rows) → b.space ≡ a.space → path_up new.spaces a.space ≡ path_up old.spaces a.space
  unfolding path_up
  path_same a b i j same =
      climb_both old.spaces new.spaces (λ id s t here there. (keeps id s t here there).0) 33 a.space (sound.coherent.numbered a (used_by_row old a i)).listed
      (subst (λ n. (x : ℕ) → IsIn x (climb (parent_space new.spaces) 33 n) → (t : Space) × (space_at new.spaces x ≡ Some t)) same (sound_new.coherent.numbered b (used_by_row new b j)).listed)

  -- what is around a name is there behind, where a name of that namespace is used
  around : (a b : Name) → IsIn a (names_in_use old.rows) → IsIn b (names_in_use new.rows) → b.space ≡ a.space → (x : ℕ) → IsIn x (path_up old.spaces a.space)
      → (t : Space) × (space_at new.spaces x ≡ Some t)
  around a b i j same x on =
      (sound_new.coherent.numbered b (used_by_row new b j)).listed x (subst (λ n. IsIn x (path_up new.spaces n)) (sym same) (subst (IsIn x) (sym (path_same a b i j same)) on))

  -- so where a row stays, all that is around its names stays
  stays : (row : Row) → IsIn row old.rows → StaysAs new.rows row → (a : Name) → Uses row a → (x : ℕ) → IsIn x (path_up old.spaces a.space)
      → (t : Space) × (space_at new.spaces x ≡ Some t)
  stays row i s a (inl e) x on =
      around a s.now.name (IsIn-names_in_use old.rows row a i (inl e)) (IsIn-names_in_use new.rows s.now s.now.name s.there (inl refl))
      (ap (λ (r : Relations). r.space) s.same ∙ ap (λ (n : Name). n.space) (sym e)) x on
  stays row i s a (inr (inl e)) x on =
      around a s.now.group (IsIn-names_in_use old.rows row a i (inr (inl e))) (IsIn-names_in_use new.rows s.now s.now.group s.there (inr (inl refl)))
      (ap (λ (r : Relations). r.group_space) s.same ∙ ap (λ (n : Name). n.space) (sym e)) x on
  stays row i s a (inr (inr (inl e))) x on =
      around a s.now.session (IsIn-names_in_use old.rows row a i (inr (inr (inl e)))) (IsIn-names_in_use new.rows s.now s.now.session s.there (inr (inr (inl refl))))
      (ap (λ (r : Relations). r.session_space) s.same ∙ ap (λ (n : Name). n.space) (sym e)) x on
  stays row i s a (inr (inr (inr none))) x on = absurd none

  -- the namespace of a watched name is one of the tasks' own
  own_of : (row : Row) (w : IsWatchedRow tasks row) (a : Name) → Uses row a → IsIn a.space own
  own_of row w a u = (owns.each a.space).1 (omega arith, IsIn-flat_map watched_spaces w.watched a.space tasks w.listed (used u))
    where
      used : Uses row a → IsIn a.space (watched_spaces w.watched)
      used (inl e) = inl (ap (λ (n : Name). n.space) e ∙ sym (ap (λ (r : Relations). r.space) w.before))
      used (inr (inl e)) = inr (inl (ap (λ (n : Name). n.space) e ∙ sym (ap (λ (r : Relations). r.group_space) w.before)))
      used (inr (inr (inl e))) = inr (inr (inl (ap (λ (n : Name). n.space) e ∙ sym (ap (λ (r : Relations). r.session_space) w.before))))
      used (inr (inr (inr none))) = absurd none

  -- what is around a watched name is listed, but the root namespace
  watched_on : (row : Row) → IsWatchedRow tasks row → (a : Name) → Uses row a → (x : ℕ) → IsIn x (path_up old.spaces a.space) → 0 < x → IsIn x ids
  watched_on row w a u x on deep =
      (listed.each x).1 (omega arith, IsIn-flat_map (inner_path old) a.space x own (own_of row w a u) (IsIn-filter (nat_lt 0) x (path_up old.spaces a.space) on (grind (arith, deep))))

  -- the root namespace stands
  root_there : (t : Space) × (space_at new.spaces 0 ≡ Some t) × (t.fallen ≡ false)
  root_there =
      let r = sound_new.coherent.spaces.root in
      let h = space_at-Some new.spaces 0 r.0 r.1 in
      (r.0, r.1, sound_new.coherent.root r.0 h.0 h.1)

  -- an id that is not listed is that of the root namespace, or its namespace is around names of rows that stay
  rest_stays : (id : ℕ) → (IsIn id ids → ⊥) → 0 < id → (row : Row) → IsIn row old.rows → (a : Name) → Uses row a → IsIn id (path_up old.spaces a.space) → StaysAs new.rows row
  rest_stays id off deep row i a u on = elim (either old sound.coherent.rows_rise numbers tasks watched new touches row i) [
    | inl w ↦ absurd (off (watched_on row w a u id on deep))
    | inr s ↦ s
  ]

  there : (id : ℕ) (s : Space) → space_at old.spaces id ≡ Some s → (IsIn id ids → ⊥) → (t : Space) × (space_at new.spaces id ≡ Some t)
  there zero s at off = (root_there.0, root_there.1)
  there (suc n) s at off = go s.fallen refl
    where
      h : IsIn s old.spaces × (s.id ≡ suc n)
      h = space_at-Some old.spaces (suc n) s at

      go : (b : Bool) → s.fallen ≡ b → (t : Space) × (space_at new.spaces (suc n) ≡ Some t)
      go true is =
          let a = sound.named s h.0 is in
          let u = user_of_name old.rows a.0 (subst (IsIn a.0) (in_use-rows old alone) a.2) in
          let on : IsIn (suc n) (path_up old.spaces a.0.space) = subst (λ x. IsIn x (path_up old.spaces a.0.space)) h.1 (number-within old.spaces a.0 s.id a.1 a.3).0 in
          stays u.0 u.1 (rest_stays (suc n) off (omega arith) u.0 u.1 a.0 u.2 on) a.0 u.2 (suc n) on
      go false is =
          let r = sound.coherent.standing s h.0 is in
          let on : IsIn (suc n) (path_up old.spaces r.0.name.space) = subst (λ x. IsIn (suc n) (path_up old.spaces x)) (sym (r.3 ∙ h.1)) (path_first old.spaces (suc n)) in
          stays r.0 r.1 (rest_stays (suc n) off (omega arith) r.0 r.1 r.0.name (inl refl) on) r.0.name (inl refl) (suc n) on

  -- a namespace with a live task of its own stands
  lives_on : (s : Space) (row : Row) → IsIn s new.spaces → IsIn row new.rows → is_live row ≡ true → row.name.space ≡ s.id → s.fallen ≡ false
  lives_on s row i j live own = go s.fallen refl
    where
      seen : (n : ℕ) × (number new.spaces row.name s.id ≡ Some n)
      seen =
          number-on_path new.spaces row.name s.id (sound_new.coherent.numbered row.name (own_in_use new row j)).one_each
          (subst (λ x. IsIn s.id (path_up new.spaces x)) (sym own) (path_first new.spaces s.id))

      go : (b : Bool) → s.fallen ≡ b → s.fallen ≡ false
      go false is = is
      go true is = absurd (let none = (sound_new.coherent.fallen s i is).ended row j live in let z : Some seen.0 ≡ None = sym seen.1 ∙ none in cc)

  pub stands_still : (id : ℕ) → takes_tasks old id ≡ true → (IsIn id ids → ⊥) → takes_tasks new id ≡ true
  stands_still zero so off = let r = root_there in ap (λ o. option_map_or (λ (t : Space). not t.fallen) o false) r.1 ∙ ap not r.2
  stands_still (suc n) so off = go (space_at old.spaces (suc n)) refl so
    where
      go : (o : Option Space) → space_at old.spaces (suc n) ≡ o → option_map_or (λ (s : Space). not s.fallen) o false ≡ true → takes_tasks new (suc n) ≡ true
      go None at so = absurd (cc)
      go (Some s) at so =
          let h = space_at-Some old.spaces (suc n) s at in
          let up : s.fallen ≡ false = standing s.fallen so in
          let r = sound.coherent.standing s h.0 up in
          let on : IsIn (suc n) (path_up old.spaces r.0.name.space) = subst (λ x. IsIn (suc n) (path_up old.spaces x)) (sym (r.3 ∙ h.1)) (path_first old.spaces (suc n)) in
          let stay : StaysAs new.rows r.0 = rest_stays (suc n) off (omega arith) r.0 r.1 r.0.name (inl refl) on in
          let t = there (suc n) s at off in
          let k = space_at-Some new.spaces (suc n) t.0 t.1 in
          let live : is_live stay.now ≡ true =
          sym (lives-is stay.now.life stay.now refl) ∙ ap (λ (x : Relations). still_lives x.life) stay.same ∙ lives-is r.0.life r.0 refl ∙ r.2 in
          let own : stay.now.name.space ≡ t.0.id = ap (λ (x : Relations). x.space) stay.same ∙ r.3 ∙ h.1 ∙ sym k.1 in
          ap (λ o. option_map_or (λ (t : Space). not t.fallen) o false) t.1 ∙ ap not (lives_on t.0 stay.now k.0 stay.there live own)
        where
          standing : (b : Bool) → not b ≡ true → b ≡ false
          standing true e = absurd (cc)
          standing false e = refl

  pub spaces_may_end : MayEnd is_space old new ids
  spaces_may_end = record {
    rising = listed.rising;
    before = listed_there old sound numbers tasks watched own ids owns listed;
    rest = λ id so off. go id off (space_at old.spaces id) refl so;
  }
    where
      go : (id : ℕ) → (IsIn id ids → ⊥) → (o : Option Space) → space_at old.spaces id ≡ o → is_some o ≡ true → is_space new id ≡ true
      go id off None at so = absurd (cc)
      go id off (Some s) at so = ap is_some (there id s at off).1
