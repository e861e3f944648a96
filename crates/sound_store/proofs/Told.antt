-- What the checks find wrong is a flaw of the store, and a whole store has none.
use Rattle.std.proofs.Common.{◌≡◌, ◌≢◌, ◌⊎◌, inl, inr, ℕ, Bool, true, false, not, ◌==◌, ◌&&◌, ◌||◌, [], ◌∷◌, Option, Some, None, IsSome, is_some, refl, sym, ap, subst, ◌∙◌, arith, option_map}
use Rattle.std.specs.Option.{option_map_or, option_eq}
use Rattle.std.proofs.lemmas.Bool.{cases_eq, eq-eqb}
use Rattle.pid_types.proofs.General.{held, some_number}
use Rattle.id_slab.specs.Ids.{key_of}
use Rattle.pid_types.specs.declared.plain.Row.{Row}
use Rattle.pid_types.specs.declared.plain.Space.{Space}
use Rattle.pid_types.specs.Controls.{control_at}
use Rattle.pid_types.specs.Chains.{contains}
use Rattle.pid_types.specs.Membership.{IsIn}
use Rattle.pid_types.specs.Names.{path_up, number, root_number, is_live}
use Rattle.pid_types.specs.Sound.{HasGoodParents, HasGoodChildrenSpace, HasLiveInit, IsTreeOfSpaces}
use Rattle.model_laws.proofs.Lists.{contains-from_IsIn}
use Rattle.model_laws.proofs.Names.{own_name_in_use, number-on_path}
use Rattle.model_laws.proofs.Rising.{find-key_at}
use Rattle.model_laws.proofs.Trees.{path_first}
use Rattle.pid_numbers.specs.Numbering.{Identifier, id_at, identifier_at, number_of, path_at, has_fallen_at}
use Rattle.task_tree.specs.declared.Task.{Task}
use Rattle.task_tree.specs.Tree.{task_at, parent_of, lives}
use Rattle.groups_sessions.specs.Membership.{Membership, membership_at, session_of}
use Rattle.task_table.specs.declared.view.Found.{Found}
use Rattle.task_table.specs.Store.{Store}
use Rattle.task_table.specs.View.{name_at, row_of, parent_id, space_of, state_of}
use Rattle.task_table.specs.Lawful.{IsLawful}
use Rattle.task_table.specs.Whole.{IsWhole, HasParents}
use Rattle.task_table.proofs.Keys.{id_for, id_of_there, on_path, space_at-is, space_at-key, number-is_key}
use Rattle.task_table.proofs.LookUps.{named, session-named, in-rows, rows-in, space-id}
use Rattle.task_table.proofs.InUse.{member}
use Rattle.task_table.proofs.Results.{from_some}
use Rattle.task_table.proofs.Around.{id-of_key, space-in, in-around, key-named}
use Rattle.sound_store.proofs.Ways.{number-at, chain-way}
use Rattle.sound_store.proofs.Made.{owned, space-id_of, found_at, is_task-at, session-of, group-of, some_of}
use Rattle.sound_store.specs.Tasks.{IsTask, lives_at, is_own_init, is_around, may_be_parent, has_good_parent, has_good_children, has_good_leader, is_led, may_live, has_home}
use Rattle.sound_store.specs.Spaces.{HasInitTask}
use Rattle.sound_store.specs.declared.Flaw.{Flaw}
use Rattle.sound_store.specs.declared.Flaw.TheVariants.{NoMemory, Space as OfSpace, NoInit, Control, Parent, ChildrenSpace, Group, Fallen, Home}
use Rattle.sound_store.specs.Flaws.{IsFlaw, IsWrong, IsLedWell, LivesWell, IsSpaceFlaw, IsControlFlaw, IsTaskFlaw, IsWayFlaw}

module _ (s : Store) (l : IsLawful s) where
  row-in : (f : Found) → IsTask s f → IsIn (row_of s f.key f.task) (state_of s).rows
  row-in f h = rows-in s l f.key f.task h.there

  -- ---- namespaces

  root_id : IsTreeOfSpaces (state_of s).spaces → id_at s.numbering 0 ≡ Some 0
  root_id tree =
      let t = on_path s.numbering l.numbering 0 0 [] l.numbering.root in
      let at = id_of_there s.numbering l.numbering 0 0 t.0 t.1 in
      let i : ℕ = id_for s.numbering l.numbering 0 0 in
      let up : IsIn 0 (path_up (state_of s).spaces i) = tree.chains (space_of s.numbering (i, 0)) (space-in s.numbering l.numbering 0 i at) in
      let y = in-around s.numbering l.numbering 0 i 0 at up in
      subst (λ k. id_at s.numbering k ≡ Some 0) (alone y.0 (subst (IsIn y.0) l.numbering.root y.1)) y.2
    where
      alone : (q : ℕ) → IsIn q (0 ∷ []) → q ≡ 0
      alone q (inl e) = e
      alone q (inr none) = absurd none

  -- a tree of namespaces whose root stands has its root at the first key
  pub root-told : ((id_at s.numbering 0 ≡ Some 0) × (has_fallen_at s.numbering 0 ≡ false) → ⊥) → IsFlaw s (OfSpace 0)
  root-told none h =
      let id = root_id h.0 in
      none (id, h.1 (space_of s.numbering (0, 0)) (space-in s.numbering l.numbering 0 0 id) refl)

  -- a live init of the model is one by key
  init-of : (id k : ℕ) → id_at s.numbering k ≡ Some id → HasLiveInit (state_of s).rows (state_of s).spaces id → HasInitTask s k
  init-of id k e r =
      let j = in-rows s l r.0 r.1 in
      let u = named s l j.0 j.1 j.2 in
      let space : (name_at s.numbering j.0).space ≡ id = sym (ap (λ (x : Row). x.name.space) j.3) ∙ r.3 in
      let own = l.numbering.ids u.0.space k id (space-id s l j.0 u.0 u.1 ∙ ap Some space) e in (
        found_at j.0 u.0 j.1,
        record {
          task = is_task-at s j.0 u.0 j.1 j.2 u.1;
          live = sym (ap is_live j.3) ∙ r.2;
          own = own;
          one = sym (number-is_key s.numbering l.numbering k id j.0 u.0 e u.1) ∙ sym (ap (λ (x : Row). number (state_of s).spaces x.name id) j.3) ∙ r.4;
        },
      )

  -- a flaw of a namespace is one of the store
  pub space-told : (id k : ℕ) → id_at s.numbering k ≡ Some id → (flaw : Flaw) → IsSpaceFlaw s id k flaw → IsFlaw s flaw
  space-told id k e (OfSpace i) told = λ h. told (λ p up. from_some (parent_id s.numbering k) id (h.0.older (space_of s.numbering (id, k)) (space-in s.numbering l.numbering k id e)) p up)
  space-told id k e (NoInit i) told = record {
    space = space_of s.numbering (id, k);
    there = space-in s.numbering l.numbering k id e;
    named = sym told.0;
    stands = told.1;
    alone = λ live. told.2 (init-of id k e (subst (HasLiveInit (state_of s).rows (state_of s).spaces) told.0 live));
  }
  space-told id k e NoMemory told = absurd told
  space-told id k e (Control i) told = absurd told
  space-told id k e (Parent n) told = absurd told
  space-told id k e (ChildrenSpace n) told = absurd told
  space-told id k e (Group n) told = absurd told
  space-told id k e (Fallen n) told = absurd told
  space-told id k e (Home n) told = absurd told

  -- ---- control groups

  pub control-told : (flaw : Flaw) → IsControlFlaw s.charges flaw → IsFlaw s flaw
  control-told (Control i) told = told
  control-told NoMemory told = absurd told
  control-told (OfSpace i) told = absurd told
  control-told (NoInit i) told = absurd told
  control-told (Parent n) told = absurd told
  control-told (ChildrenSpace n) told = absurd told
  control-told (Group n) told = absurd told
  control-told (Fallen n) told = absurd told
  control-told (Home n) told = absurd told

  -- ---- tasks

  module _ (f : Found) (h : IsTask s f) where
    abbrev u : Identifier
    u = (owned s l f h).0

    has : identifier_at s.numbering f.key ≡ Some u
    has = (owned s l f h).1

    id : id_at s.numbering f.space ≡ Some (name_at s.numbering f.key).space
    id = space-id_of s l f h

    own_name : number (state_of s).spaces (name_at s.numbering f.key) (name_at s.numbering f.key).space ≡ number_of s.numbering f.key f.space
    own_name = number-is_key s.numbering l.numbering f.space (name_at s.numbering f.key).space f.key u id has

    module _ (good : HasGoodParents (state_of s).rows (state_of s).spaces (row_of s f.key f.task)) (all : HasParents s) where
      good-parent : (p : ℕ) → parent_of s.tree f.key ≡ Some p → may_be_parent s f p ≡ true
      good-parent p up =
          let v = held (task_at s.tree p) (all f.key p up) in
          let x = named s l p v.0 v.1 in
          let g = good.good (name_at s.numbering p) (ap (option_map (name_at s.numbering)) up) in
          let j = in-rows s l g.lives.0 g.lives.1 in
          let y = named s l j.0 j.1 j.2 in
          let same = key-named s l j.0 p (ap is_some y.1) (ap is_some x.1) (sym (ap (λ (r : Row). r.name) j.3) ∙ g.lives.2) in
          let live : lives_at s p ≡ true = ap (lives_at s) (sym same) ∙ ap (λ o. option_map_or lives o false) j.2 ∙ sym (ap is_live j.3) ∙ g.lives.3 in
          let way = in-around s.numbering l.numbering f.space (name_at s.numbering f.key).space (name_at s.numbering p).space id g.around in
          let here = l.numbering.ids way.0 x.0.space (name_at s.numbering p).space way.2 (space-id s l p x.0 x.1) in
          let inside : contains (path_at s.numbering f.space) x.0.space ≡ true = contains-from_IsIn (path_at s.numbering f.space) x.0.space (subst (λ z. IsIn z (path_at s.numbering f.space)) here way.1) in
          let out : not ((x.0.space == f.space) && is_own_init s f) ≡ true = outside x.0.space p (space-id s l p x.0 x.1) g.outside (cases_eq x.0.space f.space) (is_own_init s f) refl in
          and_true live (ap (λ o. option_map_or (λ (z : Identifier). is_around s f z.space) o false) x.1 ∙ and_true inside out)
        where
          and_true : {a b : Bool} → a ≡ true → b ≡ true → (a && b) ≡ true
          and_true e g = rw (e, g) refl

          outside : (space p : ℕ) → id_at s.numbering space ≡ Some (name_at s.numbering p).space
              → (number (state_of s).spaces (name_at s.numbering f.key) (name_at s.numbering f.key).space ≡ Some 1 → (name_at s.numbering p).space ≡ (name_at s.numbering f.key).space → ⊥)
              → (space ≡ f.space) ⊎ (space ≢ f.space) → (b : Bool) → is_own_init s f ≡ b → not ((space == f.space) && is_own_init s f) ≡ true
          outside space p at never (inl same) true is = absurd (
              never (own_name ∙ some_number (number_of s.numbering f.key f.space) 1 is)
              (some_of s l (name_at s.numbering p).space (name_at s.numbering f.key).space (sym at ∙ ap (id_at s.numbering) same ∙ id)))
          outside space p at never (inl same) false is = ap (λ d. not ((space == f.space) && d)) is ∙ either (space == f.space)
            where
              either : (b : Bool) → not (b && false) ≡ true
              either true = refl
              either false = refl
          outside space p at never (inr differs) b is = ap (λ d. not (d && is_own_init s f)) (let z : (space == f.space) ≡ false = grind (arith, differs) in z)

      parent-passes : (n : ℕ) → number_of s.numbering f.key 0 ≡ Some n → has_good_parent s n f ≡ true
      parent-passes n at = go (parent_of s.tree f.key) refl
        where
          go : (o : Option ℕ) → parent_of s.tree f.key ≡ o → has_good_parent s n f ≡ true
          go None e =
              let one = good.first (ap (option_map (name_at s.numbering)) e) in
              let z = some_of s l n (root_number (name_at s.numbering f.key)) (sym at ∙ number-at s l f.key f.task h.there) in
              ap (λ o. option_map_or (may_be_parent s f) o (n == 1)) e ∙ eq-eqb n 1 (z ∙ one)
          go (Some p) e = ap (λ o. option_map_or (may_be_parent s f) o (n == 1)) e ∙ good-parent p e

    children-passes : HasGoodChildrenSpace (state_of s).spaces (row_of s f.key f.task) → has_good_children s f ≡ true
    children-passes good = go (key_of s.numbering.order f.task.children_space) refl good
      where
        go : (o : Option ℕ) → key_of s.numbering.order f.task.children_space ≡ o → HasGoodChildrenSpace (state_of s).spaces (row_of s f.key f.task) → has_good_children s f ≡ true
        go None e good = ap (λ o. option_map_or (λ x. contains (path_at s.numbering x) f.space) o true) e
        go (Some x) e (inl gone) = absurd (
            let z : Some (space_of s.numbering (f.task.children_space, x)) ≡ None = sym (space_at-is s.numbering l.numbering f.task.children_space ∙ ap (option_map (λ k. space_of s.numbering (f.task.children_space, k))) e) ∙ gone in cc)
        go (Some x) e (inr inside) =
            let way = in-around s.numbering l.numbering x f.task.children_space (name_at s.numbering f.key).space (id-of_key s.numbering l.numbering f.task.children_space x e) inside in
            let same = l.numbering.ids way.0 f.space (name_at s.numbering f.key).space way.2 id in
            ap (λ o. option_map_or (λ x. contains (path_at s.numbering x) f.space) o true) e
            ∙ contains-from_IsIn (path_at s.numbering x) f.space (subst (λ z. IsIn z (path_at s.numbering x)) same way.1)

    led-passes : IsLedWell s (row_of s f.key f.task) → is_led s f ≡ true
    led-passes good =
        let m = member s l f.key f.task h.there in
        ap (λ o. option_map_or (has_good_leader s f) (option_map (λ (x : Membership). x.group) o) true) m.1 ∙ go m.0 m.1 (task_at s.tree m.0.group) refl
      where
        go : (m : Membership) → membership_at s.members f.key ≡ Some m → (o : Option Task) → task_at s.tree m.group ≡ o → has_good_leader s f m.group ≡ true
        go m at None e = ap (λ o. not (is_some o) || option_eq ◌==◌ (session_of s.members m.group) (session_of s.members f.key)) e
        go m at (Some t) e =
            let y = member s l m.group t e in
            let one = good (row_of s m.group t) (rows-in s l m.group t e) (group-of s l f.key m at f.task) in
            let a = session-named s l f.key m at in
            let b = session-named s l m.group y.0 y.1 in
            let same = key-named s l m.session y.0.session (ap is_some a.1) (ap is_some b.1) (sym (session-of s l f.key m at f.task) ∙ one ∙ session-of s l m.group y.0 y.1 t) in
            ap (λ o. not (is_some o) || option_eq ◌==◌ (session_of s.members m.group) (session_of s.members f.key)) e
            ∙ ap (λ o. option_eq ◌==◌ o (session_of s.members f.key)) (ap (option_map (λ (x : Membership). x.session)) y.1)
            ∙ ap (λ o. option_eq ◌==◌ (Some y.0.session) (option_map (λ (x : Membership). x.session) o)) at
            ∙ eq-eqb y.0.session m.session (sym same)

    live-passes : LivesWell s (row_of s f.key f.task) → may_live s f ≡ true
    live-passes good = go (lives f.task) refl (has_fallen_at s.numbering f.space) refl
      where
        go : (a : Bool) → lives f.task ≡ a → (b : Bool) → has_fallen_at s.numbering f.space ≡ b → not (lives f.task && has_fallen_at s.numbering f.space) ≡ true
        go false is b fell = ap (λ d. not (d && has_fallen_at s.numbering f.space)) is
        go true is false fell = ap (λ d. not (lives f.task && d)) fell ∙ ap (λ d. not (d && false)) is
        go true is true fell = absurd (
            let i : ℕ = (name_at s.numbering f.key).space in
            let z : true ≡ false = sym fell ∙ good is (space_of s.numbering (i, f.space)) (space_at-key s.numbering l.numbering f.space i id) in cc)

    -- a flaw of a task is one of the store
    pub task-told : (n : ℕ) → number_of s.numbering f.key 0 ≡ Some n → (flaw : Flaw) → IsTaskFlaw s n f flaw → IsFlaw s flaw
    task-told n at flaw told = go flaw told
      where
        row_number : root_number (name_at s.numbering f.key) ≡ n
        row_number = some_of s l (root_number (name_at s.numbering f.key)) n (sym (number-at s l f.key f.task h.there) ∙ at)

        wrong : (m : ℕ) → m ≡ n → (P : Row → Type 0) → (P (row_of s f.key f.task) → ⊥) → IsWrong s m P
        wrong m same P none = record { row = row_of s f.key f.task; there = row-in f h; number = row_number ∙ sym same; wrong = none }

        clash : (b : Bool) → b ≡ false → b ≡ true → ⊥
        clash b off on = let z : false ≡ true = sym off ∙ on in cc

        go : (flaw : Flaw) → IsTaskFlaw s n f flaw → IsFlaw s flaw
        go (Parent m) told =
            wrong m told.0 (λ row. HasGoodParents (state_of s).rows (state_of s).spaces row × HasParents s) (λ g. clash (has_good_parent s n f) told.1 (parent-passes g.0 g.1 n at))
        go (ChildrenSpace m) told = wrong m told.0 (HasGoodChildrenSpace (state_of s).spaces) (λ g. clash (has_good_children s f) told.1 (children-passes g))
        go (Group m) told = wrong m told.0 (IsLedWell s) (λ g. clash (is_led s f) told.1 (led-passes g))
        go (Fallen m) told = wrong m told.0 (LivesWell s) (λ g. clash (may_live s f) told.1 (live-passes g))
        go (Home m) told = wrong m told.0 (λ row. IsSome (control_at (state_of s).controls row.home)) (λ g. clash (has_home s f) told.1 g)
        go NoMemory told = absurd told
        go (OfSpace i) told = absurd told
        go (NoInit i) told = absurd told
        go (Control i) told = absurd told

  -- ---- chains

  -- a way that leads to no first task is a chain that does not end
  pub way-told : HasInitTask s 0 → (flaw : Flaw) → IsWayFlaw s flaw → IsFlaw s flaw
  way-told init NoMemory told = tt
  way-told init (Parent n) told = record {
    row = row_of s told.key told.task;
    there = rows-in s l told.key told.task told.there;
    number = some_of s l (root_number (name_at s.numbering told.key)) n (sym (number-at s l told.key told.task told.there) ∙ told.number);
    wrong = λ good. told.lost (chain-way s l (λ k p up. held (task_at s.tree p) (good.1 k p up)) told.key told.task told.there init.0.key init.1.one good.0.chain);
  }
  way-told init (OfSpace i) told = absurd told
  way-told init (NoInit i) told = absurd told
  way-told init (Control i) told = absurd told
  way-told init (ChildrenSpace n) told = absurd told
  way-told init (Group n) told = absurd told
  way-told init (Fallen n) told = absurd told
  way-told init (Home n) told = absurd told

  -- ---- a whole store has no flaw

  lives-well : IsWhole s → (row : Row) → IsIn row (state_of s).rows → LivesWell s row
  lives-well w row on live x at = go x.fallen refl
    where
      go : (b : Bool) → x.fallen ≡ b → b ≡ false
      go false is = refl
      go true is = absurd (
          let c = w.sound.coherent in
          let r = find-key_at (λ (y : Space). y.id) (state_of s).spaces row.name.space x at in
          let none = (c.fallen x r.0 is).ended row on live in
          let own = number-on_path (state_of s).spaces row.name row.name.space (c.numbered row.name (own_name_in_use (state_of s).rows row on)).one_each (path_first (state_of s).spaces row.name.space) in
          let z : None ≡ Some own.0 = sym none ∙ ap (number (state_of s).spaces row.name) r.1 ∙ own.1 in cc)

  pub no-flaw : (flaw : Flaw) → IsFlaw s flaw → flaw ≢ NoMemory → IsWhole s → ⊥
  no-flaw NoMemory told differs w = differs refl
  no-flaw (OfSpace i) told differs w = told (w.sound.coherent.spaces, w.sound.coherent.root)
  no-flaw (NoInit i) told differs w = told.alone (subst (HasLiveInit (state_of s).rows (state_of s).spaces) told.named (w.sound.coherent.standing told.space told.there told.stands))
  no-flaw (Control i) told differs w = told (record { tree = w.sound.coherent.controls; limits = w.sound.coherent.limits })
  no-flaw (Parent n) told differs w = told.wrong (w.sound.coherent.parents told.row told.there, w.parents)
  no-flaw (ChildrenSpace n) told differs w = told.wrong (w.sound.coherent.children told.row told.there)
  no-flaw (Group n) told differs w = told.wrong (λ leader on e. w.sound.coherent.groups.leader told.row leader told.there on e)
  no-flaw (Fallen n) told differs w = told.wrong (lives-well w told.row told.there)
  no-flaw (Home n) told differs w = told.wrong (ap is_some (w.sound.coherent.homes told.row told.there).1)
