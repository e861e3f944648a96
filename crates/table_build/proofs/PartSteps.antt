-- What a step keeps of the text in a store.
use Rattle.std.proofs.Common.{◌≡◌, ◌≢◌, ◌⊎◌, inl, inr, ℕ, zero, suc, ◌<◌, Bool, true, false, List, [], ◌∷◌, length, map, slice_get, Option, Some, None, is_some, if◌then◌else◌, refl, sym, ap, subst, ◌∙◌, arith, option_map}
use Rattle.std.specs.Prelude.{nat_lt}
use Rattle.std.specs.Option.{option_map_or}
use Rattle.std.proofs.lemmas.Bool.{cases_eq}
use Rattle.pid_types.proofs.General.{held}
use Rattle.pid_types.specs.declared.plain.Name.{Name}
use Rattle.pid_types.specs.declared.plain.Row.{Row}
use Rattle.pid_types.specs.Membership.{IsIn}
use Rattle.pid_types.specs.Names.{names_in_use, path_up, root_number}
use Rattle.pid_types.specs.Sound.{HasGoodGroups, IsRising, IsSound}
use Rattle.pid_types.specs.State.{State, root_name}
use Rattle.model_laws.proofs.Lists.{IsIn-map}
use Rattle.model_laws.proofs.Names.{beside-Some, own_name_in_use, session_in_use}
use Rattle.pid_numbers.specs.Numbering.{identifier_at, number_in, path_at}
use Rattle.pid_numbers.specs.Restore.{is_flagged}
use Rattle.task_tree.specs.Tree.{task_at}
use Rattle.groups_sessions.specs.Membership.{IsSessionOf, group_of, session_of}
use Rattle.task_table.specs.Lawful.{IsLawful}
use Rattle.task_table.specs.Store.{Store}
use Rattle.task_table.specs.View.{name_at, row_of, row_with, spaces_of}
use Rattle.task_table.specs.Whole.{HasParents}
use Rattle.task_table.proofs.Around.{in-around, key-named}
use Rattle.task_table.proofs.Groups.{in_group, session_is}
use Rattle.task_table.proofs.InUse.{member}
use Rattle.task_table.proofs.LookUps.{named, session-named, space-id}
use Rattle.table_build.specs.declared.placed.Placed.{Placed}
use Rattle.table_build.specs.Grouping.{IsGroupIn, IsSeenByParent}
use Rattle.table_build.specs.Lines.{AreGroups, AreLines, is_held, stage}
use Rattle.table_build.specs.Parts.{AreAllBorne, AreSeated, HasParts, HaveSeats, IsPart, IsUnborne}
use Rattle.table_build.specs.Recent.{Bears}
use Rattle.table_build.specs.Sessions.{AddsGroup, AddsPlaceholder, Seats}
use Rattle.table_build.specs.Stages.{AddsRow, KeepsBearers, KeepsPlaces, SetsRow, as_begun, seated}
use Rattle.table_build.specs.Ungrouped.{IsUngrouped}
use Rattle.table_build.proofs.LineSteps.{get-is, get-pushed, group-at}
use Rattle.table_build.proofs.Parts.{same-up}
use Rattle.table_build.proofs.Places.{at_place, below_length, place_of}
use Rattle.table_build.proofs.SpaceFalls.{steady-same}
use Rattle.table_build.proofs.Steps.{task-of}

pub places-kept : (s t : Store) (text : State) → KeepsPlaces s t → HasParts s text → HasParts t text
places-kept s t text k h = record {
  spaces = steady-same s.numbering t.numbering k.spaces ∙ h.spaces;
  controls = k.controls ∙ h.controls;
  bound = k.spaces.bound ∙ h.bound;
}

-- the same row
one-row : (s : Store) (k : ℕ) (r x : Row) → row_with s k ≡ Some r → row_with s k ≡ Some x → r ≡ x
one-row s k r x e f = let z : Some r ≡ Some x = sym e ∙ f in cc

module _ (s t : Store) (text : State) (places : KeepsPlaces s t) (part : IsPart s text) where
  pub part-set : (key : ℕ) (row : Row) → SetsRow s t key row → IsIn row.name (names_in_use text.rows) → IsPart t text
  part-set key row set used = record {
    places = places-kept s t text places part.places;
    names = λ k r e. elim (cases_eq k key) [
      | inl same ↦
          let is = one-row t k r row e (ap (row_with t) same ∙ set.here) in
          subst (λ (n : Name). IsIn n (names_in_use text.rows)) (ap (λ (x : Row). x.name) (sym is)) used
      | inr not ↦ part.names k r (sym (set.others k not) ∙ e)
    ];
  }

  pub part-placeholder : (p q : Placed) (name : Name) → AddsPlaceholder s t p q name → IsIn name (names_in_use text.rows) → IsPart t text
  part-placeholder p q name a used = record {
    places = places-kept s t text places part.places;
    names = λ k r e. elim (a.come k r e) [
      | inl before ↦ part.names k r before
      | inr same ↦ subst (λ (n : Name). IsIn n (names_in_use text.rows)) (sym same) used
    ];
  }

  pub part-seats : (p : Placed) (key : ℕ) (session : Name) → Seats s t p key session → IsPart t text
  part-seats p key session a = record {
    places = places-kept s t text places part.places;
    names = λ k r e. elim (cases_eq k key) [
      | inl same ↦
          let b = a.named r (ap (row_with t) (sym same) ∙ e) in
          subst (λ (n : Name). IsIn n (names_in_use text.rows)) (sym b.2) (part.names key b.0 b.1)
      | inr not ↦ part.names k r (sym (a.others k not) ∙ e)
    ];
  }

-- a session was found, and the task went there
pub part-entered : (s t u : Store) (text : State) (p q : Placed) (key : ℕ) (row entered : Row) → IsPart s text → IsIn row text.rows → AddsPlaceholder s t p q row.session → KeepsPlaces s t
    → SetsRow t u key entered → entered.name ≡ row.name → KeepsPlaces t u → IsPart u text
part-entered s t u text p q key row entered part inside added first set name second =
    part-set t u text second (part-placeholder s t text first part p q row.session added (session_in_use text.rows row inside)) key entered set
    (subst (λ (n : Name). IsIn n (names_in_use text.rows)) (sym name) (own_name_in_use text.rows row inside))

-- placeholders
pub placeholder-added : (s t : Store) (p q : Placed) (key : ℕ) (row : Row) (name : Name) → AddsRow s t key row → row.name ≡ name → ((k : ℕ) → k ≢ key → is_held q k ≡ is_held p k) → AddsPlaceholder s t p q name
placeholder-added s t p q key row name a own marks = record {
  kept = λ k r e.
      let not : k ≢ key = (λ same. let z : Some r ≡ None = sym e ∙ ap (row_with s) same ∙ a.fresh in cc) in
      (a.sets.others k not ∙ e, marks k not);
  come = λ k r e. elim (cases_eq k key) [
    | inl same ↦ inr (ap (λ (x : Row). x.name) (one-row t k r row e (ap (row_with t) same ∙ a.sets.here)) ∙ own)
    | inr not ↦ inl (sym (a.sets.others k not) ∙ e)
  ];
}

pub placeholder-none : (s : Store) (p : Placed) (name : Name) → AddsPlaceholder s s p p name
placeholder-none s p name = record { kept = λ k r e. (e, refl); come = λ k r e. inl e }

-- a task that stays where it is
pub seats-none : (s : Store) (p : Placed) (key : ℕ) (session : Name) → is_held p key ≡ false → Seats s s p key session
seats-none s p key session real = record {
  others = λ k not. refl;
  named = λ r e. (r, e, refl);
  seat = λ held. absurd (let z = sym held ∙ real in cc);
}

-- a task that goes to a session
pub seats-set : (s t : Store) (p : Placed) (key : ℕ) (before row : Row) (session : Name) → row_with s key ≡ Some before → SetsRow s t key row → row.name ≡ before.name → row.session ≡ session → Seats s t p key session
seats-set s t p key before row session at set name to = record {
  others = set.others;
  named = λ r e. (before, at, ap (λ (x : Row). x.name) (one-row t key r row e set.here) ∙ name);
  seat = λ held r e. ap (λ (x : Row). x.session) (one-row t key r row e set.here) ∙ to;
}

-- the row of who bears a name
pub row-borne : (s : Store) (k : ℕ) (name : Name) → Bears s k name → (r : Row) × (row_with s k ≡ Some r) × (r.name ≡ name)
row-borne s k name b = let t = held (task_at s.tree k) b.there in (row_of s k t.0, ap (option_map (row_of s k)) t.1, b.named)

-- who bears the name of a row
pub borne-row : (s : Store) (k : ℕ) (r : Row) → row_with s k ≡ Some r → Bears s k r.name
borne-row s k r e = let t = task-of s k r e in record { there = ap is_some t.1; named = ap (λ (x : Row). x.name) t.2 }

-- one name is of one task
pub one-bearer : (s : Store) → IsLawful s → (j k : ℕ) (name : Name) → Bears s j name → Bears s k name → j ≡ k
one-bearer s l j k name a b =
    let t = held (task_at s.tree j) a.there in
    let v = held (task_at s.tree k) b.there in
    key-named s l j k (ap is_some (named s l j t.0 t.1).1) (ap is_some (named s l k v.0 v.1).1) (a.named ∙ sym b.named)

-- rows whose numbers rise
rising-at : {X : Type 0} (f : X → ℕ) (xs : List X) (i j : ℕ) (x y : X) → IsRising (map f xs) → slice_get xs i ≡ Some x → slice_get xs j ≡ Some y → i < j → f x < f y
rising-at f [] i j x y rise e g lt = absurd (cc)
rising-at f (z ∷ zs) i zero x y rise e g lt = absurd (omega (arith, lt))
rising-at f (z ∷ zs) zero (suc j) x y rise e g lt =
    let up = rise.0 (f y) (IsIn-map f y zs (at_place zs j y g)) in
    let own : z ≡ x = cc in
    let same = ap f own in
    omega (arith, up, same)
rising-at f (z ∷ zs) (suc i) (suc j) x y rise e g lt = rising-at f zs i j x y rise.1 e g (omega (arith, lt))

abbrev number_of_row : Row → ℕ
number_of_row r = root_number r.name

pub rows-rise_at : (rows : List Row) (i j : ℕ) (a b : Row) → IsRising (map number_of_row rows) → slice_get rows i ≡ Some a → slice_get rows j ≡ Some b → i < j → number_of_row a < number_of_row b
rows-rise_at rows i j a b rise e g lt = rising-at number_of_row rows i j a b rise e g lt

some_row : (f : Row → Row) (o : Option Row) (r : Row) → option_map f o ≡ Some r → (x : Row) × (o ≡ Some x) × (r ≡ f x)
some_row f None r e = absurd (cc)
some_row f (Some x) r e = (x, refl, (let z : f x ≡ r = cc in sym z))

-- nobody bears the name of the next line yet
pub unborne-next : (s : Store) (p : Placed) (rows : List Row) (i : ℕ) (row : Row) → AreLines s p (λ j. option_map as_begun (slice_get rows j)) → length p.keys.items ≡ i
    → p.placeholders.items ≡ [] → slice_get rows i ≡ Some row → IsRising (map number_of_row rows) → IsUnborne s row.name
unborne-next s p rows i row lines count none here rise k b =
    let r = row-borne s k row.name b in
    let real : is_held p k ≡ false = ap (λ (l : List Bool). is_flagged l k) none in
    let j = lines.all k r.0 (record { shown = r.1; real = real }) in
    let x = lines.each j.0 k j.1 in
    let y = some_row as_begun (slice_get rows j.0) x.0 x.1 in
    let lt = below_length p.keys.items j.0 k j.1 in
    let up = rising-at number_of_row rows j.0 i y.0 row rise y.1 here (omega (arith, lt, count)) in
    let same = ap (λ (z : Row). number_of_row z) (one-row s k r.0 x.0 r.1 x.2.shown) ∙ ap (λ (z : Row). number_of_row z) y.2 in
    let own = ap root_number r.2 in
    omega (arith, up, same, own)

-- one group more
pub seats-next : (s t : Store) (p q : Placed) (rows : List Row) (key : ℕ) (row : Row) → HasGoodGroups rows → AreGroups s p rows
    → HaveSeats s p rows → AddsGroup s t p q key row → slice_get rows (length p.groups.items) ≡ Some row → is_held q key ≡ false → KeepsBearers s t → HaveSeats t q rows
seats-next s t p q rows key row good groups before a here real keeps j g x r at line held e =
    elim (get-pushed p.groups.items a.group j g (ap (λ l. slice_get l j) (sym a.added) ∙ at)) [
      | inl old ↦ earlier old (cases_eq g a.group) (cases_eq g key)
      | inr new ↦
          let same : x ≡ row = (let z : Some x ≡ Some row = sym line ∙ ap (slice_get rows) new.0 ∙ here in cc) in
          a.seat (ap (is_held q) (sym new.1) ∙ held) r (ap (row_with t) (sym new.1) ∙ e) ∙ ap (λ (z : Row). z.session) (sym same)
    ]
  where
    earlier : slice_get p.groups.items j ≡ Some g → (g ≡ a.group) ⊎ (g ≢ a.group) → (g ≡ key) ⊎ (g ≢ key) → r.session ≡ x.session
    earlier old (inl same) is_key =
        let b = groups j g old in
        let own : b.0 ≡ x = (let z : Some b.0 ≡ Some x = sym b.1 ∙ line in cc) in
        let after = keeps.each g b.2.there in
        let name : x.group ≡ row.group = ap (λ (z : Row). z.group) (sym own) ∙ sym b.2.named ∙ sym after.1 ∙ ap (name_at t.numbering) same ∙ a.bears.named in
        let session = good.together x row (at_place rows j x line) (at_place rows (length p.groups.items) row here) name in
        a.seat (ap (is_held q) (sym same) ∙ held) r (ap (row_with t) (sym same) ∙ e) ∙ sym session
    earlier old (inr not) (inl is_key) = absurd (let z = sym held ∙ ap (is_held q) is_key ∙ real in cc)
    earlier old (inr not) (inr other) =
        let b = groups j g old in
        let v = row-borne s g b.0.group b.2 in
        let k = a.kept g v.0 other not v.1 in
        ap (λ (z : Row). z.session) (one-row t g r v.0 e k.0) ∙ before j g x v.0 old line (sym k.1 ∙ held) v.1

-- a task in its own group
pub own-group : (s : Store) → IsLawful s → IsUngrouped s → (k : ℕ) (r : Row) → row_with s k ≡ Some r → r.group ≡ r.name
own-group s l u k r e =
    let t = task-of s k r e in
    let m = member s l k t.0 t.1 in
    let g : group_of s.members k ≡ Some m.0.group = ap (option_map (λ m. m.group)) m.1 in
    let same = u.alone k m.0.group g in
    ap (λ (x : Row). x.group) (sym t.2) ∙ ap (λ o. option_map_or (name_at s.numbering) o root_name) g ∙ ap (name_at s.numbering) same ∙ ap (λ (x : Row). x.name) t.2

-- the names of all lines are borne, at any stage that keeps names
pub all-borne : (s : Store) (p : Placed) (rows : List Row) (f : ℕ → Option Row) → AreLines s p f → length p.keys.items ≡ length rows
    → ((j : ℕ) (x r : Row) → slice_get rows j ≡ Some x → f j ≡ Some r → r.name ≡ x.name) → AreAllBorne s p rows
all-borne s p rows f lines count keeps r i =
    let j = place_of rows r i in
    let lt = j.2 in
    let key = get-is p.keys.items j.0 0 (omega (arith, lt, count)) in
    let x = lines.each j.0 _ key in
    let name = keeps j.0 r x.0 j.1 x.1 in
    let b = borne-row s _ x.0 x.2.shown in
    (_, record { there = b.there; named = b.named ∙ name }, x.2.real)

pub stage-names : (rows : List Row) (i j : ℕ) (x r : Row) → slice_get rows j ≡ Some x → stage (λ z. z) seated rows i j ≡ Some r → r.name ≡ x.name
stage-names rows i j x r e at = go (nat_lt j i) (ap (option_map (if nat_lt j i then (λ z. z) else seated)) (sym e) ∙ at)
  where
    go : (b : Bool) → option_map (if b then (λ z. z) else seated) (Some x) ≡ Some r → r.name ≡ x.name
    go true z = (let y : x ≡ r = cc in ap (λ (w : Row). w.name) (sym y))
    go false z = (let y : seated x ≡ r = cc in ap (λ (w : Row). w.name) (sym y))

-- all tasks of the next line's group are in its session
pub group-in : (s : Store) → IsLawful s → (p : Placed) (rows : List Row) (i group : ℕ) (row : Row) → HasGoodGroups rows → AreLines s p (stage (λ z. z) seated rows i) → AreGroups s p rows
    → AreSeated s p rows → slice_get rows i ≡ Some row → slice_get p.groups.items i ≡ Some group → IsGroupIn s (name_at s.numbering group) row.session
group-in s l p rows i group row good lines groups seats here at k r e same = go (is_held p k) refl
  where
    name : name_at s.numbering group ≡ row.group
    name = group-at s p rows i group row groups at here

    inside : IsIn row rows
    inside = at_place rows i row here

    line : (j : ℕ) (x : Row) → slice_get rows j ≡ Some x → (b : Bool) → r ≡ (if b then (λ (z : Row). z) else seated) x → r.session ≡ row.session
    line j x on true is =
        let group = ap (λ (z : Row). z.group) (sym is) ∙ same ∙ name in
        ap (λ (z : Row). z.session) is ∙ good.together x row (at_place rows j x on) inside group
    line j x on false is =
        let leader : row.group ≡ x.name = sym name ∙ sym same ∙ ap (λ (z : Row). z.group) is in
        ap (λ (z : Row). z.session) is ∙ sym (good.leader row x inside (at_place rows j x on) leader)

    go : (b : Bool) → is_held p k ≡ b → r.session ≡ row.session
    go true held =
        let b = groups i group at in
        let own : Bears s k row.group = (let w = borne-row s k r e in record { there = w.there; named = w.named ∙ sym (seats.alone k r held e) ∙ same ∙ name }) in
        let one = one-bearer s l k group row.group own (record { there = b.2.there; named = name }) in
        seats.seats i group row r at here (ap (is_held p) (sym one) ∙ held) (ap (row_with s) (sym one) ∙ e)
    go false real =
        let j = lines.all k r (record { shown = e; real = real }) in
        let x = lines.each j.0 k j.1 in
        let y = some_row (if nat_lt j.0 i then (λ (z : Row). z) else seated) (slice_get rows j.0) x.0 x.1 in
        line j.0 y.0 y.1 (nat_lt j.0 i) (one-row s k r x.0 e x.2.shown ∙ y.2)

-- the rows of placeholders stay
pub seated-kept : (s t : Store) (p : Placed) (rows : List Row) → ((k : ℕ) → is_held p k ≡ true → row_with t k ≡ row_with s k) → AreSeated s p rows → AreSeated t p rows
seated-kept s t p rows same a = record {
  alone = λ k r held e. a.alone k r held (sym (same k held) ∙ e);
  seats = λ j g x r at on held e. a.seats j g x r at on held (sym (same g held) ∙ e);
}

-- a sound text's task sees its parent's namespace
pub seen-by_parent : (s : Store) → IsLawful s → HasParents s → (text : State) → IsSound text → IsPart s text → (key : ℕ) (row r : Row) → IsIn row text.rows → row_with s key ≡ Some r
    → r.name ≡ row.name → r.parent ≡ row.parent → IsSeenByParent s key
seen-by_parent s l kin text sound part key row r inside e name parent p up =
    let t = task-of s key r e in
    let v = named s l key t.0 t.1 in
    let w = held (task_at s.tree p) (kin key p up) in
    let u = named s l p w.0 w.1 in
    let whose : row.parent ≡ Some (name_at s.numbering p) = sym parent ∙ ap (λ (x : Row). x.parent) (sym t.2) ∙ ap (option_map (name_at s.numbering)) up in
    let around = ((sound.coherent.parents row inside).good (name_at s.numbering p) whose).around in
    let own : (name_at s.numbering key).space ≡ row.name.space = ap (λ (x : Row). x.name.space) t.2 ∙ ap (λ (n : Name). n.space) name in
    let on = subst (IsIn (name_at s.numbering p).space) (sym (same-up (spaces_of s.numbering) text.spaces part.places.spaces row.name.space) ∙ ap (path_up (spaces_of s.numbering)) (sym own)) around in
    let y = in-around s.numbering l.numbering v.0.space (name_at s.numbering key).space (name_at s.numbering p).space (space-id s l key v.0 v.1) on in
    let same = l.numbering.ids y.0 u.0.space (name_at s.numbering p).space y.2 (space-id s l p u.0 u.1) in
    let full = (l.numbering.full key v.0 v.1).1 in
    let n = beside-Some u.0.space (path_at s.numbering v.0.space) v.0.numbers (omega (arith, full)) (subst (λ z. IsIn z (path_at s.numbering v.0.space)) same y.1) in
    (u.0, u.1, ap is_some (ap (number_in (path_at s.numbering) u.0.space) v.1 ∙ n.1))

-- where all tasks of a group are in the task's session, that is the group's
pub one-session : (s : Store) → IsLawful s → (key : ℕ) (row : Row) (group found session : ℕ) → row_with s key ≡ Some row → session_of s.members key ≡ Some session
    → IsSessionOf s.members group (Some found) → IsGroupIn s (name_at s.numbering group) row.session → found ≡ session
one-session s l key row group found session e own is inside =
    let k = is.0 in
    let m = in_group s.members k.0 group k.1 in
    let t = held (task_at s.tree k.0) (sym (l.agree.members k.0) ∙ ap is_some m.1) in
    let r : row_with s k.0 ≡ Some (row_of s k.0 t.0) = ap (option_map (row_of s k.0)) t.1 in
    let of_group : (row_of s k.0 t.0).group ≡ name_at s.numbering group = ap (λ o. option_map_or (name_at s.numbering) o root_name) k.1 in
    let theirs : (row_of s k.0 t.0).session ≡ name_at s.numbering found = ap (λ o. option_map_or (name_at s.numbering) o root_name) (is.1 k.0 k.1) in
    let v = task-of s key row e in
    let ours : row.session ≡ name_at s.numbering session = ap (λ (x : Row). x.session) (sym v.2) ∙ ap (λ o. option_map_or (name_at s.numbering) o root_name) own in
    let n = member s l key v.0 v.1 in
    let other = session-named s l k.0 m.0 m.1 in
    let mine = session-named s l key n.0 n.1 in
    let x = ap (identifier_at s.numbering) (sym (session_is s.members k.0 m.0 m.1 found (is.1 k.0 k.1))) ∙ other.1 in
    let y = ap (identifier_at s.numbering) (sym (session_is s.members key n.0 n.1 session own)) ∙ mine.1 in
    key-named s l found session (ap is_some x) (ap is_some y) (sym theirs ∙ inside k.0 (row_of s k.0 t.0) r of_group ∙ ours)
