-- What each step makes of the lines' tasks.
use Rattle.std.proofs.Common.{◌≡◌, ◌≢◌, ◌⊎◌, inl, inr, ℕ, zero, suc, ◌+◌, ◌<◌, ◌≤◌, nat_lt, Bool, true, false, List, [], ◌∷◌, ◌++◌, length, slice_get, Option, Some, None, if◌then◌else◌, option_map, refl, sym, ap, subst, ◌∙◌, arith}
use Rattle.std.specs.Prelude.{slice_index_or}
use Rattle.std.specs.declared.vec.Vec.{Vec}
use Rattle.std.specs.declared.alloc.Global.{Global}
use Rattle.pid_numbers.specs.Restore.{is_flagged}
use Rattle.std.proofs.lemmas.Bool.{cases_eq}
use Rattle.pid_types.specs.declared.plain.Row.{Row}
use Rattle.task_table.specs.Store.{Store}
use Rattle.task_table.specs.View.{name_at, row_with}
use Rattle.table_build.specs.declared.placed.Placed.{Placed}
use Rattle.table_build.specs.Recent.{Bears}
use Rattle.table_build.specs.Sessions.{AddsGroup}
use Rattle.table_build.specs.Stages.{AddsRow, KeepsBearers, SetsRow}
use Rattle.table_build.specs.Lines.{AreGroups, AreLines, IsRowAt, SameLines, SetsLine, is_held, stage}
use Rattle.table_build.proofs.Places.{below_length}
use Rattle.table_build.proofs.Steps.{bears-kept}

module _ {X : Type 0} where
  pub get-old : (xs : List X) (y : X) (j : ℕ) (x : X) → slice_get xs j ≡ Some x → slice_get (xs ++ y ∷ []) j ≡ Some x
  get-old [] y j x e = absurd (cc)
  get-old (z ∷ zs) y zero x e = e
  get-old (z ∷ zs) y (suc j) x e = get-old zs y j x e

  pub get-last : (xs : List X) (y : X) → slice_get (xs ++ y ∷ []) (length xs) ≡ Some y
  get-last [] y = refl
  get-last (z ∷ zs) y = get-last zs y

  pub get-pushed : (xs : List X) (y : X) (j : ℕ) (x : X) → slice_get (xs ++ y ∷ []) j ≡ Some x → (slice_get xs j ≡ Some x) ⊎ ((j ≡ length xs) × (x ≡ y))
  get-pushed [] y zero x e = inr (refl, let z : x ≡ y = cc in z)
  get-pushed [] y (suc j) x e = absurd (cc)
  get-pushed (z ∷ zs) y zero x e = inl e
  get-pushed (z ∷ zs) y (suc j) x e = elim (get-pushed zs y j x e) [
    | inl old ↦ inl old
    | inr new ↦ inr (ap suc new.0, new.1)
  ]

  pub get-is : (xs : List X) (i : ℕ) (d : X) → i < length xs → slice_get xs i ≡ Some (slice_index_or xs i d)
  get-is [] i d lt = absurd (omega (arith, lt))
  get-is (y ∷ ys) zero d lt = refl
  get-is (y ∷ ys) (suc i) d lt = get-is ys i d (omega (arith, lt))

  pub get-found : (xs ys : List X) (i : ℕ) (x : X) → ys ≡ xs → i < length ys → x ≡ slice_index_or ys i x → slice_get xs i ≡ Some x
  get-found xs ys i x same lt is = ap (λ l. slice_get l i) (sym same) ∙ get-is ys i x lt ∙ ap Some (sym is)

  pub get-past : (xs : List X) (x : X) → slice_get xs (length xs) ≢ Some x
  get-past [] x e = absurd (cc)
  get-past (y ∷ ys) x e = get-past ys x e

-- a held key is not that of a line
differs : {s : Store} {p : Placed} {k j : ℕ} {r : Row} → IsRowAt s p k r → is_held p j ≡ true → k ≢ j
differs {s} {p} line held same = let z : true ≡ false = sym held ∙ ap (is_held p) (sym same) ∙ line.real in cc

-- a placeholder came
pub held-added : (s t : Store) (p q : Placed) (key : ℕ) (row : Row) → AddsRow s t key row → is_held q key ≡ true → ((k : ℕ) → k ≢ key → is_held q k ≡ is_held p k) → SameLines s t p q
held-added s t p q key row a held others = record {
  forth = λ k r line.
      let not : k ≢ key = (λ same. let z : None ≡ Some r = sym a.fresh ∙ ap (row_with s) (sym same) ∙ line.shown in cc) in
      record { shown = a.sets.others k not ∙ line.shown; real = others k not ∙ line.real };
  back = λ k r line.
      let not = differs line held in
      record { shown = sym (a.sets.others k not) ∙ line.shown; real = sym (others k not) ∙ line.real };
}

-- a placeholder's row was set
pub held-set : (s t : Store) (p : Placed) (key : ℕ) (row : Row) → SetsRow s t key row → is_held p key ≡ true → SameLines s t p p
held-set s t p key row a held = record {
  forth = λ k r line. record { shown = a.others k (differs line held) ∙ line.shown; real = line.real };
  back = λ k r line. record { shown = sym (a.others k (differs line held)) ∙ line.shown; real = line.real };
}

-- a line's row was set
pub line-set : (s t : Store) (p : Placed) (key : ℕ) (row : Row) → SetsRow s t key row → is_held p key ≡ false → SetsLine s t p p key row
line-set s t p key row a real = record {
  here = record { shown = a.here; real = real };
  forth = λ k r not line. record { shown = a.others k not ∙ line.shown; real = line.real };
  back = λ k r not line. record { shown = sym (a.others k not) ∙ line.shown; real = line.real };
}

-- steps one after the other
pub same-both : (a b c : Store) (p q r : Placed) → SameLines a b p q → SameLines b c q r → SameLines a c p r
same-both a b c p q r m n = record {
  forth = λ k x line. n.forth k x (m.forth k x line);
  back = λ k x line. m.back k x (n.back k x line);
}

pub same-set : (a b c : Store) (p q r : Placed) (key : ℕ) (row : Row) → SameLines a b p q → SetsLine b c q r key row → SetsLine a c p r key row
same-set a b c p q r key row m n = record {
  here = n.here;
  forth = λ k x not line. n.forth k x not (m.forth k x line);
  back = λ k x not line. m.back k x (n.back k x not line);
}

pub set-same : (a b c : Store) (p q r : Placed) (key : ℕ) (row : Row) → SetsLine a b p q key row → SameLines b c q r → SetsLine a c p r key row
set-same a b c p q r key row m n = record {
  here = n.forth key row m.here;
  forth = λ k x not line. n.forth k x (m.forth k x not line);
  back = λ k x not line. m.back k x not (n.back k x line);
}

-- a list of other placeholders is no other list of lines
pub same-held : (s : Store) (p q : Placed) → q.placeholders ≡ p.placeholders → SameLines s s p q
same-held s p q e = record {
  forth = λ k r line. record { shown = line.shown; real = ap (λ (x : Vec Bool Global). is_flagged x.items k) e ∙ line.real };
  back = λ k r line. record { shown = line.shown; real = sym (ap (λ (x : Vec Bool Global). is_flagged x.items k) e) ∙ line.real };
}

-- the line of one more task
pub lines-push : (s t : Store) (p q : Placed) (f : ℕ → Option Row) (key : ℕ) (row : Row) → AreLines s p f → AddsRow s t key row → f (length p.keys.items) ≡ Some row
    → q.keys.items ≡ p.keys.items ++ key ∷ [] → q.placeholders ≡ p.placeholders → is_held p key ≡ false → AreLines t q f
lines-push s t p q f key row lines a at keys held real = record {
  each = λ j k e. elim (get-pushed p.keys.items key j k (ap (λ l. slice_get l j) (sym keys) ∙ e)) [
    | inl old ↦
        let line = lines.each j k old in
        (line.0, line.1, forth k line.0 line.2)
    | inr new ↦ (row, ap f new.0 ∙ at, record { shown = ap (row_with t) new.1 ∙ a.sets.here; real = same k ∙ ap (is_held p) new.1 ∙ real })
  ];
  all = λ k r line. elim (cases_eq k key) [
    | inl same_key ↦ (length p.keys.items, ap (λ l. slice_get l (length p.keys.items)) keys ∙ get-last p.keys.items key ∙ ap Some (sym same_key))
    | inr not ↦
        let j = lines.all k r (record { shown = sym (a.sets.others k not) ∙ line.shown; real = sym (same k) ∙ line.real }) in
        (j.0, ap (λ l. slice_get l j.0) keys ∙ get-old p.keys.items key j.0 k j.1)
  ];
  apart = λ i j k x y. two i j k (get-pushed p.keys.items key i k (ap (λ l. slice_get l i) (sym keys) ∙ x)) (get-pushed p.keys.items key j k (ap (λ l. slice_get l j) (sym keys) ∙ y));
}
  where
    same : (k : ℕ) → is_held q k ≡ is_held p k
    same k = ap (λ (x : Vec Bool Global). is_flagged x.items k) held

    not_new : (k : ℕ) (r : Row) → row_with s k ≡ Some r → k ≢ key
    not_new k r shown same_key = let z : None ≡ Some r = sym a.fresh ∙ ap (row_with s) (sym same_key) ∙ shown in cc

    forth : (k : ℕ) (r : Row) → IsRowAt s p k r → IsRowAt t q k r
    forth k r line = record { shown = a.sets.others k (not_new k r line.shown) ∙ line.shown; real = same k ∙ line.real }

    two : (i j k : ℕ) → (slice_get p.keys.items i ≡ Some k) ⊎ ((i ≡ length p.keys.items) × (k ≡ key))
        → (slice_get p.keys.items j ≡ Some k) ⊎ ((j ≡ length p.keys.items) × (k ≡ key)) → i ≡ j
    two i j k (inl x) (inl y) = lines.apart i j k x y
    two i j k (inr x) (inr y) = x.0 ∙ sym y.0
    two i j k (inl x) (inr y) = absurd (let line = lines.each i k x in not_new k line.0 line.2.shown y.1)
    two i j k (inr x) (inl y) = absurd (let line = lines.each j k y in not_new k line.0 line.2.shown x.1)

-- nobody has a line yet
pub lines-none : (s : Store) (p : Placed) (f : ℕ → Option Row) → p.keys.items ≡ [] → ((k : ℕ) → row_with s k ≡ None) → AreLines s p f
lines-none s p f none nobody = record {
  each = λ j k e. absurd (let z : None ≡ Some k = ap (λ (l : List ℕ). slice_get l j) (sym none) ∙ e in cc);
  all = λ k r line. absurd (let z : None ≡ Some r = sym (nobody k) ∙ line.shown in cc);
  apart = λ i j k x y. absurd (let z : None ≡ Some k = ap (λ (l : List ℕ). slice_get l i) (sym none) ∙ x in cc);
}

-- one line's row is another
pub lines-set : (s t : Store) (p q : Placed) (f g : ℕ → Option Row) (i key : ℕ) (row : Row) → AreLines s p f → SetsLine s t p q key row → q.keys ≡ p.keys → slice_get p.keys.items i ≡ Some key
    → g i ≡ Some row → ((j : ℕ) → j ≢ i → g j ≡ f j) → AreLines t q g
lines-set s t p q f g i key row lines m keys at here others = record {
  each = λ j k e. each j k (old j k e) (cases_eq j i);
  all = λ k r line. elim (cases_eq k key) [
    | inl same ↦ (i, new i k (at ∙ ap Some (sym same)))
    | inr not ↦ let j = lines.all k r (m.back k r not line) in (j.0, new j.0 k j.1)
  ];
  apart = λ a b k x y. lines.apart a b k (old a k x) (old b k y);
}
  where
    old : (j k : ℕ) → slice_get q.keys.items j ≡ Some k → slice_get p.keys.items j ≡ Some k
    old j k e = ap (λ (v : Vec ℕ Global). slice_get v.items j) (sym keys) ∙ e

    new : (j k : ℕ) → slice_get p.keys.items j ≡ Some k → slice_get q.keys.items j ≡ Some k
    new j k e = ap (λ (v : Vec ℕ Global). slice_get v.items j) keys ∙ e

    each : (j k : ℕ) → slice_get p.keys.items j ≡ Some k → (j ≡ i) ⊎ (j ≢ i) → (r : Row) × (g j ≡ Some r) × IsRowAt t q k r
    each j k e (inl same) =
        let own : k ≡ key = (let z = sym e ∙ ap (slice_get p.keys.items) same ∙ at in let y : k ≡ key = cc in y) in
        (row, ap g same ∙ here, record { shown = ap (row_with t) own ∙ m.here.shown; real = ap (is_held q) own ∙ m.here.real })
    each j k e (inr not) =
        let line = lines.each j k e in
        (line.0, others j not ∙ line.1, m.forth k line.0 (λ same. not (lines.apart j i k e (at ∙ ap Some (sym same)))) line.2)

-- the lines are the same
pub lines-same : (s t : Store) (p q : Placed) (f : ℕ → Option Row) → AreLines s p f → SameLines s t p q → q.keys ≡ p.keys → AreLines t q f
lines-same s t p q f lines m keys = record {
  each = λ j k e. let line = lines.each j k (ap (λ (v : Vec ℕ Global). slice_get v.items j) (sym keys) ∙ e) in (line.0, line.1, m.forth k line.0 line.2);
  all = λ k r line. let j = lines.all k r (m.back k r line) in (j.0, ap (λ (v : Vec ℕ Global). slice_get v.items j.0) keys ∙ j.1);
  apart = λ a b k x y. lines.apart a b k (ap (λ (v : Vec ℕ Global). slice_get v.items a) (sym keys) ∙ x) (ap (λ (v : Vec ℕ Global). slice_get v.items b) (sym keys) ∙ y);
}

-- and so are those of which the same is said
pub lines-shown : (s : Store) (p : Placed) (f g : ℕ → Option Row) → AreLines s p f → ((j k : ℕ) → slice_get p.keys.items j ≡ Some k → g j ≡ f j) → AreLines s p g
lines-shown s p f g lines same = record {
  each = λ j k e. let line = lines.each j k e in (line.0, same j k e ∙ line.1, line.2);
  all = lines.all;
  apart = lines.apart;
}

pub same-none : (s : Store) (p : Placed) → SameLines s s p p
same-none s p = record { forth = λ k r line. line; back = λ k r line. line }

-- the rows of the lines as the steps go on
module _ (done todo : Row → Row) (rows : List Row) where
  pub stage-begin : (j : ℕ) → stage done todo rows 0 j ≡ option_map todo (slice_get rows j)
  stage-begin j = ap (λ b. option_map (if b then done else todo) (slice_get rows j)) (let z : nat_lt j 0 ≡ false = grind (arith) in z)

  pub stage-end : (count : ℕ) → length rows ≤ count → (j : ℕ) → stage done todo rows count j ≡ option_map done (slice_get rows j)
  stage-end count all j = go (slice_get rows j) refl
    where
      go : (o : Option Row) → slice_get rows j ≡ o → option_map (if nat_lt j count then done else todo) o ≡ option_map done o
      go None e = refl
      go (Some r) e = let lt = below_length rows j r e in ap (λ b. Some ((if b then done else todo) r)) (let z : nat_lt j count ≡ true = grind (arith, lt, all) in z)

  pub stage-here : (i : ℕ) (row : Row) → slice_get rows i ≡ Some row → stage done todo rows (i + 1) i ≡ Some (done row)
  stage-here i row e = ap (option_map (if nat_lt i (i + 1) then done else todo)) e ∙ ap (λ b. Some ((if b then done else todo) row)) (let z : nat_lt i (i + 1) ≡ true = grind (arith) in z)

  pub stage-todo : (i : ℕ) (row : Row) → slice_get rows i ≡ Some row → stage done todo rows i i ≡ Some (todo row)
  stage-todo i row e = ap (option_map (if nat_lt i i then done else todo)) e ∙ ap (λ b. Some ((if b then done else todo) row)) (let z : nat_lt i i ≡ false = grind (arith) in z)

  pub stage-others : (i j : ℕ) → j ≢ i → stage done todo rows (i + 1) j ≡ stage done todo rows i j
  stage-others i j not = ap (λ b. option_map (if b then done else todo) (slice_get rows j)) (let z : nat_lt j (i + 1) ≡ nat_lt j i = grind (arith, not) in z)

-- the row of a line's task
pub line-at : (s : Store) (p : Placed) (f : ℕ → Option Row) (j key : ℕ) (row : Row) → AreLines s p f → slice_get p.keys.items j ≡ Some key → f j ≡ Some row → IsRowAt s p key row
line-at s p f j key row lines at is =
    let line = lines.each j key at in
    let same : line.0 ≡ row = (let z = sym line.1 ∙ is in let y : line.0 ≡ row = cc in y) in
    subst (IsRowAt s p key) same line.2

-- one group more
pub groups-push : (s t : Store) (p q : Placed) (rows : List Row) (key : ℕ) (row : Row) → AreGroups s p rows → KeepsBearers s t → AddsGroup s t p q key row → slice_get rows (length p.groups.items) ≡ Some row
    → AreGroups t q rows
groups-push s t p q rows key row groups names a at j g e = elim (get-pushed p.groups.items a.group j g (ap (λ l. slice_get l j) (sym a.added) ∙ e)) [
  | inl old ↦ let r = groups j g old in (r.0, r.1, bears-kept s t g r.0.group names r.2)
  | inr new ↦ (row, ap (slice_get rows) new.0 ∙ at, subst (λ k. Bears t k row.group) (sym new.1) a.bears)
]

pub groups-none : (s : Store) (p : Placed) (rows : List Row) → p.groups.items ≡ [] → AreGroups s p rows
groups-none s p rows none j g e = absurd (let z : None ≡ Some g = ap (λ (l : List ℕ). slice_get l j) (sym none) ∙ e in cc)

pub groups-kept : (s t : Store) (p : Placed) (rows : List Row) → AreGroups s p rows → KeepsBearers s t → AreGroups t p rows
groups-kept s t p rows groups names j g e = let r = groups j g e in (r.0, r.1, bears-kept s t g r.0.group names r.2)

-- the name of the group of a line
pub group-at : (s : Store) (p : Placed) (rows : List Row) (j g : ℕ) (row : Row) → AreGroups s p rows → slice_get p.groups.items j ≡ Some g → slice_get rows j ≡ Some row → name_at s.numbering g ≡ row.group
group-at s p rows j g row groups at here =
    let r = groups j g at in
    let same : r.0 ≡ row = (let z = sym r.1 ∙ here in let y : r.0 ≡ row = cc in y) in
    r.2.named ∙ ap (λ (x : Row). x.group) same

-- a row set twice
pub set-twice : (a b c : Store) (key : ℕ) (one two : Row) → SetsRow a b key one → SetsRow b c key two → SetsRow a c key two
set-twice a b c key one two m n = record { here = n.here; others = λ k not. n.others k not ∙ m.others k not }
