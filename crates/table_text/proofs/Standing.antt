-- Names stay where they stand as numbers come behind them.
use Rattle.std.proofs.Common.{◌≡◌, ℕ, zero, suc, ◌+◌, ◌<◌, ◌≤◌, List, [], ◌∷◌, ◌++◌, length, take, drop, refl, ap, sym, subst, ◌∙◌, inl, inr, Some, None, Option, option_map, slice_get, arith, append_assoc, length-append, length-drop}
use Rattle.std.specs.Prelude.{slice_index_or, IfSome}
use Rattle.std.proofs.lemmas.List.{drop-append-le, take-append-le, length-map, map-append}
use Rattle.std.proofs.lemmas.Option.{slice_get-map}
use Rattle.pid_types.specs.declared.plain.Name.{Name}
use Rattle.pid_types.specs.declared.plain.Row.{Row}
use Rattle.pid_types.specs.Membership.{IsIn}
use Rattle.table_text.specs.Rows.{name_in, row_in, rows_in, IsWithin, IsLineWithin, AreWithin, IsGrown}
use Rattle.table_text.specs.declared.rows.Place.{Place}
use Rattle.table_text.specs.declared.rows.Line.{Line}
use Rattle.table_text.proofs.Each.{Each-more}

part_kept : (old more : List ℕ) (start count : ℕ) → start + count ≤ length old → take count (drop start (old ++ more)) ≡ take count (drop start old)
part_kept old more start count fits =
    let begins : start ≤ length old = omega (arith, fits) in
    let ends : count ≤ length (drop start old) = (let all = length-drop start old in omega (arith, fits, all)) in
    ap (take count) (drop-append-le start old more begins) ∙ take-append-le count (drop start old) more ends

longer : (old new : List ℕ) → IsGrown old new → length old ≤ length new
longer old new grown = let all = ap length grown.1 ∙ length-append old grown.0 in omega (arith, all)

pub within_kept : (old new : List ℕ) (p : Place) → IsGrown old new → IsWithin (length old) p → IsWithin (length new) p
within_kept old new p grown w = record { fits = (let all = longer old new grown in let fits = w.fits in omega (arith, all, fits)); few = w.few }

pub name_kept : (old new : List ℕ) (p : Place) → IsGrown old new → IsWithin (length old) p → name_in new p ≡ name_in old p
name_kept old new p grown w =
    let same : take p.count (drop p.start new) ≡ take p.count (drop p.start old) = ap (λ xs. take p.count (drop p.start xs)) grown.1 ∙ part_kept old grown.0 p.start p.count w.fits in
    ap (λ (xs : List ℕ). let name : Name = record { space = p.space; numbers = record { items = xs } } in name) same

pub parent_within : (old new : List ℕ) (o : Option Place) → IsGrown old new → IfSome o (IsWithin (length old)) → IfSome o (IsWithin (length new))
parent_within old new None grown w = tt
parent_within old new (Some p) grown w = within_kept old new p grown w

pub parent_kept : (old new : List ℕ) (o : Option Place) → IsGrown old new → IfSome o (IsWithin (length old)) → option_map (name_in new) o ≡ option_map (name_in old) o
parent_kept old new None grown w = refl
parent_kept old new (Some p) grown w = ap Some (name_kept old new p grown w)

pub line_within : (old new : List ℕ) (l : Line) → IsGrown old new → IsLineWithin (length old) l → IsLineWithin (length new) l
line_within old new l grown w = record {
  name = within_kept old new l.name grown w.name;
  parent = parent_within old new l.parent grown w.parent;
  group = within_kept old new l.group grown w.group;
  session = within_kept old new l.session grown w.session;
}

-- a row with other names
abbrev row_by : Row → Name → Option Name → Name → Name → Row
row_by r name parent group session = record r { name = name; parent = parent; group = group; session = session }

same_row : (r : Row) (a b e f g h : Name) (c d : Option Name) → a ≡ b → c ≡ d → e ≡ f → g ≡ h → row_by r a c e g ≡ row_by r b d f h
same_row r a b e f g h c d name parent group session = cc

pub row_kept : (old new : List ℕ) (l : Line) → IsGrown old new → IsLineWithin (length old) l → row_in new l ≡ row_in old l
row_kept old new l grown w =
    same_row (row_in old l) _ _ _ _ _ _ _ _ (name_kept old new l.name grown w.name) (parent_kept old new l.parent grown w.parent) (name_kept old new l.group grown w.group)
    (name_kept old new l.session grown w.session)

-- a row with its own names
pub row_told : (r : Row) (name group session : Name) (parent : Option Name) → name ≡ r.name → parent ≡ r.parent → group ≡ r.group → session ≡ r.session → row_by r name parent group session ≡ r
row_told r name group session parent is_name is_parent is_group is_session = same_row r _ _ _ _ _ _ _ _ is_name is_parent is_group is_session

pub all_within : (old new : List ℕ) (ls : List Line) → IsGrown old new → AreWithin (length old) ls → AreWithin (length new) ls
all_within old new ls grown w l there = line_within old new l grown (w l there)

pub rows_kept : (old new : List ℕ) (ls : List Line) → IsGrown old new → AreWithin (length old) ls → rows_in new ls ≡ rows_in old ls
rows_kept old new [] grown w = refl
rows_kept old new (l ∷ ls) grown w =
    let head : row_in new l ≡ row_in old l = row_kept old new l grown (w l (inl refl)) in
    let tail : rows_in new ls ≡ rows_in old ls = rows_kept old new ls grown (λ x there. w x (inr there)) in
    cc

pub rows_more : (old new : List ℕ) (ls : List Line) (l : Line) (row : Row) → IsGrown old new → AreWithin (length old) ls → row_in new l ≡ row → rows_in new (ls ++ l ∷ []) ≡ rows_in old ls ++ row ∷ []
rows_more old new ls l row grown w is =
    map-append (row_in new) ls (l ∷ []) ∙ ap (λ rows. rows ++ row_in new l ∷ []) (rows_kept old new ls grown w) ∙ ap (λ r. rows_in old ls ++ r ∷ []) is

pub more_within : (old new : List ℕ) (ls : List Line) (l : Line) → IsGrown old new → AreWithin (length old) ls → IsLineWithin (length new) l → AreWithin (length new) (ls ++ l ∷ [])
more_within old new ls l grown w last = Each-more (IsLineWithin (length new)) ls l (all_within old new ls grown w) last

pub there : (ls : List Line) (i : ℕ) (d : Line) → i < length ls → IsIn (slice_index_or ls i d) ls
there [] i d lt = absurd (omega (arith, lt))
there (l ∷ ls) zero d lt = inl refl
there (l ∷ ls) (suc i) d lt = inr (there ls i d (omega (arith, lt)))

shown : (ls : List Line) (i : ℕ) (d : Line) → i < length ls → slice_get ls i ≡ Some (slice_index_or ls i d)
shown [] i d lt = absurd (omega (arith, lt))
shown (l ∷ ls) zero d lt = refl
shown (l ∷ ls) (suc i) d lt = shown ls i d (omega (arith, lt))

-- the row at a place is that of the line there
pub row_at : (ns : List ℕ) (ls : List Line) (i : ℕ) (l : Line) → i < length ls → l ≡ slice_index_or ls i l → slice_get (rows_in ns ls) i ≡ Some (row_in ns l)
row_at ns ls i l lt is = slice_get-map (row_in ns) ls i ∙ ap (option_map (row_in ns)) (shown ls i l lt ∙ ap Some (sym is))

pub line_at : (all : ℕ) (ls : List Line) (i : ℕ) (l : Line) → AreWithin all ls → i < length ls → l ≡ slice_index_or ls i l → IsLineWithin all l
line_at all ls i l w lt is = w l (subst (λ x. IsIn x ls) (sym is) (there ls i l lt))

pub grown_on : (a b c : List ℕ) → IsGrown a b → IsGrown b c → IsGrown a c
grown_on a b c ab bc = (ab.0 ++ bc.0, bc.1 ∙ ap (λ xs. xs ++ bc.0) ab.1 ∙ append_assoc a ab.0 bc.0)

-- a place of the rows is one of the lines
pub inside : (ns : List ℕ) (ls : List Line) (i : ℕ) (rows : List Row) → rows_in ns ls ≡ rows → i < length rows → i < length ls
inside ns ls i rows is lt = (let all = ap length (sym is) ∙ length-map ls (row_in ns) in omega (arith, all, lt))

-- what is true of the row at a place
pub some_at : (rows : List Row) (i : ℕ) (r : Row) (P : Row → Type 0) → slice_get rows i ≡ Some r → P r → IfSome (slice_get rows i) P
some_at rows i r P is p = subst (λ o. IfSome o P) (sym is) p

pub found : (ls : List Line) (i : ℕ) (l : Line) → slice_get ls i ≡ Some l → IsIn l ls
found [] i l is = absurd (cc)
found (k ∷ ls) zero l is = inl (let same : l ≡ k = cc in same)
found (k ∷ ls) (suc i) l is = inr (found ls i l is)
