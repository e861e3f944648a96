-- What falls and cursors make of the list of namespaces.
use Rattle.std.proofs.Common.{◌≡◌, ◌≢◌, inl, inr, ℕ, ◌+◌, ◌<◌, ◌≤◌, Bool, true, false, ◌||◌, List, [], ◌∷◌, length, map, slice_get, Option, Some, None, refl, sym, ap, subst, ◌∙◌, arith, option_map, option_and_then}
use Rattle.std.specs.Option.{option_map_or}
use Rattle.std.proofs.lemmas.Bool.{cases_eq}
use Rattle.std.specs.List.{AllByRecursion}
use Rattle.id_slab.specs.Ids.{AreRising}
use Rattle.pid_types.specs.declared.plain.Space.{Space}
use Rattle.pid_types.specs.Membership.{IsIn}
use Rattle.pid_numbers.specs.Numbering.{Numbering, Namespace, namespace_at, id_at, path_at, has_fallen_at}
use Rattle.pid_numbers.specs.Restore.{is_flagged, fallen_if}
use Rattle.task_table.specs.View.{space_of, spaces_of}
use Rattle.task_table.specs.Lawful.{HasLaws}
use Rattle.table_build.specs.Bare.{AddsFlag, AreFlagged, HasCursor, undrawn, steady}
use Rattle.table_build.specs.Stages.{KeepsSpaces}
use Rattle.table_build.proofs.Places.{at_place, place_of}
use Rattle.table_build.proofs.Steps.{same_falls, same_ids, same_paths}

-- pairs that are alike in one way, and so in another
pub alike : {X Y Z : Type 0} (f f' : X → Z) (g g' : Y → Z) (ps : List X) (xs : List Y) → map f ps ≡ map g xs → ((p : X) (x : Y) → IsIn p ps → IsIn x xs → f p ≡ g x → f' p ≡ g' x)
    → map f' ps ≡ map g' xs
alike f f' g g' [] [] same each = refl
alike f f' g g' [] (x ∷ xs) same each = absurd (cc)
alike f f' g g' (p ∷ ps) [] same each = absurd (cc)
alike f f' g g' (p ∷ ps) (x ∷ xs) same each =
    let head : f p ≡ g x = cc in
    let tail : map f ps ≡ map g xs = cc in
    ap (λ z. z ∷ map f' ps) (each p x (inl refl) (inl refl) head) ∙ ap (λ zs. g' x ∷ zs) (alike f f' g g' ps xs tail (λ q y i j. each q y (inr i) (inr j)))

-- ids that rise are those of one namespace each
above : (n : ℕ) (ps : List (ℕ × ℕ)) (xs : List Space) → map (λ (x : Space). x.id) xs ≡ map (λ p. p.0) ps → AllByRecursion (λ p. n < p.0) ps → (x : Space) → IsIn x xs → n < x.id
above n [] [] same all x i = absurd i
above n [] (y ∷ ys) same all x i = absurd (cc)
above n (p ∷ ps) [] same all x i = absurd i
above n (p ∷ ps) (y ∷ ys) same all x (inl e) = let head : y.id ≡ p.0 = cc in let own = ap (λ (z : Space). z.id) e in let up = all.0 in omega (arith, head, own, up)
above n (p ∷ ps) (y ∷ ys) same all x (inr i) = above n ps ys (let tail : map (λ (x : Space). x.id) ys ≡ map (λ p. p.0) ps = cc in tail) all.1 x i

pub one-each : (ps : List (ℕ × ℕ)) (xs : List Space) → map (λ (x : Space). x.id) xs ≡ map (λ p. p.0) ps → AreRising ps → (x y : Space) → IsIn x xs → IsIn y xs → x.id ≡ y.id → x ≡ y
one-each ps [] same rise x y i j e = absurd i
one-each [] (z ∷ zs) same rise x y i j e = absurd (cc)
one-each (p ∷ ps) (z ∷ zs) same rise x y (inl a) (inl b) e = a ∙ sym b
one-each (p ∷ ps) (z ∷ zs) same rise x y (inl a) (inr j) e =
    absurd (let head : z.id ≡ p.0 = cc in let tail : map (λ (x : Space). x.id) zs ≡ map (λ p. p.0) ps = cc in let up = above p.0 ps zs tail rise.0 y j in let own = ap (λ (w : Space). w.id) a in omega (arith, head, up, own, e))
one-each (p ∷ ps) (z ∷ zs) same rise x y (inr i) (inl b) e =
    absurd (let head : z.id ≡ p.0 = cc in let tail : map (λ (x : Space). x.id) zs ≡ map (λ p. p.0) ps = cc in let up = above p.0 ps zs tail rise.0 x i in let own = ap (λ (w : Space). w.id) b in omega (arith, head, up, own, e))
one-each (p ∷ ps) (z ∷ zs) same rise x y (inr i) (inr j) e = one-each ps zs (let tail : map (λ (x : Space). x.id) zs ≡ map (λ p. p.0) ps = cc in tail) rise.1 x y i j e

map_map : {X Y Z : Type 0} (f : X → Y) (g : Y → Z) (xs : List X) → map g (map f xs) ≡ map (λ x. g (f x)) xs
map_map f g [] = refl
map_map f g (x ∷ xs) = ap (λ l. g (f x) ∷ l) (map_map f g xs)

-- the ids of a text's namespaces, as they are in the store
pub ids-listed : (b : Numbering) (h : Space → Space) (spaces : List Space) → ((x : Space) → (h x).id ≡ x.id) → map steady (spaces_of b) ≡ map h spaces → map (λ (x : Space). x.id) spaces ≡ map (λ p. p.0) b.order
ids-listed b h spaces keeps listed =
    same spaces ∙ sym (map_map h (λ (x : Space). x.id) spaces) ∙ ap (map (λ (x : Space). x.id)) (sym listed) ∙ map_map steady (λ (x : Space). x.id) (spaces_of b) ∙ map_map (space_of b) (λ (x : Space). x.id) b.order
  where
    same : (xs : List Space) → map (λ (x : Space). x.id) xs ≡ map (λ x. (h x).id) xs
    same [] = refl
    same (x ∷ xs) = ap (λ i. i ∷ map (λ (x : Space). x.id) xs) (sym (keeps x)) ∙ ap (λ l. (h x).id ∷ l) (same xs)

-- namespaces that are the same but for their cursors
pub steady-same : (b c : Numbering) → KeepsSpaces b c → map steady (spaces_of c) ≡ map steady (spaces_of b)
steady-same b c k =
    map_map (space_of c) steady c.order ∙ ap (map (λ p. steady (space_of c p))) k.order ∙ each b.order ∙ sym (map_map (space_of b) steady b.order)
  where
    up : (path : List ℕ) → option_and_then (id_at c) (slice_get path 1) ≡ option_and_then (id_at b) (slice_get path 1)
    up [] = refl
    up (q ∷ []) = refl
    up (q ∷ r ∷ rest) = same_ids b c k r

    each : (ps : List (ℕ × ℕ)) → map (λ p. steady (space_of c p)) ps ≡ map (λ p. steady (space_of b p)) ps
    each [] = refl
    each (p ∷ ps) =
        let parent = ap (λ l. option_and_then (id_at c) (slice_get l 1)) (same_paths b c k p.1) ∙ up (path_at b p.1) in
        let fallen = same_falls b c k p.1 in
        λ i. record { id = p.0; parent = parent i; cursor = 0; fallen = fallen i } ∷ each ps i

all_in : (P : ℕ × ℕ → Type 0) (ps : List (ℕ × ℕ)) → AllByRecursion P ps → (p : ℕ × ℕ) → IsIn p ps → P p
all_in P [] all p i = absurd i
all_in P (q ∷ qs) all p (inl e) = subst P (sym e) all.0
all_in P (q ∷ qs) all p (inr i) = all_in P qs all.1 p i

-- the namespaces with a flag fell
module _ (b c : Numbering) (l : HasLaws b) (spaces : List Space) (flags : List Bool) (listed : map steady (spaces_of b) ≡ map undrawn spaces) (flagged : AreFlagged b spaces (length spaces) flags)
    (order : c.order ≡ b.order) (fell : (s : ℕ) → namespace_at c s ≡ option_map (fallen_if (is_flagged flags s)) (namespace_at b s)) where
  pub fell-ids : (s : ℕ) → id_at c s ≡ id_at b s
  fell-ids s = ap (option_map (λ (t : Namespace). t.id)) (fell s) ∙ of (namespace_at b s)
    where
      of : (o : Option Namespace) → option_map (λ (t : Namespace). t.id) (option_map (fallen_if (is_flagged flags s)) o) ≡ option_map (λ (t : Namespace). t.id) o
      of None = refl
      of (Some t) = refl

  pub fell-paths : (s : ℕ) → path_at c s ≡ path_at b s
  fell-paths s = ap (λ o. option_map_or (λ (t : Namespace). t.path) o []) (fell s) ∙ of (namespace_at b s)
    where
      of : (o : Option Namespace) → option_map_or (λ (t : Namespace). t.path) (option_map (fallen_if (is_flagged flags s)) o) [] ≡ option_map_or (λ (t : Namespace). t.path) o []
      of None = refl
      of (Some t) = refl

  -- a namespace that stood has fallen now exactly if it has a flag
  falls : (s i : ℕ) → id_at b s ≡ Some i → has_fallen_at b s ≡ false → has_fallen_at c s ≡ is_flagged flags s
  falls s i there stood = ap (λ o. option_map_or (λ (t : Namespace). t.fallen) o false) (fell s) ∙ of (namespace_at b s) there stood
    where
      of : (o : Option Namespace) → option_map (λ (t : Namespace). t.id) o ≡ Some i → option_map_or (λ (t : Namespace). t.fallen) o false ≡ false
          → option_map_or (λ (t : Namespace). t.fallen) (option_map (fallen_if (is_flagged flags s)) o) false ≡ is_flagged flags s
      of None there stood = absurd (cc)
      of (Some t) there stood = ap (λ f. f || is_flagged flags s) stood

  says : (x : Space) → IsIn x spaces → (s : ℕ) → id_at b s ≡ Some x.id → is_flagged flags s ≡ x.fallen
  says x i s at = go x.fallen refl (is_flagged flags s) refl
    where
      go : (f : Bool) → x.fallen ≡ f → (g : Bool) → is_flagged flags s ≡ g → g ≡ f
      go true e true is = refl
      go false e false is = refl
      go true e false is =
          let j = place_of spaces x i in
          let k = flagged.each j.0 x j.2 j.1 in
          let same : k.0 ≡ s = l.ids k.0 s x.id k.1 at in
          absurd (let z = sym (k.2 e) ∙ ap (is_flagged flags) same ∙ is in cc)
      go false e true is =
          let j = flagged.only s is in
          let id : j.1.id ≡ x.id = (let z = sym j.4 ∙ at in let y : j.1.id ≡ x.id = cc in y) in
          let one : j.1 ≡ x = one-each b.order spaces (ids-listed b undrawn spaces (λ x. refl) listed) l.rising j.1 x (at_place spaces j.0 j.1 j.2) i id in
          absurd (let z = sym j.3 ∙ ap (λ (y : Space). y.fallen) one ∙ e in cc)

  pub spaces-fell : map steady (spaces_of c) ≡ map steady spaces
  spaces-fell =
      map_map (space_of c) steady c.order ∙ ap (map (λ p. steady (space_of c p))) order
      ∙ alike (λ p. steady (space_of b p)) (λ p. steady (space_of c p)) undrawn steady b.order spaces (sym (map_map (space_of b) steady b.order) ∙ listed) (λ p x i j same. one p x i j same)
    where
      up : (path : List ℕ) → option_and_then (id_at c) (slice_get path 1) ≡ option_and_then (id_at b) (slice_get path 1)
      up [] = refl
      up (q ∷ []) = refl
      up (q ∷ r ∷ rest) = fell-ids r

      one : (p : ℕ × ℕ) (x : Space) → IsIn p b.order → IsIn x spaces → steady (space_of b p) ≡ undrawn x → steady (space_of c p) ≡ steady x
      one p x i j same =
          let at = all_in (λ p. id_at b p.1 ≡ Some p.0) b.order l.each p i in
          let id : p.0 ≡ x.id = ap (λ (y : Space). y.id) same in
          let parent = ap (λ q. option_and_then (id_at c) (slice_get q 1)) (fell-paths p.1) ∙ up (path_at b p.1) ∙ ap (λ (y : Space). y.parent) same in
          let fallen = falls p.1 p.0 at (ap (λ (y : Space). y.fallen) same) ∙ says x j p.1 (at ∙ ap Some id) in
          λ k. record { id = id k; parent = parent k; cursor = 0; fallen = fallen k }

-- the cursors are put
pub spaces-are : (b : Numbering) → HasLaws b → (spaces : List Space) → map steady (spaces_of b) ≡ map steady spaces → ((x : Space) → IsIn x spaces → HasCursor b x) → spaces_of b ≡ spaces
spaces-are b l spaces listed cursors =
    alike (λ p. steady (space_of b p)) (space_of b) steady (λ x. x) b.order spaces (sym (map_map (space_of b) steady b.order) ∙ listed) one ∙ same spaces
  where
    same : (xs : List Space) → map (λ x. x) xs ≡ xs
    same [] = refl
    same (x ∷ xs) = ap (λ l. x ∷ l) (same xs)

    one : (p : ℕ × ℕ) (x : Space) → IsIn p b.order → IsIn x spaces → steady (space_of b p) ≡ steady x → space_of b p ≡ x
    one p x i j e =
        let at = all_in (λ p. id_at b p.1 ≡ Some p.0) b.order l.each p i in
        let id : p.0 ≡ x.id = ap (λ (y : Space). y.id) e in
        let cursor : option_map_or (λ (t : Namespace). t.cursor) (namespace_at b p.1) 0 ≡ x.cursor = of (namespace_at b p.1) (cursors x j p.1 (at ∙ ap Some id)) in
        λ k. record { id = id k; parent = (e k).parent; cursor = cursor k; fallen = (e k).fallen }
      where
        of : (o : Option Namespace) → option_map (λ (t : Namespace). t.cursor) o ≡ Some x.cursor → option_map_or (λ (t : Namespace). t.cursor) o 0 ≡ x.cursor
        of None e = absurd (cc)
        of (Some t) e = (let z : t.cursor ≡ x.cursor = cc in z)

-- one flag more
pub flag-next : (b : Numbering) (spaces : List Space) (i : ℕ) (old new : List Bool) (x : Space) → AreFlagged b spaces i old → slice_get spaces i ≡ Some x → AddsFlag b old new x → AreFlagged b spaces (i + 1) new
flag-next b spaces i old new x a at f = record {
  each = λ j y lt e. elim (cases_eq j i) [
    | inl same ↦
        let own : x ≡ y = (let z = sym at ∙ ap (slice_get spaces) (sym same) ∙ e in let w : x ≡ y = cc in w) in
        (f.there.0, f.there.1 ∙ ap (λ (z : Space). Some z.id) own, λ fallen. f.there.2 (ap (λ (z : Space). z.fallen) own ∙ fallen))
    | inr not ↦ let s = a.each j y (omega (arith, lt, not)) e in (s.0, s.1, λ fallen. f.kept s.0 (s.2 fallen))
  ];
  only = λ s is. elim (f.only s is) [
    | inl before ↦ a.only s before
    | inr here ↦ (i, x, at, here.1, here.0)
  ];
}

pub flag-fewer : (b : Numbering) (spaces : List Space) (i fewer : ℕ) (flags : List Bool) → AreFlagged b spaces i flags → fewer ≤ i → AreFlagged b spaces fewer flags
flag-fewer b spaces i fewer flags a less = record { each = λ j y lt e. a.each j y (omega (arith, lt, less)) e; only = a.only }

pub flag-none : (b : Numbering) (spaces : List Space) (flags : List Bool) → flags ≡ [] → AreFlagged b spaces 0 flags
flag-none b spaces flags none = record {
  each = λ j y lt e. absurd (omega (arith, lt));
  only = λ s is. absurd (let z : false ≡ true = ap (λ (l : List Bool). is_flagged l s) (sym none) ∙ is in cc);
}

-- the cursors of one namespace more were put
pub next-cursor : (a : Numbering) → HasLaws a → (b c : Numbering) (spaces : List Space) (i : ℕ) (x : Space) → map steady (spaces_of a) ≡ map steady spaces
    → ((j : ℕ) (y : Space) → j < i → slice_get spaces j ≡ Some y → HasCursor b y) → slice_get spaces i ≡ Some x → HasCursor c x → ((y : Space) → (y.id ≡ x.id → ⊥) → HasCursor b y → HasCursor c y)
    → (j : ℕ) (y : Space) → j < i + 1 → slice_get spaces j ≡ Some y → HasCursor c y
next-cursor a l b c spaces i x listed put at here others j y lt e = elim (cases_eq y.id x.id) [
  | inl same ↦
      let one : x ≡ y = one-each a.order spaces (ids-listed a steady spaces (λ z. refl) listed) l.rising x y (at_place spaces i x at) (at_place spaces j y e) (sym same) in
      subst (HasCursor c) one here
  | inr not ↦
      let differs : j ≢ i = (λ same. not (let z = sym at ∙ ap (slice_get spaces) (sym same) ∙ e in let w : x ≡ y = cc in ap (λ (z : Space). z.id) (sym w))) in
      others y not (put j y (omega (arith, lt, differs)) e)
]

-- a namespace that nothing was drawn in is steady
pub steady-bare : (spaces : List Space) → map steady (map undrawn spaces) ≡ map undrawn spaces
steady-bare [] = refl
steady-bare (x ∷ xs) = ap (λ l. undrawn x ∷ l) (steady-bare xs)
