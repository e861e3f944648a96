-- A draw that begins at a free number gives that number.
use Rattle.std.proofs.Common.{◌≡◌, ◌≢◌, inl, inr, ℕ, zero, suc, ◌+◌, ◌<◌, ◌≤◌, nat_lt, Bool, true, false, List, [], ◌∷◌, length, map, find, drop, max, is_none, unwrap_or, option_and_then, if◌then◌else◌, slice_get, Option, Some, None, IsSome, is_some, ◌==◌, refl, sym, ap, ◌∙◌, arith, option_map, length-drop}
use Rattle.std.specs.Prelude.{slice_index_or, filter_map, reverse}
use Rattle.std.proofs.lemmas.Bool.{cases_eq, eq-eqb}
use Rattle.pid_types.proofs.General.{apart, held}
use Rattle.pid_types.specs.Bounds.{reserved_numbers}
use Rattle.pid_types.specs.Chains.{contains, first_absent}
use Rattle.pid_types.specs.Draw.{cyclic_draw, least_free, restart}
use Rattle.pid_numbers.specs.Numbering.{Numbering, Namespace, namespace_at, path_at, cursor_put, draw_in, number_in, taken_in}
use Rattle.task_table.specs.Lawful.{HasLaws}
use Rattle.table_build.specs.Bare.{HasCursors}
use Rattle.table_build.specs.Follows.{MayBear}
use Rattle.pid_types.specs.declared.plain.Name.{Name}
use Rattle.std.proofs.lemmas.List.{length-reverse}

here_first : (ns : List ℕ) (most n : ℕ) → contains ns n ≡ false → first_absent ns most n ≡ n
here_first ns zero n free = refl
here_first ns (suc most) n free = ap (λ (b : Bool). elim b [ true ↦ first_absent ns most (n + 1) | false ↦ n ]) free

restart_low : (n : ℕ) → 0 < n → restart n ≤ n
restart_low n some = go (nat_lt reserved_numbers n) refl
  where
    go : (b : Bool) → nat_lt reserved_numbers n ≡ b → (if b then reserved_numbers else 1) ≤ n
    go true e = grind (arith, e)
    go false e = omega (arith, some)

pub draws-it : (pid_max n : ℕ) (taken : List ℕ) → 0 < n → n < pid_max → contains taken n ≡ false → cyclic_draw pid_max n taken ≡ Some n
unfolding cyclic_draw least_free
draws-it pid_max n taken some low free =
    let top : max n (restart n) ≡ n = (let r = restart_low n some in omega (arith, r)) in
    let upper : first_absent taken (length taken) (max n (restart n)) ≡ n = ap (first_absent taken (length taken)) top ∙ here_first taken (length taken) n free in
    ap (λ u. if nat_lt u pid_max then Some u else (if nat_lt (first_absent taken (length taken) (restart n)) pid_max then Some (first_absent taken (length taken) (restart n)) else None)) upper
    ∙ ap (λ (b : Bool). if b then Some n else (if nat_lt (first_absent taken (length taken) (restart n)) pid_max then Some (first_absent taken (length taken) (restart n)) else None)) (let z : nat_lt n pid_max ≡ true = grind (arith, low) in z)

pub got : (xs : List ℕ) (j x : ℕ) → slice_get xs j ≡ Some x → (slice_index_or xs j 0 ≡ x) × (j < length xs)
got [] j x e = absurd (cc)
got (y ∷ ys) zero x e = ((let z : y ≡ x = cc in z), omega arith)
got (y ∷ ys) (suc j) x e = let r = got ys j x e in (r.0, let lt = r.1 in omega (arith, lt))

-- the keys of a path are one each
pub path-apart : (b : Numbering) → HasLaws b → (s i j x y : ℕ) → slice_get (path_at b s) i ≡ Some x → slice_get (path_at b s) j ≡ Some y → i < j → x ≢ y
path-apart b l s i j x y at_i at_j less same =
    let p = got (path_at b s) i x at_i in
    let q = got (path_at b s) j y at_j in
    let long = ap length (sym (ap (path_at b) p.0) ∙ l.around s i p.1) in
    let short = ap length (sym (ap (path_at b) q.0) ∙ l.around s j q.1) in
    let lens_i = length-drop i (path_at b s) in
    let lens_j = length-drop j (path_at b s) in
    let equal = ap (λ k. length (path_at b k)) same in
    let lt = q.1 in
    omega (arith, long, short, lens_i, lens_j, equal, less, lt)

-- the next key of a path
pub next-of : (b : Numbering) → HasLaws b → (s i key : ℕ) → slice_get (path_at b s) i ≡ Some key
    → (if nat_lt 1 (length (path_at b key)) then Some (slice_index_or (path_at b key) 1 0) else None) ≡ slice_get (path_at b s) (i + 1)
next-of b l s i key at =
    let p = got (path_at b s) i key at in
    let rest : path_at b key ≡ drop i (path_at b s) = sym (ap (path_at b) p.0) ∙ l.around s i p.1 in
    ap (λ (ps : List ℕ). if nat_lt 1 (length ps) then Some (slice_index_or ps 1 0) else None) rest ∙ along (path_at b s) i p.1
    ∙ ap (slice_get (path_at b s)) (let z : suc i ≡ i + 1 = omega arith in z)
  where
    along : (xs : List ℕ) (i : ℕ) → i < length xs → (if nat_lt 1 (length (drop i xs)) then Some (slice_index_or (drop i xs) 1 0) else None) ≡ slice_get xs (suc i)
    along [] i lt = absurd (omega (arith, lt))
    along (x ∷ []) zero lt = refl
    along (x ∷ y ∷ ys) zero lt = ap (λ (b : Bool). if b then Some y else None) (let z : nat_lt 1 (length (x ∷ y ∷ ys)) ≡ true = grind (arith) in z)
    along (x ∷ xs) (suc i) lt = along xs i (omega (arith, lt))

pub path-first : (b : Numbering) → HasLaws b → (s : ℕ) → IsSome (namespace_at b s) → slice_get (path_at b s) 0 ≡ Some s
path-first b l s there =
    let t = held (namespace_at b s) there in
    go (path_at b s) refl (l.some s t.0.id (ap (option_map (λ (t : Namespace). t.id)) t.1))
  where
    go : (p : List ℕ) → path_at b s ≡ p → 0 < length p → slice_get p 0 ≡ Some s
    go [] is some = absurd (omega (arith, some))
    go (q ∷ qs) is some = ap Some (ap (λ l. slice_index_or l 0 0) (sym is) ∙ l.own s (let z = ap length is in omega (arith, z, some)))

pub none-past : (xs : List ℕ) (i j x : ℕ) → slice_get xs i ≡ None → slice_get xs j ≡ Some x → j < i
none-past [] i j x none e = absurd (cc)
none-past (y ∷ ys) zero j x none e = absurd (cc)
none-past (y ∷ ys) (suc i) zero x none e = omega arith
none-past (y ∷ ys) (suc i) (suc j) x none e = let lt = none-past ys i j x none e in omega (arith, lt)

-- the cursor of one more namespace of a path was put
pub cursors-next : (b c : Numbering) (path numbers : List ℕ) (i key number : ℕ) → HasCursors b path numbers i → slice_get path i ≡ Some key → slice_get numbers i ≡ Some number
    → ((j k x y : ℕ) → slice_get path j ≡ Some x → slice_get path k ≡ Some y → j < k → x ≢ y) → IsSome (namespace_at b key)
    → ((s : ℕ) → namespace_at c s ≡ option_map (cursor_put key number s) (namespace_at b s)) → HasCursors c path numbers (i + 1)
cursors-next b c path numbers i key number had at here apart_keys there put j s n lt on is = elim (cases_eq j i) [
  | inl same ↦
      let own : s ≡ key = (let z = sym on ∙ ap (slice_get path) same ∙ at in let w : s ≡ key = cc in w) in
      let given : number ≡ n = (let z = sym here ∙ sym (ap (slice_get numbers) same) ∙ is in let w : number ≡ n = cc in w) in
      let t = held (namespace_at b key) there in
      ap (option_map (λ (t : Namespace). t.cursor)) (put s)
      ∙ ap (λ o. option_map (λ (t : Namespace). t.cursor) (option_map (cursor_put key number s) o)) (ap (namespace_at b) own ∙ t.1)
      ∙ ap (λ (e : Bool). Some (if e then number else t.0.cursor)) (eq-eqb s key own) ∙ ap Some given
  | inr not ↦
      let before = had j s n (omega (arith, lt, not)) on is in
      let differs : s ≢ key = apart_keys j i s key on at (omega (arith, lt, not)) in
      ap (option_map (λ (t : Namespace). t.cursor)) (put s) ∙ kept (namespace_at b s) (apart s key differs) ∙ before
]
  where
    kept : (o : Option Namespace) → (s == key) ≡ false → option_map (λ (t : Namespace). t.cursor) (option_map (cursor_put key number s) o) ≡ option_map (λ (t : Namespace). t.cursor) o
    kept None e = refl
    kept (Some t) e = ap (λ (b : Bool). Some (if b then number else t.cursor)) e

pub still-there : (o : Option Namespace) → is_some (option_map (λ (t : Namespace). t.id) o) ≡ true → IsSome o
still-there None e = absurd (cc)
still-there (Some t) e = refl

-- what is drawn along a path
pub draws-all : (draw : ℕ → Option ℕ) (path numbers : List ℕ) → length numbers ≡ length path → ((j s n : ℕ) → slice_get path j ≡ Some s → slice_get numbers j ≡ Some n → draw s ≡ Some n)
    → (find (λ s. is_none (draw s)) path ≡ None) × (map (λ s. unwrap_or (draw s) 0) path ≡ numbers)
draws-all draw [] [] long each = (refl, refl)
draws-all draw [] (n ∷ ns) long each = absurd (omega (arith, long))
draws-all draw (s ∷ ss) [] long each = absurd (omega (arith, long))
draws-all draw (s ∷ ss) (n ∷ ns) long each =
    let here = each 0 s n refl refl in
    let rest = draws-all draw ss ns (omega (arith, long)) (λ j t m on is. each (suc j) t m on is) in (
      ap (λ (o : Option ℕ). if is_none o then Some s else find (λ s. is_none (draw s)) ss) here ∙ rest.0,
      ap (λ (o : Option ℕ). unwrap_or o 0 ∷ map (λ s. unwrap_or (draw s) 0) ss) here ∙ ap (λ ms. n ∷ ms) rest.1,
    )

-- a namespace draws the number that its cursor is at
pub draw-at : (a b : Numbering) (s n : ℕ) → a.names ≡ b.names → ((p : ℕ) → path_at a p ≡ path_at b p) → a.pid_max ≡ b.pid_max → option_map (λ (t : Namespace). t.cursor) (namespace_at a s) ≡ Some n
    → 0 < n → n < b.pid_max → contains (taken_in b s) n ≡ false → draw_in a s ≡ Some n
unfolding taken_in
draw-at a b s n names paths bound cursor some low free = go (namespace_at a s) refl cursor
  where
    taken : taken_in a s ≡ taken_in b s
    taken i = filter_map (number_in (λ p. paths p i) s) (names i)

    go : (o : Option Namespace) → namespace_at a s ≡ o → option_map (λ (t : Namespace). t.cursor) o ≡ Some n → draw_in a s ≡ Some n
    go None is e = absurd (cc)
    go (Some t) is e =
        let at : t.cursor ≡ n = cc in
        ap (option_and_then (λ t. cyclic_draw a.pid_max t.cursor (taken_in a s))) is
        ∙ ap (λ m. cyclic_draw a.pid_max m (taken_in a s)) at
        ∙ draws-it a.pid_max n (taken_in a s) some (omega (arith, low, bound)) (ap (λ l. contains l n) taken ∙ free)

-- a name that may be borne is drawn from cursors at its numbers
pub drawn-name : (a b : Numbering) (name : Name) (may : MayBear a name) (space : ℕ) → may.space ≡ space → (wanted : List ℕ) → wanted ≡ reverse name.numbers.items
    → b.names ≡ a.names → ((p : ℕ) → path_at b p ≡ path_at a p) → b.pid_max ≡ a.pid_max → HasCursors b (path_at a space) wanted (length wanted)
    → (find (λ s. is_none (draw_in b s)) (path_at a space) ≡ None) × (map (λ s. unwrap_or (draw_in b s) 0) (path_at a space) ≡ wanted)
drawn-name a b name may space same wanted is names paths bound put =
    draws-all (draw_in b) (path_at a space) wanted long (λ j s n on at.
    let free = may.free j s n (ap (λ p. slice_get (path_at a p) j) same ∙ on) (ap (λ l. slice_get l j) (sym is) ∙ at) in
    draw-at b a s n names paths bound (put j s n (got wanted j n at).1 on at) free.0 free.1 free.2)
  where
    long : length wanted ≡ length (path_at a space)
    long = ap length is ∙ length-reverse name.numbers.items ∙ may.long ∙ ap (λ p. length (path_at a p)) same
