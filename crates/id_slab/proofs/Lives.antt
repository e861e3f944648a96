-- What entries that rise come to: a look-up, a removal, the marks that are dropped.
use Rattle.std.proofs.Common.{◌≡◌, ◌≢◌, ◌⊎◌, inl, inr, ℕ, zero, suc, ◌-◌, ◌<◌, ◌≤◌, ◌==◌, List, [], ◌∷◌, ◌++◌, length, get_or, set, cond, Bool, true, false, if◌then◌else◌, Option, Some, None, IsSome, is_some, slice_get, option_to_list, append-nil, refl, sym, ap, ◌∙◌, arith}
use Rattle.std.specs.List.{AllByRecursion, filter}
use Rattle.std.proofs.lemmas.Bool.{cases_eq, eq-eqb, eqb-true, ne_eqb}
use Rattle.std.proofs.lemmas.List.{length-append, get_or_default}
use Rattle.id_slab.specs.declared.Entry.{Entry}
use Rattle.id_slab.specs.Ids.{key_of, without, AreBelow, AreRising}
use Rattle.id_slab.specs.Entries.{put_before, live, Rise, EndsLive}

-- the entry of a place past all
abbrev pub none : Entry
none = record { id = 0; key = None }

weaken : {X : Type 0} (P Q : X → Type 0) → ((x : X) → P x → Q x) → (xs : List X) → AllByRecursion P xs → AllByRecursion Q xs
weaken P Q f [] all = tt
weaken P Q f (x ∷ xs) all = (f x all.0, weaken P Q f xs all.1)

-- one id before others
key-other : (e id : ℕ) (key : Option ℕ) (rest : List (ℕ × ℕ)) → e ≢ id → key_of (put_before e key rest) id ≡ key_of rest id
key-other e id None rest differs = refl
key-other e id (Some k) rest differs = go (e == id) refl
  where
    go : (b : Bool) → (e == id) ≡ b → (if b then Some k else key_of rest id) ≡ key_of rest id
    go true is = absurd (differs (grind (arith, is)))
    go false is = refl

key-same : (e id : ℕ) (key : Option ℕ) (rest : List (ℕ × ℕ)) → e ≡ id → key_of rest id ≡ None → key_of (put_before e key rest) id ≡ key
key-same e id None rest same gone = gone
key-same e id (Some k) rest same gone = rw (eq-eqb e id same) refl

without-other : (e id : ℕ) (key : Option ℕ) (rest : List (ℕ × ℕ)) → e ≢ id → without (put_before e key rest) id ≡ put_before e key (without rest id)
without-other e id None rest differs = refl
without-other e id (Some k) rest differs = rw (ne_eqb e id differs) refl

without-same : (e id : ℕ) (key : Option ℕ) (rest : List (ℕ × ℕ)) → e ≡ id → without (put_before e key rest) id ≡ without rest id
without-same e id None rest same = refl
without-same e id (Some k) rest same = rw (eq-eqb e id same) refl

-- an id that no entry has
pub key-absent : (id : ℕ) (es : List Entry) → AllByRecursion (λ f. f.id ≢ id) es → key_of (live es) id ≡ None
key-absent id [] all = refl
key-absent id (e ∷ es) all = key-other e.id id e.key (live es) all.0 ∙ key-absent id es all.1

pub without-absent : (id : ℕ) (es : List Entry) → AllByRecursion (λ f. f.id ≢ id) es → without (live es) id ≡ live es
without-absent id [] all = refl
without-absent id (e ∷ es) all = without-other e.id id e.key (live es) all.0 ∙ ap (λ rest. put_before e.id e.key rest) (without-absent id es all.1)

pub absent : (id : ℕ) (es : List Entry) → ((k : ℕ) → k < length es → (get_or es k none).id ≢ id) → AllByRecursion (λ f. f.id ≢ id) es
absent id [] at = tt
absent id (e ∷ es) at = (at 0 (omega arith), absent id es (λ k lt. at (suc k) (omega (arith, lt))))

higher : (id : ℕ) (es : List Entry) → AllByRecursion (λ f. id < f.id) es → AllByRecursion (λ f. f.id ≢ id) es
higher id es all = weaken (λ (f : Entry). id < f.id) (λ (f : Entry). f.id ≢ id) (λ f lt e. omega (arith, lt, e)) es all

all_at : (P : Entry → Type 0) (es : List Entry) (i : ℕ) → AllByRecursion P es → i < length es → P (get_or es i none)
all_at P [] i all lt = absurd (omega (arith, lt))
all_at P (e ∷ es) zero all lt = all.0
all_at P (e ∷ es) (suc i) all lt = all_at P es i all.1 (omega (arith, lt))

-- the entry of an id
pub key-place : (id : ℕ) (es : List Entry) (i : ℕ) → Rise es → i < length es → (get_or es i none).id ≡ id → key_of (live es) id ≡ (get_or es i none).key
key-place id [] i w lt same = absurd (omega (arith, lt))
key-place id (e ∷ es) zero w lt same = key-same e.id id e.key (live es) same (key-absent id es (higher id es (rw same at w.0)))
key-place id (e ∷ es) (suc i) w lt same =
    let lt' : i < length es = omega (arith, lt) in
    let less = all_at (λ f. e.id < f.id) es i w.0 lt' in
    key-other e.id id e.key (live es) (λ z. omega (arith, z, same, less)) ∙ key-place id es i w.1 lt' same

pub without-place : (id : ℕ) (es : List Entry) (i : ℕ) → Rise es → i < length es → (get_or es i none).id ≡ id → (x : ℕ) → live (set es i (record { id = x; key = None })) ≡ without (live es) id
without-place id [] i w lt same x = absurd (omega (arith, lt))
without-place id (e ∷ es) zero w lt same x = sym (without-same e.id id e.key (live es) same ∙ without-absent id es (higher id es (rw same at w.0)))
without-place id (e ∷ es) (suc i) w lt same x =
    let lt' : i < length es = omega (arith, lt) in
    let less = all_at (λ f. e.id < f.id) es i w.0 lt' in
    ap (λ rest. put_before e.id e.key rest) (without-place id es i w.1 lt' same x) ∙ sym (without-other e.id id e.key (live es) (λ z. omega (arith, z, same, less)))

all_set : (P : Entry → Type 0) (es : List Entry) (i : ℕ) (f : Entry) → AllByRecursion P es → P f → AllByRecursion P (set es i f)
all_set P [] i f all p = tt
all_set P (e ∷ es) zero f all p = (p, all.1)
all_set P (e ∷ es) (suc i) f all p = (all.0, all_set P es i f all.1 p)

pub Rise-set : (es : List Entry) (i : ℕ) (f : Entry) → Rise es → i < length es → f.id ≡ (get_or es i none).id → Rise (set es i f)
Rise-set [] i f w lt same = tt
Rise-set (e ∷ es) zero f w lt same = (rw same w.0, w.1)
Rise-set (e ∷ es) (suc i) f w lt same =
    let lt' : i < length es = omega (arith, lt) in
    (all_set (λ g. e.id < g.id) es i f w.0 (rw same (all_at (λ g. e.id < g.id) es i w.0 lt')), Rise-set es i f w.1 lt' same)

-- entries rise by their places
pub rise_lt : (es : List Entry) → Rise es → (i j : ℕ) → i < j → j < length es → (get_or es i none).id < (get_or es j none).id
rise_lt [] w i j less lt = absurd (omega (arith, lt))
rise_lt (e ∷ es) w i zero less lt = absurd (omega (arith, less))
rise_lt (e ∷ es) w zero (suc j) less lt = all_at (λ f. e.id < f.id) es j w.0 (omega (arith, lt))
rise_lt (e ∷ es) w (suc i) (suc j) less lt = rise_lt es w.1 i j (omega (arith, less)) (omega (arith, lt))

pub rise_le : (es : List Entry) → Rise es → (i j : ℕ) → i ≤ j → j < length es → (get_or es i none).id ≤ (get_or es j none).id
rise_le es w i j le lt = elim (cases_eq i j) [
  | inl same ↦ rw same (omega arith)
  | inr differs ↦ let less = rise_lt es w i j (omega (arith, le, differs)) lt in omega (arith, less)
]

-- entries that have a key
abbrev pub has_key : Entry → Bool
has_key e = is_some e.key

all_kept : (P : Entry → Type 0) (es : List Entry) → AllByRecursion P es → AllByRecursion P (filter has_key es)
all_kept P [] all = tt
all_kept P (e ∷ es) all = go (all_kept P es all.1) (has_key e)
  where
    go : AllByRecursion P (filter has_key es) → (b : Bool) → AllByRecursion P (cond b (e ∷ filter has_key es) (filter has_key es))
    go rest true = (all.0, rest)
    go rest false = rest

pub Rise-kept : (es : List Entry) → Rise es → Rise (filter has_key es)
Rise-kept [] w = tt
Rise-kept (e ∷ es) w = go (all_kept (λ f. e.id < f.id) es w.0) (Rise-kept es w.1) (has_key e)
  where
    go : AllByRecursion (λ f. e.id < f.id) (filter has_key es) → Rise (filter has_key es) → (b : Bool) → Rise (cond b (e ∷ filter has_key es) (filter has_key es))
    go above rest true = (above, rest)
    go above rest false = rest

pub live-kept : (es : List Entry) → live (filter has_key es) ≡ live es
live-kept [] = refl
live-kept (e ∷ es) = go e.key refl (live-kept es)
  where
    go : (key : Option ℕ) → e.key ≡ key → live (filter has_key es) ≡ live es → live (cond (is_some e.key) (e ∷ filter has_key es) (filter has_key es)) ≡ put_before e.id e.key (live es)
    go None is rest = rw is rest
    go (Some k) is rest = rw is (ap (λ ids. (e.id, k) ∷ ids) rest)

-- a mark behind all others
pub live-mark : (es : List Entry) (f : Entry) → f.key ≡ None → live (es ++ f ∷ []) ≡ live es
live-mark [] f gone = rw gone refl
live-mark (e ∷ es) f gone = ap (λ rest. put_before e.id e.key rest) (live-mark es f gone)

all_front : (P : Entry → Type 0) (es : List Entry) (f : Entry) → AllByRecursion P (es ++ f ∷ []) → AllByRecursion P es
all_front P [] f all = tt
all_front P (e ∷ es) f all = (all.0, all_front P es f all.1)

pub Rise-front : (es : List Entry) (f : Entry) → Rise (es ++ f ∷ []) → Rise es
Rise-front [] f w = tt
Rise-front (e ∷ es) f w = (all_front (λ g. e.id < g.id) es f w.0, Rise-front es f w.1)

-- the last entry has a key
pub EndsLive-last : (es : List Entry) (f : Entry) → IsSome f.key → EndsLive (es ++ f ∷ [])
EndsLive-last [] f some = some
EndsLive-last (e ∷ []) f some = some
EndsLive-last (e ∷ g ∷ es) f some = EndsLive-last (g ∷ es) f some

-- an id above all that are there
below-rest : (id : ℕ) (key : Option ℕ) (rest : List (ℕ × ℕ)) (b : ℕ) → AreBelow (put_before id key rest) b → AreBelow rest b
below-rest id None rest b all = all
below-rest id (Some k) rest b all = all.1

below-one : (id : ℕ) (key : Option ℕ) (b : ℕ) → IsSome key → AreBelow (put_before id key []) b → id < b
below-one id None b some all = absurd (none_some some)
  where
    key_none : Option ℕ
    key_none = None

    none_some : IsSome key_none → ⊥
    none_some z = grind arith
below-one id (Some k) b some all = all.0

pub all-below : (es : List Entry) (b : ℕ) → Rise es → EndsLive es → AreBelow (live es) b → AllByRecursion (λ f. f.id < b) es
all-below [] b w ends below = tt
all-below (e ∷ []) b w ends below = (below-one e.id e.key b ends below, tt)
all-below (e ∷ f ∷ es) b w ends below =
    let rest = all-below (f ∷ es) b w.1 ends (below-rest e.id e.key (live (f ∷ es)) b below) in
    (omega (arith, w.0.0, rest.0), rest)

all_push : (P : Entry → Type 0) (es : List Entry) (f : Entry) → AllByRecursion P es → P f → AllByRecursion P (es ++ f ∷ [])
all_push P [] f all p = (p, tt)
all_push P (e ∷ es) f all p = (all.0, all_push P es f all.1 p)

pub Rise-push : (es : List Entry) (f : Entry) → Rise es → AllByRecursion (λ g. g.id < f.id) es → Rise (es ++ f ∷ [])
Rise-push [] f w below = (tt, tt)
Rise-push (e ∷ es) f w below = (all_push (λ g. e.id < g.id) es f w.0 below.0, Rise-push es f w.1 below.1)

before-append : (id : ℕ) (key : Option ℕ) (xs ys : List (ℕ × ℕ)) → put_before id key (xs ++ ys) ≡ put_before id key xs ++ ys
before-append id None xs ys = refl
before-append id (Some k) xs ys = refl

pub live-push : (es : List Entry) (id key : ℕ) → live (es ++ (record { id = id; key = Some key }) ∷ []) ≡ live es ++ (id, key) ∷ []
live-push [] id key = refl
live-push (e ∷ es) id key = ap (λ rest. put_before e.id e.key rest) (live-push es id key) ∙ before-append e.id e.key (live es) ((id, key) ∷ [])

-- the ids rise
rising-before : (id : ℕ) (key : Option ℕ) (rest : List (ℕ × ℕ)) → AllByRecursion (λ q. id < q.0) rest → AreRising rest → AreRising (put_before id key rest)
rising-before id None rest above w = w
rising-before id (Some k) rest above w = (above, w)

above-before : (b id : ℕ) (key : Option ℕ) (rest : List (ℕ × ℕ)) → b < id → AllByRecursion (λ q. b < q.0) rest → AllByRecursion (λ q. b < q.0) (put_before id key rest)
above-before b id None rest less all = all
above-before b id (Some k) rest less all = (less, all)

above-live : (b : ℕ) (es : List Entry) → AllByRecursion (λ f. b < f.id) es → AllByRecursion (λ q. b < q.0) (live es)
above-live b [] all = tt
above-live b (e ∷ es) all = above-before b e.id e.key (live es) all.0 (above-live b es all.1)

pub AreRising-live : (es : List Entry) → Rise es → AreRising (live es)
AreRising-live [] w = tt
AreRising-live (e ∷ es) w = rising-before e.id e.key (live es) (above-live e.id es w.0) (AreRising-live es w.1)

-- the entry behind all others
slice_get-last : (es : List Entry) (f : Entry) → slice_get (es ++ f ∷ []) (length es) ≡ Some f
slice_get-last [] f = refl
slice_get-last (e ∷ es) f = slice_get-last es f

pub EndsLive-at : (es : List Entry) (i : ℕ) (x : Entry) → suc i ≡ length es → slice_get es i ≡ Some x → IsSome x.key → EndsLive es
EndsLive-at [] i x len is some = tt
EndsLive-at (e ∷ []) zero x len is some = let same : e ≡ x = cc in rw same some
EndsLive-at (e ∷ []) (suc i) x len is some = cc
EndsLive-at (e ∷ f ∷ es) zero x len is some = absurd (omega (arith, len))
EndsLive-at (e ∷ f ∷ es) (suc i) x len is some = EndsLive-at (f ∷ es) i x (omega (arith, len)) is some

-- what a pop leaves, where the last entry is a mark
pub record Popped (old new : List Entry) : Type 0 where
  pub rise : Rise old → Rise new
  pub same : live new ≡ live old

pub popped : (old new : List Entry) (r : Option Entry) (x : Entry) → old ≡ new ++ option_to_list r → slice_get old (length old - 1) ≡ Some x → is_some x.key ≡ false → Popped old new
popped old new None x is last gone = let same : old ≡ new = is ∙ append-nil new in record { rise = λ w. rw same at w; same = ap live (sym same) }
popped old new (Some f) x is last gone =
    let len : length old - 1 ≡ length new = rw is (simp length-append (omega arith)) in
    let last' : slice_get (new ++ f ∷ []) (length new) ≡ Some x = rw (len, is) at last in
    let same : f ≡ x = some_same f x (sym (slice_get-last new f) ∙ last') in
    let mark : f.key ≡ None = no_key f.key (ap (λ (e : Entry). is_some e.key) same ∙ gone) in
    record { rise = λ w. Rise-front new f (rw is at w); same = sym (ap live is ∙ live-mark new f mark) }
  where
    some_same : (a b : Entry) → Some a ≡ Some b → a ≡ b
    some_same a b e = cc

    no_key : (key : Option ℕ) → is_some key ≡ false → key ≡ None
    no_key None e = refl
    no_key (Some k) e = cc

-- no place before i and none from i on has the id
pub missed : (es : List Entry) (i id : ℕ) → ((k : ℕ) (d : Entry) → k < i → (get_or es k d).id < id) → ((k : ℕ) (d : Entry) → i ≤ k → k < length es → id ≤ (get_or es k d).id)
    → Rise es → (i < length es → (get_or es i none).id ≢ id) → (k : ℕ) → k < length es → (get_or es k none).id ≢ id
missed es i id below above w here k lt same = elim (cases_eq k i) [
  | inl e ↦ here (rw e at lt) (rw e at same)
  | inr differs ↦ elim (order k i differs) [
    | inl less ↦ let b = below k none less in omega (arith, b, same)
    | inr more ↦
        let inside : i < length es = omega (arith, more, lt) in
        let a = above i none (omega arith) inside in
        let higher = rise_lt es w i k more lt in
        omega (arith, a, higher, same)
  ]
]
  where
    order : (a b : ℕ) → a ≢ b → (a < b) ⊎ (b < a)
    order a b differ = grind (arith, differ)

-- what an id's absence, or its place, says in the words of a contract
pub record At (es : List Entry) (id : ℕ) (key : Option ℕ) (left : List (ℕ × ℕ)) : Type 0 where
  pub key_is : key_of (live es) id ≡ key
  pub left_is : left ≡ without (live es) id

pub at_none : (es xs : List Entry) (id : ℕ) → xs ≡ es → ((k : ℕ) → k < length xs → (get_or xs k none).id ≢ id) → At es id None (live es)
at_none es xs id read at =
    let all = absent id es (rw read at at) in
    record { key_is = key-absent id es all; left_is = sym (without-absent id es all) }

pub at_place : (es xs : List Entry) (id i : ℕ) (f g : Entry) → Rise es → xs ≡ es → (i < length xs) × ((get_or xs i none).id ≡ id) → f ≡ get_or es i f → g ≡ get_or es i g
    → At es id f.key (live (set es i (record { id = g.id; key = None }))) × Rise (set es i (record { id = g.id; key = None }))
at_place es xs id i f g w read found ef eg =
    let here : (i < length es) × ((get_or es i none).id ≡ id) = rw read at found in
    let f_is : f ≡ get_or es i none = ef ∙ get_or_default es i f none here.0 in
    let g_is : g ≡ get_or es i none = eg ∙ get_or_default es i g none here.0 in (
      record {
        key_is = key-place id es i w here.0 here.1 ∙ ap (λ (e : Entry). e.key) (sym f_is);
        left_is = without-place id es i w here.0 here.1 g.id;
      },
      Rise-set es i (record { id = g.id; key = None }) w here.0 (ap (λ (e : Entry). e.id) g_is),
    )

pub key-at : (es xs : List Entry) (id i : ℕ) (f : Entry) → Rise es → xs ≡ es → (i < length xs) × ((get_or xs i none).id ≡ id) → f ≡ get_or es i f → key_of (live es) id ≡ f.key
key-at es xs id i f w read found ef =
    let here : (i < length es) × ((get_or es i none).id ≡ id) = rw read at found in
    let f_is : f ≡ get_or es i none = ef ∙ get_or_default es i f none here.0 in
    key-place id es i w here.0 here.1 ∙ ap (λ (e : Entry). e.key) (sym f_is)

pub EndsLive-last_at : (es : List Entry) (x : Entry) → slice_get es (length es - 1) ≡ Some x → IsSome x.key → EndsLive es
EndsLive-last_at [] x is some = tt
EndsLive-last_at (e ∷ es) x is some = let len : length (e ∷ es) - 1 ≡ length es = omega arith in EndsLive-at (e ∷ es) (length es) x refl (rw len at is) some

-- what is above the last entry is above all ids
pub below-last : (id : ℕ) (es : List Entry) → Rise es → ((k : ℕ) → suc k ≡ length es → (get_or es k none).id < id) → AreBelow (live es) id
below-last id [] w last = tt
below-last id (e ∷ []) w last = go e.key
  where
    go : (key : Option ℕ) → AreBelow (put_before e.id key []) id
    go None = tt
    go (Some k) = (last 0 refl, tt)
below-last id (e ∷ f ∷ es) w last = go e.key (below-last id (f ∷ es) w.1 (λ k is. last (suc k) (ap suc is)))
  where
    less : e.id < id
    less = let a = last (suc (length es)) refl in let b = all_at (λ g. e.id < g.id) (f ∷ es) (length es) w.0 (omega arith) in omega (arith, a, b)

    go : (key : Option ℕ) → AreBelow (live (f ∷ es)) id → AreBelow (put_before e.id key (live (f ∷ es))) id
    go None rest = rest
    go (Some k) rest = (less, rest)

-- there are no more ids than entries
pub live-few : (es : List Entry) → length (live es) ≤ length es
live-few [] = omega arith
live-few (e ∷ es) = go e.key (live-few es)
  where
    go : (key : Option ℕ) → length (live es) ≤ length es → length (put_before e.id key (live es)) ≤ suc (length es)
    go None few = omega (arith, few)
    go (Some k) few = omega (arith, few)

-- without an id that is not there all stay
pub without-none : (ids : List (ℕ × ℕ)) (id : ℕ) → key_of ids id ≡ None → without ids id ≡ ids
without-none [] id gone = refl
without-none (p ∷ ids) id gone = go (p.0 == id) refl (λ e. without-none ids id e) gone
  where
    go : (b : Bool) → (p.0 == id) ≡ b → (key_of ids id ≡ None → without ids id ≡ ids) → (if b then Some p.1 else key_of ids id) ≡ None → without (p ∷ ids) id ≡ p ∷ ids
    go true is stay e = absurd (cc)
    go false is stay e = rw is (ap (λ rest. p ∷ rest) (stay e))

all_stay : (ids : List (ℕ × ℕ)) (id : ℕ) → AllByRecursion (λ q. id < q.0) ids → without ids id ≡ ids
all_stay [] id all = refl
all_stay (q ∷ ids) id all =
    let less = all.0 in
    let off = ne_eqb q.0 id (λ e. omega (arith, less, e)) in
    rw off (ap (λ rest. q ∷ rest) (all_stay ids id all.1))

-- without an id that is there they are one less
pub without-some : (ids : List (ℕ × ℕ)) (id k : ℕ) → AreRising ids → key_of ids id ≡ Some k → suc (length (without ids id)) ≡ length ids
without-some [] id k w some = absurd (cc)
without-some (p ∷ ids) id k w some = go (p.0 == id) refl (λ e. without-some ids id k w.1 e) some
  where
    go : (b : Bool) → (p.0 == id) ≡ b → (key_of ids id ≡ Some k → suc (length (without ids id)) ≡ length ids) → (if b then Some p.1 else key_of ids id) ≡ Some k → suc (length (without (p ∷ ids) id)) ≡ suc (length ids)
    go true is less e = rw is (ap (λ rest. suc (length rest)) (all_stay ids id (let same = eqb-true p.0 id is in rw same at w.0)))
    go false is less e = rw is (ap suc (less e))
