-- Look-ups that lead to names, over plain functions.
use Rattle.std.proofs.Common.{◌≡◌, ◌≢◌, ◌⊎◌, inl, inr, ℕ, zero, suc, ◌+◌, ◌<◌, ◌≤◌, Bool, true, false, ◌||◌, List, [], ◌∷◌, length, map, get_or, drop, length-drop, Option, Some, None, is_none, refl, sym, ap, subst, ◌∙◌, arith, option_map, unwrap_or, find}
use Rattle.pid_numbers.proofs.Words.{filter_map, slice_set, option_map_or, cons_option, drop_more, get_or-drop, get_or_past}
use Rattle.pid_numbers.proofs.Words.{cases_eq, cases_lt, eq-eqb, ne_eqb, or_right, none-some, same_Some, contains, beside, Entry, with_mark, Kind, Task, Group}
use Rattle.pid_numbers.proofs.Words.{Session, Identifier, number_in, is_used, is_used_as, with_uses, IsPathTree, stepped, IsTied, IsNumbering, touched, leads}
use Rattle.pid_numbers.proofs.Words.{given_to, mark_of, use_marks, AreMarked, HaveNumbersInRange, IsDistinct}

-- where each draws, each number is the one drawn
pub planned_each : (d : ℕ → Option ℕ) (path : List ℕ) → find (λ s. is_none (d s)) path ≡ None → (k : ℕ) → k < length path → d (get_or path k 0) ≡ Some (get_or (map (λ s. unwrap_or (d s) 0) path) k 0)
planned_each d [] all k below = absurd (omega (arith, below))
planned_each d (s ∷ ss) all zero below = grind arith
planned_each d (s ∷ ss) all (suc k) below = grind (arith, planned_each d ss)

module _ {X : Type 0} (f : X → Option ℕ) (d : X) where
  -- what is listed is some element's
  pub among_from : (xs : List X) (n : ℕ) → contains (filter_map f xs) n ≡ true → (i : ℕ) × (i < length xs) × (f (get_or xs i d) ≡ Some n)
  among_from [] n e = absurd (cc)
  among_from (x ∷ xs) n e = go (among_from xs n) (f x) refl e
    where
      go : (contains (filter_map f xs) n ≡ true → (i : ℕ) × (i < length xs) × (f (get_or xs i d) ≡ Some n)) → (o : Option ℕ) → f x ≡ o
          → contains (cons_option o (filter_map f xs)) n ≡ true → (i : ℕ) × (i < length (x ∷ xs)) × (f (get_or (x ∷ xs) i d) ≡ Some n)
      go again None is e = let r = again e in (suc r.0, omega (arith, r.1), r.2)
      go again (Some m) is e = elim (cases_eq m n) [
        | inl same ↦ (0, omega arith, is ∙ ap Some same)
        | inr differs ↦ let r = again (rw (ne_eqb m n differs) at e) in (suc r.0, omega (arith, r.1), r.2)
      ]

  -- and each element's is listed
  pub among : (xs : List X) (i n : ℕ) → i < length xs → f (get_or xs i d) ≡ Some n → contains (filter_map f xs) n ≡ true
  among [] i n lt e = absurd (omega (arith, lt))
  among (x ∷ xs) zero n lt e = rw (e, eq-eqb n n refl) refl
  among (x ∷ xs) (suc i) n lt e = let later = among xs i n (omega (arith, lt)) e in grind (arith, or_right)

-- so it is where nothing past the end has one
pub listed : (f : Option Identifier → Option ℕ) → f None ≡ None → (xs : List (Option Identifier)) (i n : ℕ) → f (get_or xs i None) ≡ Some n → contains (filter_map f xs) n ≡ true
listed f none xs i n e = elim (cases_lt i (length xs)) [
  | inl lt ↦ among f None xs i n lt e
  | inr past ↦ absurd (let z : Some n ≡ None = sym e ∙ ap f (get_or_past xs i None past) ∙ none in cc)
]

-- what stands beside a number that is not in the list
pub beside-none : (s : ℕ) (path numbers : List ℕ) → ((j : ℕ) → j < length path → get_or path j 0 ≢ s) → beside s path numbers ≡ None
beside-none s [] numbers h = refl
beside-none s (t ∷ ts) [] h = refl
beside-none s (t ∷ ts) (n ∷ ns) h = rw (ne_eqb t s (h 0 (omega arith))) (beside-none s ts ns (λ j lt. h (suc j) (omega (arith, lt))))

-- a number that stands beside another one is in a place
pub beside-some : (s n : ℕ) (path numbers : List ℕ) → beside s path numbers ≡ Some n → (j : ℕ) × (j < length path) × (get_or path j 0 ≡ s) × (get_or numbers j 0 ≡ n)
beside-some s n [] numbers e = absurd (cc)
beside-some s n (t ∷ ts) [] e = absurd (cc)
beside-some s n (t ∷ ts) (m ∷ ms) e = elim (cases_eq t s) [
  | inl same ↦ (0, omega arith, same, same_Some m n (rw (eq-eqb t s same) at e))
  | inr differs ↦ let r = beside-some s n ts ms (rw (ne_eqb t s differs) at e) in (suc r.0, omega (arith, r.1), r.2, r.3)
]

module _ (a b : ℕ) (ps ns : List ℕ) (absent : beside a ps ns ≡ None) where
  -- one namespace after the other
  pub touched-cons : (h : Option (Entry ℕ) → Option (Entry ℕ)) (f f' : ℕ → ℕ → Option (Entry ℕ)) → f' a b ≡ h (f a b) → ((m : ℕ) → m ≢ b → f' a m ≡ f a m) → ((s : ℕ) → s ≢ a → (m : ℕ) → f' s m ≡ f s m)
      → (s n : ℕ) → touched ps ns h f' s n ≡ touched (a ∷ ps) (b ∷ ns) h f s n
  touched-cons h f f' here same others s n = grind (arith, cases_eq, eq-eqb, ne_eqb)

  pub stepped-cons : (g g' : ℕ → ℕ) → g' a ≡ b + 1 → ((s : ℕ) → s ≢ a → g' s ≡ g s) → (s : ℕ) → stepped ps ns s (g' s) ≡ stepped (a ∷ ps) (b ∷ ns) s (g s)
  stepped-cons g g' here others s = grind (arith, cases_eq, eq-eqb, ne_eqb)

module _ (path numbers : List ℕ) (distinct : IsDistinct path) (len : length numbers ≡ length path) (k : ℕ) (below : k < length path) (key n : ℕ) (at : key ≡ get_or path k 0) (is : n ≡ get_or numbers k 0) where
  head : drop k path ≡ key ∷ drop (k + 1) path
  head = drop_more path k 0 below ∙ ap (λ z. z ∷ drop (k + 1) path) (sym at)

  first : drop k numbers ≡ n ∷ drop (k + 1) numbers
  first = drop_more numbers k 0 (omega (arith, below, len)) ∙ ap (λ z. z ∷ drop (k + 1) numbers) (sym is)

  far : (j : ℕ) → j < length (drop (k + 1) path) → k + 1 + j < length path
  far j lt = let h = length-drop (k + 1) path in omega (arith, lt, h)

  gone : beside key (drop (k + 1) path) (drop (k + 1) numbers) ≡ None
  gone = beside-none key (drop (k + 1) path) (drop (k + 1) numbers) (λ j lt e. distinct k (k + 1 + j) (omega arith) (far j lt) (sym at ∙ sym e ∙ get_or-drop (k + 1) path j 0))

  -- the same of what is left of the path
  pub touched-more : (h : Option (Entry ℕ) → Option (Entry ℕ)) (f f' : ℕ → ℕ → Option (Entry ℕ)) → f' key n ≡ h (f key n) → ((m : ℕ) → m ≢ n → f' key m ≡ f key m) → ((s : ℕ) → s ≢ key → (m : ℕ) → f' s m ≡ f s m)
      → (s m : ℕ) → touched (drop (k + 1) path) (drop (k + 1) numbers) h f' s m ≡ touched (drop k path) (drop k numbers) h f s m
  touched-more h f f' here same others s m =
      touched-cons key n (drop (k + 1) path) (drop (k + 1) numbers) gone h f f' here same others s m
      ∙ sym (ap (λ p. touched p (drop k numbers) h f s m) head ∙ ap (λ q. touched (key ∷ drop (k + 1) path) q h f s m) first)

  pub stepped-more : (g g' : ℕ → ℕ) → g' key ≡ n + 1 → ((s : ℕ) → s ≢ key → g' s ≡ g s) → (s : ℕ) → stepped (drop (k + 1) path) (drop (k + 1) numbers) s (g' s) ≡ stepped (drop k path) (drop k numbers) s (g s)
  stepped-more g g' here others s =
      stepped-cons key n (drop (k + 1) path) (drop (k + 1) numbers) gone g g' here others s
      ∙ sym (ap (λ p. stepped p (drop k numbers) s (g s)) head ∙ ap (λ q. stepped (key ∷ drop (k + 1) path) q s (g s)) first)

  -- later ones are others
  pub later : (j : ℕ) → k + 1 ≤ j → j < length path → get_or path j 0 ≢ key
  later j lo lt e = distinct k j (omega (arith, lo)) lt (sym at ∙ sym e)

decide_some : (o : Option ℕ) (n : ℕ) → (o ≡ Some n) ⊎ (o ≢ Some n)
decide_some o n = grind (arith, cases_eq)

-- a change along a path reaches the numbers there
module _ (path numbers : List ℕ) (h : Option (Entry ℕ) → Option (Entry ℕ)) (f : ℕ → ℕ → Option (Entry ℕ)) (s n : ℕ) where
  pub touched-hit : beside s path numbers ≡ Some n → touched path numbers h f s n ≡ h (f s n)
  touched-hit e = rw (e, eq-eqb n n refl) refl

  -- and no others
  pub touched-miss : beside s path numbers ≢ Some n → touched path numbers h f s n ≡ f s n
  touched-miss d = grind (arith, ne_eqb)

-- the marks tell whether an identifier is used
pub told : (u : Identifier) → is_used u ≡ (is_used_as Task (Some u) || (is_used_as Group (Some u) || is_used_as Session (Some u)))
told u = grind arith

-- what is said of each name, where one alone is another
module _ (ways : ℕ → List ℕ) (see see' : ℕ → ℕ → Option ℕ) (names names' : ℕ → Option Identifier) (t : IsTied ways names see) (i : ℕ) (others : (j : ℕ) → j ≢ i → names' j ≡ names j) where
  each : (P : Identifier → Type 0) → ((u : Identifier) → names' i ≡ Some u → P u) → ((j : ℕ) (x : Identifier) → names j ≡ Some x → P x) → (j : ℕ) (x : Identifier) → names' j ≡ Some x → P x
  each P here there j x e = grind (arith, cases_eq)

  tied-with : ((u : Identifier) → names' i ≡ Some u → (length u.numbers ≡ length (ways u.space)) × (0 < length u.numbers))
      → ((s n j : ℕ) → see' s n ≡ Some j → number_in ways s (names' j) ≡ Some n) → ((s n j : ℕ) → number_in ways s (names' j) ≡ Some n → see' s n ≡ Some j) → IsTied ways names' see'
  tied-with here found kept = record {
    found = found;
    kept = kept;
    full = each (λ u. length u.numbers ≡ length (ways u.space)) (λ u e. (here u e).0) t.full;
    some = each (λ u. 0 < length u.numbers) (λ u e. (here u e).1) t.some;
  }

  module _ (u : Identifier) where
    new_one : names' i ≡ Some u → (length u.numbers ≡ length (ways u.space)) × (0 < length u.numbers) → (x : Identifier) → names' i ≡ Some x → (length x.numbers ≡ length (ways x.space)) × (0 < length x.numbers)
    new_one now fits x e = let same = same_Some u x (sym now ∙ e) in grind arith

    -- a new name
    pub tied-given : names i ≡ None → names' i ≡ Some u → (length u.numbers ≡ length (ways u.space)) × (0 < length u.numbers)
        → ((s n : ℕ) → beside s (ways u.space) u.numbers ≡ Some n → see s n ≡ None)
        → ((s n : ℕ) → beside s (ways u.space) u.numbers ≡ Some n → see' s n ≡ Some i) → ((s n : ℕ) → beside s (ways u.space) u.numbers ≢ Some n → see' s n ≡ see s n) → IsTied ways names' see'
    tied-given was now fits free hits misses = tied-with (new_one now fits)
        (λ s n j e. let hit = decide_some (beside s (ways u.space) u.numbers) n in let found = t.found s n j in grind (arith, cases_eq))
        (λ s n j e. let kept = t.kept s n j in grind (arith, cases_eq, decide_some))

    -- a name that goes
    pub tied-released : names i ≡ Some u → names' i ≡ None → ((s n : ℕ) → beside s (ways u.space) u.numbers ≡ Some n → see' s n ≡ None) → ((s n : ℕ) → beside s (ways u.space) u.numbers ≢ Some n → see' s n ≡ see s n) → IsTied ways names' see'
    tied-released was now hits misses = tied-with (λ x e. absurd (none-some x (sym now ∙ e)))
        (λ s n j e. let hit = decide_some (beside s (ways u.space) u.numbers) n in let found = t.found s n j in grind (arith, cases_eq))
        (λ s n j e. let kept = t.kept s n j in let own = t.kept s n i in grind (arith, cases_eq, decide_some))

    -- a name whose uses change
    pub tied-renamed : (v : Identifier) → names i ≡ Some v → names' i ≡ Some u → ((s : ℕ) → number_in ways s (Some u) ≡ number_in ways s (Some v)) → (length u.numbers ≡ length (ways u.space)) × (0 < length u.numbers)
        → ((s n : ℕ) → see' s n ≡ see s n) → IsTied ways names' see'
    tied-renamed v was now same_number fits sees = tied-with (new_one now fits) (λ s n j e. number s j ∙ t.found s n j (sym (sees s n) ∙ e)) (λ s n j e. sees s n ∙ t.kept s n j (sym (number s j) ∙ e))
      where
        number : (s j : ℕ) → number_in ways s (names' j) ≡ number_in ways s (names j)
        number s j = grind (arith, cases_eq)

-- the marks where the uses of one identifier changed
module _ (at at' : ℕ → ℕ → Option (Entry ℕ)) (names names' : ℕ → Option Identifier) (old : AreMarked at names) (path numbers : List ℕ) (i : ℕ) (others : (j : ℕ) → j ≢ i → names' j ≡ names j) where
  pub marks-set : ((s n : ℕ) (e : Entry ℕ) → beside s path numbers ≡ Some n → at' s n ≡ Some e → e.marks ≡ use_marks (names' e.value))
      → ((s n : ℕ) → beside s path numbers ≢ Some n → at' s n ≡ at s n) → ((s n : ℕ) → beside s path numbers ≢ Some n → leads at s n ≢ Some i) → AreMarked at' names'
  marks-set hits misses away s n e is = grind (arith, decide_some)

-- each number is in range where the new ones are
range-set : (pid_max : ℕ) (see see' : ℕ → ℕ → Option ℕ) → HaveNumbersInRange pid_max see → (path numbers : List ℕ) → ((s n i : ℕ) → see' s n ≡ Some i → beside s path numbers ≡ Some n → (0 < n) × (n < pid_max))
    → ((s n : ℕ) → beside s path numbers ≢ Some n → see' s n ≡ see s n) → HaveNumbersInRange pid_max see'
range-set pid_max see see' old path numbers hits misses s n i e = grind (arith, decide_some)

-- what marks are read changes no key
pub value-marked : (m : ℕ) (on : Bool) (o : Option (Entry ℕ)) → option_map (λ (e : Entry ℕ). e.value) (with_mark m on o) ≡ option_map (λ e. e.value) o
value-marked m on o = grind arith

-- what stands at a number of an identifier leads to it
pub at_key : (o : Option (Entry ℕ)) (i : ℕ) → option_map (λ (e : Entry ℕ). e.value) o ≡ Some i → (e : Entry ℕ) × (o ≡ Some e) × (e.value ≡ i)
at_key o i h = grind arith

-- the paths change where no identifier is
pub numbering-moved : (pid_max : ℕ) (ways ways' : ℕ → List ℕ) (at : ℕ → ℕ → Option (Entry ℕ)) (bound bound' : ℕ → Option ℕ) (names : ℕ → Option Identifier) → IsNumbering pid_max ways at bound names → IsPathTree ways' → ((s m : ℕ) → bound' s ≡ Some m → m ≡ pid_max)
    → ((i : ℕ) (u : Identifier) → names i ≡ Some u → ways' u.space ≡ ways u.space) → IsNumbering pid_max ways' at bound' names
numbering-moved pid_max ways ways' at bound bound' names b tree bounds homes = record {
  good = b.good;
  bounds = bounds;
  tree = tree;
  tied = record {
    found = λ s n i e. stays s i ∙ b.tied.found s n i e;
    kept = λ s n i e. b.tied.kept s n i (sym (stays s i) ∙ e);
    full = λ i u e. b.tied.full i u e ∙ ap length (sym (homes i u e));
    some = b.tied.some;
  };
  range = b.range;
  marks = b.marks;
}
  where
    stays : (s i : ℕ) → number_in ways' s (names i) ≡ number_in ways s (names i)
    stays s i = grind (arith, homes)

module _ (pid_max : ℕ) (ways : ℕ → List ℕ) (at at' : ℕ → ℕ → Option (Entry ℕ)) (bound bound' : ℕ → Option ℕ) (names names' : ℕ → Option Identifier) (b : IsNumbering pid_max ways at bound names)
    (same_bound : (s : ℕ) → bound' s ≡ bound s) where
  -- the paths and the bounds stay
  numbering-with : IsTied ways names' (leads at') → HaveNumbersInRange pid_max (leads at') → AreMarked at' names' → IsNumbering pid_max ways at' bound' names'
  numbering-with t r m = record {
    good = b.good;
    bounds = λ s m e. b.bounds s m (sym (same_bound s) ∙ e);
    tree = b.tree;
    tied = t;
    range = r;
    marks = m;
  }

  -- nothing that is seen has changed
  pub numbering-same : ((s n : ℕ) → at' s n ≡ at s n) → ((i : ℕ) → names' i ≡ names i) → IsNumbering pid_max ways at' bound' names'
  numbering-same same_at same_names =
      subst (λ (a : ℕ → ℕ → Option (Entry ℕ)). IsNumbering pid_max ways a bound' names') (λ i s n. sym (same_at s n) i)
      (subst (λ (a : ℕ → Option Identifier). IsNumbering pid_max ways at bound' a) (λ i j. sym (same_names j) i)
      (subst (λ (a : ℕ → Option ℕ). IsNumbering pid_max ways at a names) (λ i s. sym (same_bound s) i) b))

  module _ (i : ℕ) (u : Identifier) (others : (j : ℕ) → j ≢ i → names' j ≡ names j) where
    -- where nothing changes but along the path
    module _ (change : Option (Entry ℕ) → Option (Entry ℕ)) (is : (s n : ℕ) → at' s n ≡ touched (ways u.space) u.numbers change at s n) where
      hits : (s n : ℕ) → beside s (ways u.space) u.numbers ≡ Some n → at' s n ≡ change (at s n)
      hits s n hit = is s n ∙ touched-hit (ways u.space) u.numbers change at s n hit

      misses : (s n : ℕ) → beside s (ways u.space) u.numbers ≢ Some n → at' s n ≡ at s n
      misses s n miss = is s n ∙ touched-miss (ways u.space) u.numbers change at s n miss

      misled : (s n : ℕ) → beside s (ways u.space) u.numbers ≢ Some n → leads at' s n ≡ leads at s n
      misled s n miss = ap (option_map (λ e. e.value)) (misses s n miss)

    -- a new identifier
    pub numbering-given : (is_task : Bool) → names i ≡ None → names' i ≡ Some u → length u.numbers ≡ length (ways u.space) → 0 < length u.numbers → use_marks (Some u) ≡ is_task ∷ false ∷ false ∷ []
        → ((s n : ℕ) → beside s (ways u.space) u.numbers ≡ Some n → (at s n ≡ None) × (0 < n) × (n < pid_max))
        → ((s n : ℕ) → at' s n ≡ touched (ways u.space) u.numbers (λ _. given_to is_task i) at s n) → IsNumbering pid_max ways at' bound' names'
    numbering-given is_task was now len some marks free is =
        numbering-with
        (tied-given ways (leads at) (leads at') names names' b.tied i others u was now (len, some)
        (λ s n hit. ap (option_map (λ e. e.value)) (free s n hit).0) (λ s n hit. ap (option_map (λ e. e.value)) (hits (λ _. given_to is_task i) is s n hit)) (misled (λ _. given_to is_task i) is))
        (range-set pid_max (leads at) (leads at') b.range (ways u.space) u.numbers (λ s n j e hit. ((free s n hit).1, (free s n hit).2)) (misled (λ _. given_to is_task i) is))
        (marks-set at at' names names' b.marks (ways u.space) u.numbers i others
        (λ s n e hit stands. new_marks e (sym (hits (λ _. given_to is_task i) is s n hit) ∙ stands)) (misses (λ _. given_to is_task i) is) (λ s n miss h. none-some n (sym (ap (number_in ways s) was) ∙ b.tied.found s n i h)))
      where
        new_marks : (e : Entry ℕ) → given_to is_task i ≡ Some e → e.marks ≡ use_marks (names' e.value)
        new_marks e same = subst (λ (e : Entry ℕ). e.marks ≡ use_marks (names' e.value)) (same_Some (record { value = i; marks = is_task ∷ false ∷ false ∷ [] }) e same) (sym marks ∙ ap use_marks (sym now))

    -- an identifier that goes
    pub numbering-released : names i ≡ Some u → names' i ≡ None → ((s n : ℕ) → at' s n ≡ touched (ways u.space) u.numbers (λ _. None) at s n) → IsNumbering pid_max ways at' bound' names'
    numbering-released was now is =
        numbering-with
        (tied-released ways (leads at) (leads at') names names' b.tied i others u was now (λ s n hit. ap (option_map (λ e. e.value)) (hits (λ _. None) is s n hit)) (misled (λ _. None) is))
        (range-set pid_max (leads at) (leads at') b.range (ways u.space) u.numbers (λ s n j e hit. absurd (none-some j (sym (ap (option_map (λ e. e.value)) (hits (λ _. None) is s n hit)) ∙ e))) (misled (λ _. None) is))
        (marks-set at at' names names' b.marks (ways u.space) u.numbers i others
        (λ s n e hit stands. absurd (none-some e (sym (hits (λ _. None) is s n hit) ∙ stands))) (misses (λ _. None) is) (λ s n miss h. miss (sym (ap (number_in ways s) was) ∙ b.tied.found s n i h)))

    -- an identifier whose uses change
    pub numbering-used : (v : Identifier) → names i ≡ Some v → names' i ≡ Some u → u.space ≡ v.space → u.numbers ≡ v.numbers
        → ((s n : ℕ) → leads at' s n ≡ leads at s n) → ((s n : ℕ) → beside s (ways v.space) v.numbers ≢ Some n → at' s n ≡ at s n)
        → ((s n : ℕ) (e : Entry ℕ) → beside s (ways v.space) v.numbers ≡ Some n → at s n ≡ Some e → e.marks ≡ use_marks (Some v) → (e' : Entry ℕ) → at' s n ≡ Some e' → e'.marks ≡ use_marks (Some u)) → IsNumbering pid_max ways at' bound' names'
    numbering-used v was now same_space same_numbers same_leads misses marks =
        numbering-with
        (tied-renamed ways (leads at) (leads at') names names' b.tied i others u v was now
        (λ s. ap (λ p. beside s (ways p) u.numbers) same_space ∙ ap (beside s (ways v.space)) same_numbers)
        (ap length same_numbers ∙ b.tied.full i v was ∙ ap (λ p. length (ways p)) (sym same_space), subst (λ (l : List ℕ). 0 < length l) (sym same_numbers) (b.tied.some i v was)) same_leads)
        (λ s n j e. b.range s n j (sym (same_leads s n) ∙ e))
        (marks-set at at' names names' b.marks (ways v.space) v.numbers i others
        (λ s n e' hit stands.
        let led : leads at s n ≡ Some i = b.tied.kept s n i (ap (number_in ways s) was ∙ hit) in
        let old = at_key (at s n) i led in
        let key : e'.value ≡ i = same_Some e'.value i (sym (ap (option_map (λ e. e.value)) stands) ∙ same_leads s n ∙ led) in
        let before : (old.0).marks ≡ use_marks (Some v) = b.marks s n old.0 old.1 ∙ ap (λ k. use_marks (names k)) old.2 ∙ ap use_marks was in
        marks s n old.0 hit old.1 before e' stands ∙ ap use_marks (sym now) ∙ ap (λ k. use_marks (names' k)) (sym key))
        misses
        (λ s n miss h. miss (sym (ap (number_in ways s) was) ∙ b.tied.found s n i h)))

-- the marks where a use of one kind comes or goes
marks-kept : (kind : Kind) (n : ℕ) (v : Identifier) → is_used_as kind (Some (with_uses kind n v)) ≡ is_used_as kind (Some v) → use_marks (Some (with_uses kind n v)) ≡ use_marks (Some v)
marks-kept kind n v e = grind arith

marks-turned : (kind : Kind) (n : ℕ) (v : Identifier) (on : Bool) → is_used_as kind (Some (with_uses kind n v)) ≡ on → slice_set (use_marks (Some v)) (mark_of kind) on ≡ use_marks (Some (with_uses kind n v))
marks-turned kind n v on e = grind arith

pub path-kept : (kind : Kind) (n : ℕ) (v : Identifier) → ((with_uses kind n v).space ≡ v.space) × ((with_uses kind n v).numbers ≡ v.numbers)
path-kept kind n v = grind arith

module _ (path numbers : List ℕ) (m : ℕ) (on : Bool) (at at' : ℕ → ℕ → Option (Entry ℕ)) (is : (s n : ℕ) → at' s n ≡ touched path numbers (with_mark m on) at s n) where
  -- a change of marks leads nowhere else
  pub leads-marked : (s n : ℕ) → leads at' s n ≡ leads at s n
  leads-marked s n = grind (arith, decide_some, touched-hit, touched-miss, value-marked)

module _ (pid_max : ℕ) (ways : ℕ → List ℕ) (at at' : ℕ → ℕ → Option (Entry ℕ)) (bound bound' : ℕ → Option ℕ) (names names' : ℕ → Option Identifier) (b : IsNumbering pid_max ways at bound names) (same_bound : (s : ℕ) → bound' s ≡ bound s)
    (i : ℕ) (kind : Kind) (count : ℕ) (v : Identifier) (was : names i ≡ Some v) (now : names' i ≡ Some (with_uses kind count v)) (others : (j : ℕ) → j ≢ i → names' j ≡ names j) where
  -- another number of uses, but no first and no last one
  pub numbering-counted : is_used_as kind (Some (with_uses kind count v)) ≡ is_used_as kind (Some v) → ((s n : ℕ) → at' s n ≡ at s n) → IsNumbering pid_max ways at' bound' names'
  numbering-counted still same =
      numbering-used pid_max ways at at' bound bound' names names' b same_bound i (with_uses kind count v) others v was now (path-kept kind count v).0 (path-kept kind count v).1
      (λ s n. ap (option_map (λ e. e.value)) (same s n)) (λ s n miss. same s n)
      (λ s n e hit stands old e' stands'. ap (λ (e : Entry ℕ). e.marks) (same_Some e' e (sym stands' ∙ same s n ∙ stands)) ∙ old ∙ sym (marks-kept kind count v still))

  -- a first or a last use
  pub numbering-marked : (on : Bool) → is_used_as kind (Some (with_uses kind count v)) ≡ on → ((s n : ℕ) → at' s n ≡ touched (ways v.space) v.numbers (with_mark (mark_of kind) on) at s n) → IsNumbering pid_max ways at' bound' names'
  numbering-marked on turned is =
      numbering-used pid_max ways at at' bound bound' names names' b same_bound i (with_uses kind count v) others v was now (path-kept kind count v).0 (path-kept kind count v).1
      (leads-marked (ways v.space) v.numbers (mark_of kind) on at at' is) (λ s n miss. is s n ∙ touched-miss (ways v.space) v.numbers (with_mark (mark_of kind) on) at s n miss)
      (λ s n e hit stands old e' stands'.
      let r : Some e' ≡ with_mark (mark_of kind) on (Some e) = sym stands' ∙ is s n ∙ touched-hit (ways v.space) v.numbers (with_mark (mark_of kind) on) at s n hit ∙ ap (with_mark (mark_of kind) on) stands in
      ap (λ o. option_map_or (λ y. y.marks) o e'.marks) r ∙ ap (λ l. slice_set l (mark_of kind) on) old ∙ marks-turned kind count v on turned)

-- a number that was in use is so still once others are given
pub leads-given : (is_task : Bool) (path numbers : List ℕ) (key : ℕ) (at at' : ℕ → ℕ → Option (Entry ℕ)) → ((s n : ℕ) → at' s n ≡ touched path numbers (λ _. given_to is_task key) at s n) → (s n i : ℕ) → leads at s n ≡ Some i → (j : ℕ) × (leads at' s n ≡ Some j)
leads-given is_task path numbers key at at' is s n i led = elim (decide_some (beside s path numbers) n) [
  | inl hit ↦ (key, ap (option_map (λ e. e.value)) (is s n ∙ touched-hit path numbers (λ _. given_to is_task key) at s n hit))
  | inr miss ↦ (i, ap (option_map (λ e. e.value)) (is s n ∙ touched-miss path numbers (λ _. given_to is_task key) at s n miss) ∙ led)
]
