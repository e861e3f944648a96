-- What a numbering shows of the slabs.
use Rattle.std.proofs.Common.{rules, zero, suc, ◌∷◌, ◌≡◌, ◌≢◌, ℕ, ◌<◌, arith, if◌then◌else◌, Bool, true, false, List, [], length, map, get_or, Option, Some, None, IsSome, IfSome, not, ◌==◌, ◌+◌, ◌||◌, subst, is_some, is_none, refl, sym, ap, ◌∙◌, option_map, option_and_then, unwrap_or, find}
use Rattle.pid_numbers.proofs.Words.{cases_lt, cond_both, false_from_ne_true, ne_eqb, not_from_false, length-map, option_and_then_some, slice_get_within}
use Rattle.pid_numbers.proofs.Words.{MatchOption, option_map_or, nat_lt, reverse, slice_get, cyclic_draw-same, Ids, planned, contains_indexes, Entry, IsLeastIndex, entry_at}
use Rattle.pid_numbers.proofs.Words.{indexes, is_marked, is_unmarked, with_mark, distinct-path, Node, TreeOfSpaces, fell, id_in, node_in, way, IsDistinct, draw-Some, contains}
use Rattle.pid_numbers.proofs.Words.{cyclic_draw, beside, beside_from, Kind, Identifier, IsNextUsed, IsNextThread, Numbering, draw_in, has_fallen_at, id_at}
use Rattle.pid_numbers.proofs.Words.{identifier_at, is_there, is_used, is_used_as, is_thread, levels_of, more, moved, namespace_at, number_in, number_of, path_at, uses}
use Rattle.pid_numbers.proofs.Words.{with_uses, taken_in, AreIn, ArePlanned, IsNumberTable, IsNumbering, bound_on, cursor_on, entry_on, leads, mark_of, use_marks}
use Rattle.pid_numbers.proofs.Words.{namespace_of, numbering_of, plan_on, stepped, touched, namespaces_with, Table, identifier_of, ident_at}
use Rattle.std.proofs.Math.ListN.{get_or-map}
use Rattle.pid_numbers.specs.declared.Numbers.TheInside.{Inside}
use Rattle.ns_tree.proofs.Paths as paths
use Rattle.pid_numbers.proofs.Vacancy.{filled-in}
use Rattle.pid_numbers.proofs.Items as items
use Rattle.pid_numbers.proofs.Ties.{at_key, among_from, listed, planned_each, path-kept, told}

-- a look-up among the namespaces
pub namespace-at : (cursor : ℕ → ℕ) (nodes : List (Option Node)) (s : ℕ) → get_or (namespaces_with cursor nodes) s None ≡ option_map (namespace_of (cursor s)) (node_in nodes s)
namespace-at cursor [] s = refl
namespace-at cursor (o ∷ nodes) zero = refl
namespace-at cursor (o ∷ nodes) (suc s) = namespace-at (λ s. cursor (suc s)) nodes s

-- what is seen of one that is there or not
pub map_or-map : {X Y Z : Type 0} (f : Y → Z) (g : X → Y) (o : Option X) (d : Z) → option_map_or f (option_map g o) d ≡ option_map_or (λ x. f (g x)) o d
map_or-map f g o d = grind arith

some-map : {X Y : Type 0} (g : X → Y) (o : Option X) → is_some (option_map g o) ≡ is_some o
some-map g o = grind arith

pub held : {X : Type 0} (o : Option X) → IsSome o → (v : X) × (o ≡ Some v)
held None h = absurd (search rules)
held (Some v) h = (v, refl)

pub absent : {X : Type 0} (o : Option X) → is_some o ≡ false → o ≡ None
absent None e = refl
absent (Some v) e = absurd (cc)

-- a namespace with a path is there
pub there-of : (nodes : List (Option Node)) (s : ℕ) → 0 < length (way nodes s) → (z : Node) × (node_in nodes s ≡ Some z)
there-of nodes s some = grind arith

-- a namespace that is there has numbers
pub there_in : (nodes : List (Option Node)) (ids : List (Ids ℕ)) → length ids ≡ length nodes → (s : ℕ) (z : Node) → node_in nodes s ≡ Some z → s < length ids
there_in nodes ids count s z at = let lt = filled-in nodes s z at in omega (arith, lt, count)

-- where two plans are the same along a path, so is what is drawn
module _ (f g : ℕ → Option ℕ) where
  find_same : (p : List ℕ) → ((k : ℕ) → k < length p → f (get_or p k 0) ≡ g (get_or p k 0)) → find (λ s. is_none (f s)) p ≡ find (λ s. is_none (g s)) p
  find_same [] same = refl
  find_same (s ∷ ss) same = ap (λ o. if is_none o then Some s else find (λ s. is_none (f s)) ss) (same 0 (omega arith)) ∙ ap (λ r. if is_none (g s) then Some s else r) (find_same ss (λ k lt. same (suc k) (omega (arith, lt))))

  map_same : (p : List ℕ) → ((k : ℕ) → k < length p → f (get_or p k 0) ≡ g (get_or p k 0)) → map (λ s. unwrap_or (f s) 0) p ≡ map (λ s. unwrap_or (g s) 0) p
  map_same [] same = refl
  map_same (s ∷ ss) same = ap (λ o. unwrap_or o 0 ∷ map (λ s. unwrap_or (f s) 0) ss) (same 0 (omega arith)) ∙ ap (λ r. unwrap_or (g s) 0 ∷ r) (map_same ss (λ k lt. same (suc k) (omega (arith, lt))))

module _ (pid_max : ℕ) (tree : TreeOfSpaces) (ids : List (Ids ℕ)) (idents : Table) where
  abbrev numbering : Numbering
  numbering = numbering_of pid_max tree ids idents

  pub space_is : (s : ℕ) → namespace_at numbering s ≡ option_map (namespace_of (cursor_on ids s)) (node_in tree.nodes s)
  space_is s = namespace-at (cursor_on ids) tree.nodes s

  pub there_is : (s : ℕ) → is_there numbering s ≡ is_some (node_in tree.nodes s)
  there_is s = ap is_some (space_is s) ∙ some-map (namespace_of (cursor_on ids s)) (node_in tree.nodes s)

  pub path_is : (s : ℕ) → path_at numbering s ≡ way tree.nodes s
  path_is s = ap (λ o. option_map_or (λ t. t.path) o []) (space_is s) ∙ map_or-map (λ t. t.path) (namespace_of (cursor_on ids s)) (node_in tree.nodes s) []

  pub paths_are : path_at numbering ≡ way tree.nodes
  paths_are = λ i s. path_is s i

  pub name_is : (k : ℕ) → identifier_at numbering k ≡ ident_at idents k
  name_is k = get_or-map (option_map identifier_of) idents.slots k None

  pub number_is : (k s : ℕ) → number_of numbering k s ≡ number_in (way tree.nodes) s (ident_at idents k)
  number_is k s = ap (number_in (path_at numbering) s) (name_is k) ∙ ap (λ w. number_in w s (ident_at idents k)) paths_are

  module _ (t : IsNumbering pid_max (way tree.nodes) (entry_on ids) (bound_on ids) (ident_at idents)) where
    pub none_found : (s n : ℕ) → leads (entry_on ids) s n ≡ None → (k : ℕ) → number_of numbering k s ≢ Some n
    none_found s n none k e = let r : Some k ≡ None = sym (t.tied.kept s n k (sym (number_is k s) ∙ e)) ∙ none in cc

    pub one_found : (s n k : ℕ) → leads (entry_on ids) s n ≡ Some k → number_of numbering k s ≡ Some n
    one_found s n k e = number_is k s ∙ t.tied.found s n k e

    -- so a look-up answers whose the number is
    pub looked_up : (s n : ℕ) (o : Option ℕ) → o ≡ leads (entry_on ids) s n → MatchOption o ((k : ℕ) → number_of numbering k s ≢ Some n) (λ k. number_of numbering k s ≡ Some n)
    looked_up s n None e = none_found s n (sym e)
    looked_up s n (Some k) e = one_found s n k (sym e)

    -- the numbers with an entry are those taken
    pub taken_same : (s n : ℕ) → is_some (entry_on ids s n) ≡ contains (taken_in numbering s) n
    unfolding taken_in
    taken_same s n = go (entry_on ids s n) refl
      where
        go : (o : Option (Entry ℕ)) → entry_on ids s n ≡ o → is_some o ≡ contains (taken_in numbering s) n
        go None is = sym (false_from_ne_true (contains (taken_in numbering s) n) (λ e.
            let r = among_from (number_in (path_at numbering) s) None numbering.names n e in
            none_found s n (ap (option_map (λ e. e.value)) is) r.0 r.2))
        go (Some e) is = sym (listed (number_in (path_at numbering) s) refl numbering.names e.value n (one_found s n e.value (ap (option_map (λ e. e.value)) is)))

    -- so a namespace that is there gives the number that the model draws
    pub draw_same : length ids ≡ length tree.nodes → (s : ℕ) → 0 < length (way tree.nodes s) → plan_on ids s ≡ draw_in numbering s
    draw_same count s some =
        let z = there-of tree.nodes s some in
        let y = items.got ids s (there_in tree.nodes ids count s z.0 z.1) in
        ap (option_and_then planned) y.1
        ∙ cyclic_draw-same y.0.pid_max y.0.cursor (indexes y.0.places) (taken_in numbering s) (λ n. contains_indexes y.0.places n ∙ ap is_some (sym (ap (option_and_then (λ t. entry_at t.places n)) y.1)) ∙ taken_same s n)
        ∙ ap (λ m. cyclic_draw m y.0.cursor (taken_in numbering s)) (t.bounds s y.0.pid_max (ap (option_map (λ t. t.pid_max)) y.1))
        ∙ ap (λ k. cyclic_draw pid_max k (taken_in numbering s)) (sym (ap (λ o. option_map_or (λ (t : Ids ℕ). t.cursor) o 0) y.1))
        ∙ sym (ap (option_and_then (λ t. cyclic_draw pid_max t.cursor (taken_in numbering s))) (space_is s ∙ ap (option_map (namespace_of (cursor_on ids s))) z.1))

    module _ (count : length ids ≡ length tree.nodes) (space : ℕ) where
      each_draw : (k : ℕ) → k < length (way tree.nodes space) → plan_on ids (get_or (way tree.nodes space) k 0) ≡ draw_in numbering (get_or (way tree.nodes space) k 0)
      each_draw k lt = draw_same count (get_or (way tree.nodes space) k 0) (paths.on-path (way tree.nodes) (way tree.nodes space) (t.tree.paths space) k lt)

      -- so do all on a path
      pub full_same : find (λ s. is_none (plan_on ids s)) (way tree.nodes space) ≡ find (λ s. is_none (draw_in numbering s)) (path_at numbering space)
      full_same = find_same (plan_on ids) (draw_in numbering) (way tree.nodes space) each_draw ∙ ap (find (λ s. is_none (draw_in numbering s))) (sym (path_is space))

      pub draws_same : map (λ s. unwrap_or (plan_on ids s) 0) (way tree.nodes space) ≡ map (λ s. unwrap_or (draw_in numbering s) 0) (path_at numbering space)
      draws_same = map_same (plan_on ids) (draw_in numbering) (way tree.nodes space) each_draw ∙ ap (map (λ s. unwrap_or (draw_in numbering s) 0)) (sym (path_is space))

      -- what the model draws along the path is planned there
      pub all_planned : (numbers : List ℕ) → find (λ s. is_none (draw_in numbering s)) (path_at numbering space) ≡ None → numbers ≡ map (λ s. unwrap_or (draw_in numbering s) 0) (path_at numbering space) → ArePlanned ids (way tree.nodes space) numbers
      all_planned numbers all is k below =
          planned_each (plan_on ids) (way tree.nodes space) (full_same ∙ all) k below ∙ ap (λ q. Some (get_or q k 0)) (draws_same ∙ sym is)

    pub planned_len : (space : ℕ) (numbers : List ℕ) → numbers ≡ map (λ s. unwrap_or (draw_in numbering s) 0) (path_at numbering space) → length numbers ≡ length (way tree.nodes space)
    planned_len space numbers is = ap length is ∙ length-map (path_at numbering space) (λ s. unwrap_or (draw_in numbering s) 0) ∙ ap length (path_is space)

    -- each namespace of a path has numbers
    pub path_in : length ids ≡ length tree.nodes → (space : ℕ) → AreIn ids (way tree.nodes space)
    path_in count space k lt =
        let z = there-of tree.nodes (get_or (way tree.nodes space) k 0) (paths.on-path (way tree.nodes) (way tree.nodes space) (t.tree.paths space) k lt) in
        there_in tree.nodes ids count (get_or (way tree.nodes space) k 0) z.0 z.1

-- a planned number has no entry
pub plan_free : (ids : List (Ids ℕ)) (s n : ℕ) → plan_on ids s ≡ Some n → entry_on ids s n ≡ None
plan_free ids s n e =
    option_and_then_some planned (slice_get ids s) n e (λ z at d. ap (option_and_then (λ t. entry_at t.places n)) at
    ∙ absent (entry_at z.places n) (sym (contains_indexes z.places n) ∙ (draw-Some z.pid_max z.cursor (indexes z.places) n d).0))

-- and is in range
pub plan_in_range : (pid_max : ℕ) (ids : List (Ids ℕ)) (s n : ℕ) → ((m : ℕ) → bound_on ids s ≡ Some m → m ≡ pid_max) → plan_on ids s ≡ Some n → (0 < n) × (n < pid_max)
plan_in_range pid_max ids s n bounds e = option_and_then_some planned (slice_get ids s) n e (λ z at d.
    let drawn = draw-Some z.pid_max z.cursor (indexes z.places) n d in
    let low = cond_both (nat_lt 300 z.cursor) 300 1 (λ x. 0 < x) (λ _. omega arith) (λ _. omega arith) in
    let same = bounds z.pid_max (ap (option_map (λ t. t.pid_max)) at) in
    (omega (arith, low, drawn.1), omega (arith, drawn.2, same)))

-- and its namespace has numbers
pub plan_in : (ids : List (Ids ℕ)) (s n : ℕ) → plan_on ids s ≡ Some n → s < length ids
plan_in ids s n e = option_and_then_some planned (slice_get ids s) n e (λ z at d. slice_get_within ids s z at)

pub below_bound : (ids : Ids ℕ) (n : ℕ) → planned ids ≡ Some n → n < ids.pid_max
below_bound ids n e = (draw-Some ids.pid_max ids.cursor (indexes ids.places) n e).2

-- what the plan of a path says of it
pub record IsPlan (pid_max : ℕ) (nodes : List (Option Node)) (ids : List (Ids ℕ)) (space : ℕ) (numbers : List ℕ) : Type 0 where
  pub len : length numbers ≡ length (way nodes space)
  pub drawn : ArePlanned ids (way nodes space) numbers
  pub distinct : IsDistinct (way nodes space)
  -- each number of it is free, and in range
  pub free : (j : ℕ) → j < length (way nodes space) → (entry_on ids (get_or (way nodes space) j 0) (get_or numbers j 0) ≡ None) × (0 < get_or numbers j 0) × (get_or numbers j 0 < pid_max)

-- one that has a use is there
pub used : (kind : Kind) (o : Option Identifier) → is_used_as kind o ≡ true → (v : Identifier) × (o ≡ Some v)
used kind o h = grind arith

-- what is said where there is one
pub at-some : {X : Type 0} (P : X → Type 0) (o : Option X) (x : X) → IfSome o P → o ≡ Some x → P x
at-some P o x h e = subst (λ o. IfSome o P) e h

-- the marks of an identifier whose uses changed are written along the path that it has
pub marked-as : (kind : Kind) (n : ℕ) (v : Identifier) (on : Bool) (ways : ℕ → List ℕ) (at at' : ℕ → ℕ → Option (Entry ℕ)) (o : Option Identifier)
    → IfSome o (λ u. (s m : ℕ) → at' s m ≡ touched (ways u.space) u.numbers (with_mark (mark_of kind) on) at s m) → o ≡ Some (with_uses kind n v) → (s m : ℕ) → at' s m ≡ touched (ways v.space) v.numbers (with_mark (mark_of kind) on) at s m
marked-as kind n v on ways at at' o e now s m =
    at-some (λ u. (s m : ℕ) → at' s m ≡ touched (ways u.space) u.numbers (with_mark (mark_of kind) on) at s m) o (with_uses kind n v) e now s m
    ∙ ap (λ p. touched (ways p) (with_uses kind n v).numbers (with_mark (mark_of kind) on) at s m) (path-kept kind n v).0
    ∙ ap (λ l. touched (ways v.space) l (with_mark (mark_of kind) on) at s m) (path-kept kind n v).1

-- a use that was counted
pub used-with : (kind : Kind) (n : ℕ) (v : Identifier) → is_used_as kind (Some (with_uses kind n v)) ≡ not (n == 0)
used-with kind n v = grind arith

pub more_used : (kind : Kind) (v : Identifier) → is_used_as kind (Some (more kind v)) ≡ true
more_used kind v = used-with kind (uses kind v + 1) v ∙ not_from_false (uses kind v + 1 == 0) (ne_eqb (uses kind v + 1) 0 (λ e. omega (arith, e)))

-- an identifier with a use of some kind is used
pub used_some : (kind : Kind) (v : Identifier) → is_used_as kind (Some v) ≡ true → is_used v ≡ true
used_some kind v e = grind (arith, told)

get_mark : (kind : Kind) (o : Option Identifier) → get_or (use_marks o) (mark_of kind) false ≡ is_used_as kind o
get_mark kind o = grind arith

module _ (pid_max : ℕ) (tree : TreeOfSpaces) (ids : List (Ids ℕ)) (idents : Table) (b : IsNumbering pid_max (way tree.nodes) (entry_on ids) (bound_on ids) (ident_at idents)) where
  abbrev whole : Numbering
  whole = numbering_of pid_max tree ids idents

  -- who stands at a number that an identifier has, and with which marks
  record StandsAt (s n i : ℕ) : Type 0 where
    entry : Entry ℕ
    identifier : Identifier
    at : entry_on ids s n ≡ Some entry
    named : identifier_at whole i ≡ Some identifier
    marks : entry.marks ≡ use_marks (Some identifier)

  stands : (s n i : ℕ) → number_of whole i s ≡ Some n → StandsAt s n i
  stands s n i has =
      let number : number_in (way tree.nodes) s (ident_at idents i) ≡ Some n = sym (number_is pid_max tree ids idents i s) ∙ has in
      let u : (u : Identifier) × (ident_at idents i ≡ Some u) = option_and_then_some (λ u. beside s (way tree.nodes u.space) u.numbers) (ident_at idents i) n number (λ u is hit. (u, is)) in
      let r = at_key (entry_on ids s n) i (b.tied.kept s n i number) in
      record {
        entry = r.0;
        identifier = u.0;
        at = r.1;
        named = name_is pid_max tree ids idents i ∙ u.1;
        marks = b.marks s n r.0 r.1 ∙ ap (λ k. use_marks (ident_at idents k)) r.2 ∙ ap use_marks u.1;
      }

  below_end : (s n i : ℕ) → number_of whole i s ≡ Some n → n < 16777216
  below_end s n i has =
      let r = (b.range s n i (b.tied.kept s n i (sym (number_is pid_max tree ids idents i s) ∙ has))).1 in
      let g = b.good.1 in
      omega (arith, r, g)

  -- a test of an entry that is one of its identifier
  module _ (p : Option (Entry ℕ) → Bool) (q : Option Identifier → Bool) (none : p None ≡ false) (same : (e : Entry ℕ) (u : Identifier) → e.marks ≡ use_marks (Some u) → p (Some e) ≡ q (Some u)) (s : ℕ) where
    tested : (n i : ℕ) → number_of whole i s ≡ Some n → p (entry_on ids s n) ≡ q (identifier_at whole i)
    tested n i has = let z = stands s n i has in ap p z.at ∙ same z.entry z.identifier z.marks ∙ ap q (sym z.named)

    passed : (n : ℕ) → p (entry_on ids s n) ≡ true → (i : ℕ) × (number_of whole i s ≡ Some n) × (q (identifier_at whole i) ≡ true)
    passed n on = go (entry_on ids s n) refl on
      where
        go : (o : Option (Entry ℕ)) → entry_on ids s n ≡ o → p o ≡ true → (i : ℕ) × (number_of whole i s ≡ Some n) × (q (identifier_at whole i) ≡ true)
        go None is h = absurd (cc none)
        go (Some e) is h =
            let has = one_found pid_max tree ids idents b s n e.value (ap (option_map (λ e. e.value)) is) in
            (e.value, has, sym (tested n e.value has) ∙ ap p is ∙ h)

  used_same : (kind : Kind) (e : Entry ℕ) (u : Identifier) → e.marks ≡ use_marks (Some u) → is_marked (mark_of kind) (Some e) ≡ is_used_as kind (Some u)
  used_same kind e u marks = ap (λ l. get_or l (mark_of kind) false) marks ∙ get_mark kind (Some u)

  -- the least number with a mark is the least one that is used so
  pub next_is : (kind : Kind) (s from : ℕ) (r : Option ℕ) → IsLeastIndex (λ n. is_marked (mark_of kind) (entry_on ids s n)) from 16777216 r → IsNextUsed whole kind s from r
  next_is kind s from None least = λ m low u.
      let e : true ≡ false = sym u.used ∙ sym (tested (is_marked (mark_of kind)) (is_used_as kind) refl (used_same kind) s m u.key u.has) ∙ least m low (below_end s m u.key u.has) in
      cc
  next_is kind s from (Some n) least =
      let r = passed (is_marked (mark_of kind)) (is_used_as kind) refl (used_same kind) s n least.2 in (
        least.0,
        record { key = r.0; has = r.1; used = r.2 },
        λ m low u.
            let on = tested (is_marked (mark_of kind)) (is_used_as kind) refl (used_same kind) s m u.key u.has ∙ u.used in
            let off = least.3 m low in
            grind (arith, cases_lt),
      )

  thread_same : (e : Entry ℕ) (u : Identifier) → e.marks ≡ use_marks (Some u) → is_unmarked (Some e) ≡ is_thread (Some u)
  thread_same e u marks = ap (λ l. not (get_or l 0 false || (get_or l 1 false || get_or l 2 false))) marks ∙ ap not (sym (told u))

  -- and the least one without marks is a thread's
  pub next_thread-is : (s from : ℕ) (r : Option ℕ) → IsLeastIndex (λ n. is_unmarked (entry_on ids s n)) from 16777216 r → IsNextThread whole s from r
  next_thread-is s from None least = λ m low u.
      let e : true ≡ false = sym u.thread ∙ sym (tested is_unmarked is_thread refl thread_same s m u.key u.has) ∙ least m low (below_end s m u.key u.has) in
      cc
  next_thread-is s from (Some n) least =
      let r = passed is_unmarked is_thread refl thread_same s n least.2 in (
        least.0,
        record { key = r.0; has = r.1; thread = r.2 },
        λ m low u.
            let on = tested is_unmarked is_thread refl thread_same s m u.key u.has ∙ u.thread in
            let off = least.3 m low in
            grind (arith, cases_lt),
      )

-- one whose cursor moves is seen so
pub seen-moved : (path numbers : List ℕ) (s cursor : ℕ) (o : Option Node) → option_map (namespace_of (stepped path numbers s cursor)) o ≡ option_map (moved path numbers s) (option_map (namespace_of cursor) o)
seen-moved path numbers s cursor o = grind arith

-- the identifier whose namespace was found
pub home : (o : Option Identifier) (own : ℕ) → Some own ≡ option_map (λ (u : Identifier). u.space) o → (u : Identifier) × (o ≡ Some u) × (u.space ≡ own)
home o own e = grind arith

-- what a contract sees is so of the tree, the numbers by key and the identifiers
module _ (x : Inside) {b : Numbering} (view : numbering_of x.pid_max x.tree x.ids.items x.idents ≡ b) where
  -- a namespace that is there is one of the tree
  pub there : (s : ℕ) → IsSome (namespace_at b s) → IsSome (node_in x.tree.nodes s)
  there s some = sym (there_is x.pid_max x.tree x.ids.items x.idents s) ∙ ap (λ z. is_there z s) view ∙ some

  pub namespace_is : (s : ℕ) → namespace_at b s ≡ option_map (namespace_of (cursor_on x.ids.items s)) (node_in x.tree.nodes s)
  namespace_is s = ap (λ z. namespace_at z s) (sym view) ∙ space_is x.pid_max x.tree x.ids.items x.idents s

  -- its id, whether it fell, and its path
  pub id_is : (s : ℕ) → id_at b s ≡ id_in x.tree.nodes s
  id_is s = let is = namespace_is s in grind arith

  pub fell_is : (s : ℕ) → has_fallen_at b s ≡ fell x.tree.nodes s
  fell_is s = let is = namespace_is s in grind arith

  pub path-of : (s : ℕ) → path_at b s ≡ way x.tree.nodes s
  path-of s = ap (λ z. path_at z s) (sym view) ∙ path_is x.pid_max x.tree x.ids.items x.idents s

  -- the identifier with a key is that of the slab
  pub identifier_is : (k : ℕ) → identifier_at b k ≡ ident_at x.idents k
  identifier_is k = ap (λ z. identifier_at z k) (sym view) ∙ name_is x.pid_max x.tree x.ids.items x.idents k

  module _ (i s own : ℕ) (u : Identifier) (is : ident_at x.idents i ≡ Some u) (at : u.space ≡ own) where
    -- its number in a namespace
    pub number-of : number_of b i s ≡ beside s (way x.tree.nodes own) u.numbers
    number-of =
        ap (λ z. number_of z i s) (sym view) ∙ number_is x.pid_max x.tree x.ids.items x.idents i s ∙ ap (number_in (way x.tree.nodes) s) is
        ∙ ap (λ p. beside s (way x.tree.nodes p) u.numbers) at

    -- its numbers from a namespace inwards
    pub levels-of : levels_of b i s ≡ beside_from s (reverse (way x.tree.nodes own)) (reverse u.numbers)
    levels-of =
        ap (λ z. levels_of z i s) (sym view)
        ∙ ap (λ o. option_map_or
        (λ v. beside_from s (reverse (path_at (numbering_of x.pid_max x.tree x.ids.items x.idents) v.space)) (reverse v.numbers)) o [])
        (name_is x.pid_max x.tree x.ids.items x.idents i ∙ is)
        ∙ ap (λ p. beside_from s (reverse p) (reverse u.numbers)) (path_is x.pid_max x.tree x.ids.items x.idents u.space ∙ ap (way x.tree.nodes) at)

  -- what is drawn along a path is a plan of it
  pub plan-of : IsNumberTable x.pid_max x.tree x.ids.items x.idents → (space : ℕ) (numbers : List ℕ) → find (λ s. is_none (draw_in b s)) (path_at b space) ≡ None
      → numbers ≡ map (λ s. unwrap_or (draw_in b s) 0) (path_at b space) → IsPlan x.pid_max x.tree.nodes x.ids.items space numbers
  plan-of k space numbers all is = record {
    len = planned_len x.pid_max x.tree x.ids.items x.idents k.whole.numbering space numbers here;
    drawn = drawn;
    distinct = paths.distinct-path (way x.tree.nodes) (way x.tree.nodes space) (k.whole.numbering.tree.paths space);
    free = λ j lt.
        let s = get_or (way x.tree.nodes space) j 0 in
        let range = plan_in_range x.pid_max x.ids.items s (get_or numbers j 0) (λ m e. k.whole.numbering.bounds s m e) (drawn j lt) in
        (plan_free x.ids.items s (get_or numbers j 0) (drawn j lt), range.0, range.1);
  }
    where
      here : numbers ≡ map (λ s. unwrap_or (draw_in (numbering_of x.pid_max x.tree x.ids.items x.idents) s) 0)
          (path_at (numbering_of x.pid_max x.tree x.ids.items x.idents) space)
      here = subst (λ b. numbers ≡ map (λ s. unwrap_or (draw_in b s) 0) (path_at b space)) (sym view) is

      drawn : ArePlanned x.ids.items (way x.tree.nodes space) numbers
      drawn = all_planned x.pid_max x.tree x.ids.items x.idents k.whole.numbering k.count space numbers
          (subst (λ b. find (λ s. is_none (draw_in b s)) (path_at b space) ≡ None) (sym view) all) here
