-- The sweep after an identifier went.
use Rattle.std.proofs.Common.{◌≡◌, ◌≢◌, ℕ, ◌<◌, true, false, ◌==◌, ◌&&◌, List, [], ◌∷◌, length, Option, Some, None, is_some, if◌then◌else◌, refl, sym, ap, subst, arith, ◌∙◌, option_map, option_and_then}
use Rattle.pid_numbers.proofs.Words.{filter_map, slice_get, option_map_or, and_parts, both_ways, false_from_ne_true, true_from_ne_false, none-some, Ids, Entry}
use Rattle.pid_numbers.proofs.Words.{entry_at, indexes, contains_indexes, Node, TreeOfSpaces, IsPathTree, node_in, way, fell, contains, Identifier, Numbering, namespace_at}
use Rattle.pid_numbers.proofs.Words.{number_in, number_of, path_at, taken_in, swept_at, AreFallen, namespace_of, numbering_of, cursor_on, entry_on}
use Rattle.pid_numbers.proofs.Words.{bound_on, leads, empty_on, dead_on, touched, AreAround, IsNumbering, IsConsistent, Table, ident_at}
use Rattle.pid_numbers.proofs.Sweeps as sweeps
use Rattle.pid_numbers.proofs.Ties as ties
use Rattle.pid_numbers.proofs.Ties.{at_key, listed}
use Rattle.pid_numbers.proofs.Views as views
use Rattle.pid_numbers.proofs.Views.{taken_same}

-- a dead one has fallen, and no number in use
pub dead_fell : (nodes : List (Option Node)) (ids : List (Ids ℕ)) (s : ℕ) → dead_on nodes ids s ≡ true → fell nodes s ≡ true
dead_fell nodes ids s e = (and_parts (fell nodes s) (empty_on ids s) e).0

no_entry : (ids : List (Ids ℕ)) (s : ℕ) → empty_on ids s ≡ true → (n : ℕ) → entry_on ids s n ≡ None
no_entry ids s e n = go (slice_get ids s) e
  where
    go : (o : Option (Ids ℕ)) → option_map_or (λ t. length (indexes t.places) == 0) o true ≡ true → option_and_then (λ t. entry_at t.places n) o ≡ None
    go None e = refl
    go (Some z) e = views.absent (entry_at z.places n) (sym (contains_indexes z.places n) ∙ sweeps.none_in (indexes z.places) e n)

some_entry : (ids : List (Ids ℕ)) (s : ℕ) → empty_on ids s ≡ false → (n : ℕ) × (i : ℕ) × (leads (entry_on ids) s n ≡ Some i)
some_entry ids s e = go (slice_get ids s) e
  where
    some_at : (o : Option (Entry ℕ)) → is_some o ≡ true → (i : ℕ) × (option_map (λ (e : Entry ℕ). e.value) o ≡ Some i)
    some_at None e = absurd (cc)
    some_at (Some x) e = (x.value, refl)

    go : (o : Option (Ids ℕ)) → option_map_or (λ t. length (indexes t.places) == 0) o true ≡ false → (n : ℕ) × (i : ℕ) × (option_map (λ (e : Entry ℕ). e.value) (option_and_then (λ t. entry_at t.places n) o) ≡ Some i)
    go None e = absurd (cc)
    go (Some z) e =
        let r = sweeps.one_in (indexes z.places) e in
        let x = some_at (entry_at z.places r.0) (sym (contains_indexes z.places r.0) ∙ r.1) in
        (r.0, x.0, x.1)

-- and one that has fallen and is not dead has one
not_dead : (nodes : List (Option Node)) (ids : List (Ids ℕ)) (s : ℕ) → fell nodes s ≡ true → dead_on nodes ids s ≡ false → (n : ℕ) × (i : ℕ) × (leads (entry_on ids) s n ≡ Some i)
not_dead nodes ids s f e = some_entry ids s (sym (ap (λ b. b && empty_on ids s) f) ∙ e)

-- the numbers of an identifier are free again: the others, and what was known before
pub record IsReleased (pid_max : ℕ) (nodes : List (Option Node)) (ids ids1 : List (Ids ℕ)) (names names' : ℕ → Option Identifier) (space : ℕ) : Type 0 where
  pub old : IsConsistent pid_max (way nodes) (entry_on ids) (bound_on ids) names (fell nodes)
  pub after : IsNumbering pid_max (way nodes) (entry_on ids1) (bound_on ids1) names'
  pub kept : (s n : ℕ) → contains (way nodes space) s ≡ false → entry_on ids1 s n ≡ entry_on ids s n

module _ {pid_max : ℕ} {nodes : List (Option Node)} {ids ids1 : List (Ids ℕ)} {names names' : ℕ → Option Identifier} {space : ℕ} (r : IsReleased pid_max nodes ids ids1 names names' space) where
  empty : (s n : ℕ) → dead_on nodes ids1 s ≡ true → entry_on ids1 s n ≡ None
  empty s n e = no_entry ids1 s (and_parts (fell nodes s) (empty_on ids1 s) e).1 n

  on : (s : ℕ) → dead_on nodes ids1 s ≡ true → contains (way nodes space) s ≡ true
  on s dead = true_from_ne_false (contains (way nodes space) s) (λ without.
      let h = r.old.fallen.held s (dead_fell nodes ids1 s dead) in
      none-some h.1 (sym (ap (option_map (λ e. e.value)) (sym (r.kept s h.0 without) ∙ empty s h.0 dead)) ∙ h.2))

  inside : (s outer : ℕ) → contains (way nodes s) outer ≡ true → dead_on nodes ids1 outer ≡ true → dead_on nodes ids1 s ≡ true
  inside s outer within dead = true_from_ne_false (dead_on nodes ids1 s) (λ lives.
      let p = sweeps.place_of (way nodes s) outer within in
      let h = not_dead nodes ids1 s (r.old.fallen.inner s p.0 p.1 (ap (fell nodes) p.2 ∙ dead_fell nodes ids1 outer dead)) lives in
      let m = sweeps.around-held pid_max (way nodes) (entry_on ids1) (bound_on ids1) names' r.after s p.0 h.0 h.1 p.1 h.2 in
      none-some h.1 (sym (ap (λ z. leads (entry_on ids1) z m.0) p.2 ∙ ap (option_map (λ e. e.value)) (empty outer m.0 dead)) ∙ m.1))

  root : dead_on nodes ids1 0 ≡ false
  root = false_from_ne_true (dead_on nodes ids1 0) (λ dead. both_ways (fell nodes 0) r.old.fallen.stands (dead_fell nodes ids1 0 dead))

  -- the dead ones are on the path of the one where a number went
  pub around : AreAround nodes ids1 (way nodes space)
  around = record { on = on; inside = inside; root = root }

  module _ (nodes2 : List (Option Node)) (left : (s : ℕ) → node_in nodes2 s ≡ if dead_on nodes ids1 s then None else node_in nodes s) where
    -- all that is known holds of what is left
    pub whole-swept : IsPathTree (way nodes2) → IsConsistent pid_max (way nodes2) (entry_on ids1) (bound_on ids1) names' (fell nodes2)
    whole-swept tree = record {
      numbering = sweeps.numbering-swept pid_max (way nodes) (entry_on ids1) (bound_on ids1) names' r.after (dead_on nodes ids1) empty (way nodes2) way_left tree;
      fallen = sweeps.fallen-swept pid_max (way nodes) (entry_on ids1) (bound_on ids1) names' r.after (dead_on nodes ids1) empty (way nodes2) way_left tree
          (fell nodes) (fell nodes2) r.old.fallen.stands root r.old.fallen.inner fell_left (not_dead nodes ids1);
    }
      where
        way_left : (s : ℕ) → way nodes2 s ≡ if dead_on nodes ids1 s then [] else way nodes s
        way_left s = let is = left s in grind arith

        fell_left : (s : ℕ) → fell nodes2 s ≡ if dead_on nodes ids1 s then false else fell nodes s
        fell_left s = let is = left s in grind arith

-- where the look-ups are those of the identifiers, the dead ones are the model's
module _ (pid_max : ℕ) (tree : TreeOfSpaces) (ids : List (Ids ℕ)) (idents : Table) (b : IsNumbering pid_max (way tree.nodes) (entry_on ids) (bound_on ids) (ident_at idents)) where
  abbrev mid : Numbering
  mid = numbering_of pid_max tree ids idents

  empty_taken : (s : ℕ) → empty_on ids s ≡ (length (taken_in mid s) == 0)
  empty_taken s =
      sweeps.empty_by (empty_on ids s) (taken_in mid s) (λ none n. sym (taken_same pid_max tree ids idents b s n) ∙ ap is_some (no_entry ids s none n))
      (λ some. let r = some_entry ids s some in (r.0, sym (taken_same pid_max tree ids idents b s r.0) ∙ ap is_some (at_key (entry_on ids s r.0) r.1 r.2).1))

  pub swept-same : (nodes : List (Option Node)) → ((s : ℕ) → node_in nodes s ≡ if dead_on tree.nodes ids s then None else node_in tree.nodes s) → (s : ℕ) → option_map (namespace_of (cursor_on ids s)) (node_in nodes s) ≡ swept_at mid s
  swept-same nodes left s = let l = left s in let is = views.space_is pid_max tree ids idents s in let e = empty_taken s in grind arith

  -- between two calls none is dead
  pub nothing-dead : AreFallen (way tree.nodes) (entry_on ids) (fell tree.nodes) → (s : ℕ) → namespace_at mid s ≡ swept_at mid s
  nothing-dead f s = views.space_is pid_max tree ids idents s ∙ swept-same tree.nodes (λ t. sym (ap (λ g. if g then None else node_in tree.nodes t) (lives t))) s
    where
      lives : (t : ℕ) → dead_on tree.nodes ids t ≡ false
      lives t = false_from_ne_true (dead_on tree.nodes ids t) (λ e.
          let r = f.held t (dead_fell tree.nodes ids t e) in
          none-some r.1 (sym (ap (option_map (λ e. e.value)) (no_entry ids t (and_parts (fell tree.nodes t) (empty_on ids t) e).1 r.0)) ∙ r.2))

-- what a sweep leaves does not hang on the key of the next identifier
pub swept-next : (b : Numbering) (next s : ℕ) → swept_at b s ≡ swept_at (record b { next = next }) s
unfolding taken_in
swept-next b next s = refl

-- what the release leaves, and in the other namespaces nothing has changed
pub released : (pid_max : ℕ) (nodes : List (Option Node)) (ids ids1 : List (Ids ℕ)) (names names' : ℕ → Option Identifier) → IsConsistent pid_max (way nodes) (entry_on ids) (bound_on ids) names (fell nodes)
    → (i : ℕ) (gone v : Identifier) → names i ≡ Some v → (gone.space ≡ v.space) × (gone.numbers ≡ v.numbers) → ((s : ℕ) → bound_on ids1 s ≡ bound_on ids s)
    → ((s n : ℕ) → entry_on ids1 s n ≡ touched (way nodes gone.space) gone.numbers (λ _. None) (entry_on ids) s n) → names' i ≡ None → ((j : ℕ) → j ≢ i → names' j ≡ names j) → IsReleased pid_max nodes ids ids1 names names' gone.space
released pid_max nodes ids ids1 names names' old i gone v was path bounds entries now others = record {
  old = old;
  after =
      ties.numbering-released pid_max (way nodes) (entry_on ids) (entry_on ids1) (bound_on ids) (bound_on ids1) names names' old.numbering bounds i v others was now
      (λ s n. entries s n ∙ ap (λ p. touched (way nodes p) gone.numbers (λ _. None) (entry_on ids) s n) path.0 ∙ ap (λ l. touched (way nodes v.space) l (λ _. None) (entry_on ids) s n) path.1);
  kept = λ s n out. entries s n ∙ ties.touched-miss (way nodes gone.space) gone.numbers (λ _. None) (entry_on ids) s n (λ hit. none-some n (sym (sweeps.off-path s (way nodes gone.space) gone.numbers out) ∙ hit));
}

-- a namespace in which an identifier has a number has it in use
pub taken-some : (b : Numbering) (i s n : ℕ) → number_of b i s ≡ Some n → 0 < length (taken_in b s)
unfolding taken_in
taken-some b i s n e = some (filter_map (number_in (path_at b) s) b.names) (listed (number_in (path_at b) s) refl b.names i n e)
  where
    some : (ns : List ℕ) → contains ns n ≡ true → 0 < length ns
    some [] on = absurd (cc)
    some (m ∷ ms) on = omega arith

-- and a fallen one has a number in use
pub held-taken : (pid_max : ℕ) (tree : TreeOfSpaces) (ids : List (Ids ℕ)) (idents : Table) (b : Numbering) → numbering_of pid_max tree ids idents ≡ b
    → IsNumbering pid_max (way tree.nodes) (entry_on ids) (bound_on ids) (ident_at idents) → AreFallen (way tree.nodes) (entry_on ids) (fell tree.nodes) → (s : ℕ) → fell tree.nodes s ≡ true → 0 < length (taken_in b s)
held-taken pid_max tree ids idents b view w fallen s on =
    let r = fallen.held s on in
    subst (λ (c : Numbering). 0 < length (taken_in c s)) view
    (taken-some (numbering_of pid_max tree ids idents) r.1 s r.0 (views.number_is pid_max tree ids idents r.1 s ∙ w.tied.found s r.0 r.1 r.2))
