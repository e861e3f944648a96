-- A tree with a leaf beside it.
use Rattle.std.proofs.Common.{ℕ, ◌≡◌, ◌≢◌, ◌+◌, ◌*◌, ◌/◌, ◌%◌, ◌<◌, ◌≤◌, max, sym, ap, ◌∙◌, arith, refl, inl, inr, List, length, Bool, true, false, is_some, Option, Some, None}
use Rattle.std.specs.Prelude.{nat_eq, if◌then◌else◌, MatchBool}
use Rattle.std.proofs.lemmas.List.{get_or_past}
use Rattle.std.proofs.lemmas.List.FromFn.{get_or-map-range_with_len, length-map-range_with_len}
use Rattle.std.proofs.lemmas.Bool.{cases_eq, cases_lt, false≢true, false_from_ne_true}
use Rattle.std.proofs.lemmas.Bool.Decides.{nat_tests}
use Rattle.index_array.specs.Place.{Place, Entry, bare_place, place_at, entry_at, is_prepared, with_mark, WritesEntry, KeepsEntries, KeepsPrepared, SwapsLeaf}
use Rattle.cyclic_ids.specs.Ids.{entry_beside, place_beside, places_beside}

-- a test of two numbers
is_same : (a b : ℕ) → a ≡ b → nat_eq a b ≡ true
is_same a b e = grind (arith, nat_tests, e)

is_other : (a b : ℕ) → a ≢ b → nat_eq a b ≡ false
is_other a b ne = false_from_ne_true (nat_eq a b) (λ t. ne (grind (arith, nat_tests, t)))

-- the entry of the place that a test chooses
entry_if : {T : Type 0} (c : Bool) (p q : Place T) → (if c then p else q).entry ≡ (if c then p.entry else q.entry)
entry_if true p q = refl
entry_if false p q = refl

module _ {T : Type 0} (ready : Bool) (block : ℕ) (leaf tree : List (Place T)) where
  in_leaf-place_beside : (n : ℕ) → n / 64 ≡ block → place_beside ready block leaf tree n ≡ record { prepared = ready; entry = entry_at leaf (n % 64) }
  in_leaf-place_beside n e = ap (λ c. if c then record { prepared = ready; entry = entry_at leaf (n % 64) } else place_at tree n) (is_same _ _ e)

  in_tree-place_beside : (n : ℕ) → n / 64 ≢ block → place_beside ready block leaf tree n ≡ place_at tree n
  in_tree-place_beside n ne = ap (λ c. if c then record { prepared = ready; entry = entry_at leaf (n % 64) } else place_at tree n) (is_other _ _ ne)

  beside : (n : ℕ) → place_at (places_beside ready block leaf tree) n ≡ place_beside ready block leaf tree n
  unfolding places_beside
  beside n =
      elim (cases_lt n (max (length tree) ((block + 1) * 64))) [
        | inl below ↦ get_or-map-range_with_len (place_beside ready block leaf tree) 0 (max (length tree) ((block + 1) * 64)) n n bare_place below (omega arith)
        | inr past ↦
            (let far : length tree ≤ n = omega (arith, past) in
            let end : (block + 1) * 64 ≤ n = omega (arith, past) in
            get_or_past _ n bare_place (omega (arith, length-map-range_with_len (place_beside ready block leaf tree) 0 (max (length tree) ((block + 1) * 64)), past)) ∙ sym (in_tree-place_beside n (λ e. absurd (omega (arith, e, end))) ∙ get_or_past tree n bare_place far))
      ]

  -- the place of a number of the block, and of another
  pub in_leaf : (n : ℕ) → n / 64 ≡ block → place_at (places_beside ready block leaf tree) n ≡ record { prepared = ready; entry = entry_at leaf (n % 64) }
  in_leaf n e = beside n ∙ in_leaf-place_beside n e

  pub in_tree : (n : ℕ) → n / 64 ≢ block → place_at (places_beside ready block leaf tree) n ≡ place_at tree n
  in_tree n ne = beside n ∙ in_tree-place_beside n ne

  pub entry_in_leaf : (n : ℕ) → n / 64 ≡ block → entry_at (places_beside ready block leaf tree) n ≡ entry_at leaf (n % 64)
  entry_in_leaf n e = ap (λ (p : Place T). p.entry) (in_leaf n e)

  pub entry_in_tree : (n : ℕ) → n / 64 ≢ block → entry_at (places_beside ready block leaf tree) n ≡ entry_at tree n
  entry_in_tree n ne = ap (λ (p : Place T). p.entry) (in_tree n ne)

  pub entry-beside : (n : ℕ) → entry_at (places_beside ready block leaf tree) n ≡ entry_beside block leaf tree n
  entry-beside n = ap (λ (p : Place T). p.entry) (beside n) ∙ entry_if (nat_eq (n / 64) block) (record { prepared = ready; entry = entry_at leaf (n % 64) }) (place_at tree n)

-- a write to the leaf, and one to the tree
pub written_leaf : {T : Type 0} (ready now : Bool) (block : ℕ) (leaf leaf' tree : List (Place T)) (n : ℕ) (e : Option (Entry T)) → n / 64 ≡ block → WritesEntry leaf leaf' (n % 64) e → WritesEntry (places_beside ready block leaf tree) (places_beside now block leaf' tree) n e
written_leaf ready now block leaf leaf' tree n e here writes = record {
  here = entry_in_leaf now block leaf' tree n here ∙ writes.here;
  others = λ m ne. elim (cases_eq (m / 64) block) [
    | inl same ↦
        entry_in_leaf now block leaf' tree m same ∙ writes.others (m % 64) (λ e. ne (omega (arith, e, same, here))) ∙ sym (entry_in_leaf ready block leaf tree m same)
    | inr other ↦ entry_in_tree now block leaf' tree m other ∙ sym (entry_in_tree ready block leaf tree m other)
  ];
}

pub written_tree : {T : Type 0} (ready : Bool) (block : ℕ) (leaf tree tree' : List (Place T)) (n : ℕ) (e : Option (Entry T)) → n / 64 ≢ block → WritesEntry tree tree' n e → WritesEntry (places_beside ready block leaf tree) (places_beside ready block leaf tree') n e
written_tree ready block leaf tree tree' n e there writes = record {
  here = entry_in_tree ready block leaf tree' n there ∙ writes.here;
  others = λ m ne. elim (cases_eq (m / 64) block) [
    | inl same ↦ entry_in_leaf ready block leaf tree' m same ∙ sym (entry_in_leaf ready block leaf tree m same)
    | inr other ↦ entry_in_tree ready block leaf tree' m other ∙ writes.others m ne ∙ sym (entry_in_tree ready block leaf tree m other)
  ];
}

-- a write elsewhere leaves the leaf's block of the tree empty
pub apart_written : {T : Type 0} (block : ℕ) (tree tree' : List (Place T)) (n : ℕ) (e : Option (Entry T)) → ((m : ℕ) → m / 64 ≡ block → entry_at tree m ≡ None) → n / 64 ≢ block → WritesEntry tree tree' n e → (m : ℕ) → m / 64 ≡ block → entry_at tree' m ≡ None
apart_written block tree tree' n e apart there writes m here =
    writes.others m (λ same. there (sym (ap (λ k. k / 64) same) ∙ here)) ∙ apart m here

-- to mark in an empty leaf leaves it empty
pub empty_marked : {T : Type 0} (leaf leaf' : List (Place T)) (s m : ℕ) (on : Bool) → ((k : ℕ) → entry_at leaf k ≡ None) → WritesEntry leaf leaf' s (with_mark m on (entry_at leaf s)) → (k : ℕ) → entry_at leaf' k ≡ None
empty_marked leaf leaf' s m on none writes k =
    elim (cases_eq k s) [
      | inl same ↦ ap (entry_at leaf') same ∙ writes.here ∙ ap (with_mark m on) (none s)
      | inr other ↦ writes.others k other ∙ none k
    ]

-- another tree with the same entries, and what is prepared
pub same_tree : {T : Type 0} (ready now : Bool) (block : ℕ) (leaf tree tree' : List (Place T)) → KeepsEntries tree tree' → KeepsEntries (places_beside ready block leaf tree) (places_beside now block leaf tree')
same_tree ready now block leaf tree tree' keeps m =
    elim (cases_eq (m / 64) block) [
      | inl same ↦ entry_in_leaf now block leaf tree' m same ∙ sym (entry_in_leaf ready block leaf tree m same)
      | inr other ↦ entry_in_tree now block leaf tree' m other ∙ keeps m ∙ sym (entry_in_tree ready block leaf tree m other)
    ]

pub keeps_beside : {T : Type 0} (ready now : Bool) (block : ℕ) (leaf leaf' tree tree' : List (Place T)) → (ready ≡ true → now ≡ true) → KeepsPrepared tree tree' → KeepsPrepared (places_beside ready block leaf tree) (places_beside now block leaf' tree')
keeps_beside ready now block leaf leaf' tree tree' goes keeps m on =
    elim (cases_eq (m / 64) block) [
      | inl same ↦
          ap (λ (p : Place _). p.prepared) (in_leaf now block leaf' tree' m same) ∙ goes (sym (ap (λ (p : Place _). p.prepared) (in_leaf ready block leaf tree m same)) ∙ on)
      | inr other ↦
          ap (λ (p : Place _). p.prepared) (in_tree now block leaf' tree' m other) ∙ keeps m (sym (ap (λ (p : Place _). p.prepared) (in_tree ready block leaf tree m other)) ∙ on)
    ]

-- the leaf that comes out of the tree's empty block is empty
pub emptied : {T : Type 0} (block : ℕ) (leaf leaf1 tree tree1 : List (Place T)) → SwapsLeaf tree tree1 (block * 64) leaf leaf1 → ((m : ℕ) → m / 64 ≡ block → entry_at tree m ≡ None) → (k : ℕ) → k < 64 → entry_at leaf1 k ≡ None
emptied block leaf leaf1 tree tree1 back apart k below =
    let first : block * 64 / 64 ≡ block = omega arith in
    let at : (block * 64 + k) / 64 ≡ block * 64 / 64 = omega (arith, below) in
    let slot : k ≡ (block * 64 + k) % 64 = omega (arith, below) in
    ap (entry_at leaf1) slot ∙ back.out (block * 64 + k) at ∙ apart (block * 64 + k) (at ∙ first)

-- the leaf goes back into the tree, and another comes out
module _ {T : Type 0} (ready : Bool) (block n : ℕ) (leaf leaf1 leaf2 tree tree1 tree2 : List (Place T)) (back : SwapsLeaf tree tree1 (block * 64) leaf leaf1) (out : SwapsLeaf tree1 tree2 n leaf1 leaf2) where
  first : block * 64 / 64 ≡ block
  first = omega arith

  -- in between the tree has all entries
  between : (m : ℕ) → entry_at tree1 m ≡ entry_at (places_beside ready block leaf tree) m
  between m =
      elim (cases_eq (m / 64) block) [
        | inl same ↦ back.into m (same ∙ sym first) ∙ sym (entry_in_leaf ready block leaf tree m same)
        | inr other ↦ back.others m (λ e. other (e ∙ first)) ∙ sym (entry_in_tree ready block leaf tree m other)
      ]

  pub entries_moved : KeepsEntries (places_beside ready block leaf tree) (places_beside true (n / 64) leaf2 tree2)
  entries_moved m =
      elim (cases_eq (m / 64) (n / 64)) [
        | inl same ↦ entry_in_leaf true (n / 64) leaf2 tree2 m same ∙ out.out m same ∙ between m
        | inr other ↦ entry_in_tree true (n / 64) leaf2 tree2 m other ∙ out.others m other ∙ between m
      ]

  pub prepared_moved : (ready ≡ true → is_prepared tree (block * 64) ≡ true) → KeepsPrepared tree tree1 → KeepsPrepared tree1 tree2 → KeepsPrepared (places_beside ready block leaf tree) (places_beside true (n / 64) leaf2 tree2)
  prepared_moved room keeps1 keeps2 m on =
      elim (cases_eq (m / 64) (n / 64)) [
        | inl same ↦ ap (λ (p : Place T). p.prepared) (in_leaf true (n / 64) leaf2 tree2 m same)
        | inr other ↦
            ap (λ (p : Place T). p.prepared) (in_tree true (n / 64) leaf2 tree2 m other) ∙ keeps2 m (elim (cases_eq (m / 64) block) [
              | inl here ↦
                  back.prepared (room (sym (ap (λ (p : Place T). p.prepared) (in_leaf ready block leaf tree m here)) ∙ on)) m (here ∙ sym first)
              | inr there ↦ keeps1 m (sym (ap (λ (p : Place T). p.prepared) (in_tree ready block leaf tree m there)) ∙ on)
            ])
      ]

  -- what it leaves in the tree is empty
  pub apart_moved : ((m : ℕ) → m / 64 ≡ block → entry_at tree m ≡ None) → (m : ℕ) → m / 64 ≡ n / 64 → entry_at tree2 m ≡ None
  apart_moved apart m same = out.into m same ∙ emptied block leaf leaf1 tree tree1 back apart (m % 64) (omega arith)

-- with no entry in the tree and none in the leaf there is none
pub none_beside : {T : Type 0} (ready : Bool) (block : ℕ) (leaf tree : List (Place T)) → ((k : ℕ) → entry_at leaf k ≡ None) → ((n : ℕ) → entry_at tree n ≡ None) → (n : ℕ) → entry_at (places_beside ready block leaf tree) n ≡ None
none_beside ready block leaf tree bare_place none n =
    elim (cases_eq (n / 64) block) [
      | inl same ↦ entry_in_leaf ready block leaf tree n same ∙ bare_place (n % 64)
      | inr other ↦ entry_in_tree ready block leaf tree n other ∙ none n
    ]

-- a leaf that is said to be empty is so
pub empty_if : {T : Type 0} (leaf : List (Place T)) (b : Bool) → b ≡ true → MatchBool b ((k : ℕ) → entry_at leaf k ≡ None) ((k : ℕ) × (is_some (entry_at leaf k) ≡ true)) → (k : ℕ) → entry_at leaf k ≡ None
empty_if leaf true e none = none
empty_if leaf false e some = absurd (false≢true e)

-- a write, and then no change
pub then_kept : {T : Type 0} {old mid new : List (Place T)} {n : ℕ} {e : Option (Entry T)} → WritesEntry old mid n e → KeepsEntries mid new → WritesEntry old new n e
then_kept {n = n} writes keeps = record { here = keeps n ∙ writes.here; others = λ j ne. keeps j ∙ writes.others j ne }

-- whether there is an entry in the leaf, and in the tree
pub some_in_leaf : {T : Type 0} (ready : Bool) (block : ℕ) (leaf tree : List (Place T)) (s : ℕ) → s < 64 → is_some (entry_at leaf s) ≡ true → (n : ℕ) × (is_some (entry_at (places_beside ready block leaf tree) n) ≡ true)
some_in_leaf ready block leaf tree s below some =
    let at : (block * 64 + s) / 64 ≡ block = omega (arith, below) in
    let slot : (block * 64 + s) % 64 ≡ s = omega (arith, below) in
    (block * 64 + s, ap is_some (entry_in_leaf ready block leaf tree (block * 64 + s) at ∙ ap (entry_at leaf) slot) ∙ some)

pub empty_beside : {T : Type 0} (ready : Bool) (block : ℕ) (leaf tree : List (Place T)) (b : Bool) → ((k : ℕ) → k < 64 → is_some (entry_at leaf k) ≡ false) → ((n : ℕ) → n / 64 ≡ block → entry_at tree n ≡ None) → MatchBool b ((n : ℕ) → entry_at tree n ≡ None) ((n : ℕ) × (is_some (entry_at tree n) ≡ true)) → MatchBool b ((n : ℕ) → entry_at (places_beside ready block leaf tree) n ≡ None) ((n : ℕ) × (is_some (entry_at (places_beside ready block leaf tree) n) ≡ true))
empty_beside ready block leaf tree true empty apart none = λ n.
    elim (cases_eq (n / 64) block) [
      | inl same ↦ entry_in_leaf ready block leaf tree n same ∙ no_entry (entry_at leaf (n % 64)) (empty (n % 64) (omega arith))
      | inr other ↦ entry_in_tree ready block leaf tree n other ∙ none n
    ]
  where
    no_entry : {X : Type 0} (o : Option X) → is_some o ≡ false → o ≡ None
    no_entry None h = refl
    no_entry (Some x) h = absurd (false≢true (sym h))
empty_beside ready block leaf tree false empty apart some =
    (some.0, ap is_some (entry_in_tree ready block leaf tree some.0 (λ same. false≢true (ap is_some (sym (apart some.0 same)) ∙ some.1))) ∙ some.1)
