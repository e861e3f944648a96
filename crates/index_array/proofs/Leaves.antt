-- A leaf of which one slot is written.
use Rattle.std.proofs.Common.{ℕ, ◌≡◌, ◌≢◌, ◌+◌, ◌^◌, ◌<◌, ◌≤◌, sym, ap, ◌∙◌, subst, arith, refl, List, length, get_or, map, Bool, true, false, not, is_some, Option, Some, None, inl, inr}
use Rattle.std.specs.List.{list_any}
use Rattle.std.specs.Option.{option_map}
use Rattle.std.proofs.Math.ListN.{set}
use Rattle.std.proofs.Math.ListN as listn
use Rattle.std.proofs.lemmas.List.{get_or-set_same, get_or-set_other, length-set, set-get_or, get_or_past, length-map, ext_get_or}
use Rattle.std.proofs.lemmas.Bool.{cases_eq, cases_lt, false≢true}
use Rattle.index_array.specs.Words.{has_bit, word_of, bit_of}
use Rattle.index_array.specs.Place.{Place, Entry, bare_place, place_at, entry_at, value_at, is_prepared, is_marked, entry_with, with_mark, carries, WritesEntry, KeepsPrepared}
use Rattle.index_array.specs.Tree.{Tree, marks_of, leaf_place, places_of, slot_places, IsNode}
use Rattle.index_array.specs.declared.bits.Sought.{Sought}
use Rattle.index_array.specs.declared.bits.Sought.TheVariants.{Present, Gap, Mark}
use Rattle.index_array.specs.declared.bits.Words.{Words}
use Rattle.index_array.specs.declared.bits.SlotBits.{SlotBits}
use Rattle.index_array.proofs.OneBit.{has_bit-zero}
use Rattle.index_array.proofs.Changes.{is_mark}
use Rattle.index_array.proofs.Blocks.{slot_leaf, place_leaf, leaf_bit, length_places, or_false}

-- mark m of a slot is a bit of word m
marks_at : (w : Words) (k m : ℕ) → get_or (marks_of w k) m false ≡ has_bit (get_or w.marks m 0) k
marks_at w k m =
    ap (λ d. get_or (map (λ x. has_bit x k) w.marks) m d) (sym (has_bit-zero k)) ∙ listn.get_or-map (λ x. has_bit x k) w.marks m 0

-- the marks of a slot by the bits
marks_are : (w : Words) (k : ℕ) (ms : List Bool) → length w.marks ≡ length ms → ((m : ℕ) → has_bit (get_or w.marks m 0) k ≡ get_or ms m false) → marks_of w k ≡ ms
marks_are w k ms n each =
    ext_get_or false (marks_of w k) ms (length-map w.marks (λ x. has_bit x k) ∙ n) (λ m b. marks_at w k m ∙ each m)

-- a value with marks is an entry
some_with : {X : Type 0} (o : Option X) (ms : List Bool) → is_some (entry_with o ms) ≡ is_some o
some_with None ms = refl
some_with (Some x) ms = refl

-- to change a mark of an entry
mark_with : {X : Type 0} (o : Option X) (ms : List Bool) (m : ℕ) (on : Bool) → entry_with o (set ms m on) ≡ with_mark m on (entry_with o ms)
mark_with None ms m on = refl
mark_with (Some x) ms m on = refl

-- what a write to a slot of a leaf is to the leaf
pub record SlotWritten {T : Type 0} (w w' : Words) (h : ℕ) (es es' : List (Option T)) (cs : List (Option (Tree T))) (i : ℕ) (e : Option (Entry T)) : Type 0 where
  pub node : IsNode w' h es' cs
  pub whole : length (places_of w' h es' cs) ≡ length (places_of w h es cs)
  pub writes : WritesEntry (places_of w h es cs) (places_of w' h es' cs) i e
  pub keeps : KeepsPrepared (places_of w h es cs) (places_of w' h es' cs)

-- a leaf of which one slot's entry and bits are replaced
module _ {T : Type 0} (w w' : Words) (h : ℕ) (es : List (Option T)) (cs : List (Option (Tree T))) (node : IsNode w h es cs) (z : h ≡ 0) (i : ℕ) (b : i < 64) (v : Option T) (bits : SlotBits) (marks : length w.marks ≡ 3) (marks' : length w'.marks ≡ 3) (three : length bits.marks ≡ 3) (present : bits.present ≡ is_some v) (gap : bits.gap ≡ not (is_some v)) (unmarked : is_some v ≡ false → (m : ℕ) → get_or bits.marks m false ≡ false) (same : (q : Sought) → has_bit (word_of q w') i ≡ bit_of q bits) (others : (q : Sought) (j : ℕ) → j < 64 → j ≢ i → has_bit (word_of q w') j ≡ has_bit (word_of q w) j) where
  in_leaf : i < length es
  in_leaf = rw (node.leaf z).0 b

  new_marks : marks_of w' i ≡ bits.marks
  new_marks = marks_are w' i bits.marks (marks' ∙ sym three) (λ m. same (Mark m))

  old_marks : (k : ℕ) → k < 64 → k ≢ i → marks_of w' k ≡ marks_of w k
  old_marks k below ne = marks_are w' k (marks_of w k) (marks' ∙ sym (length-map w.marks (λ x. has_bit x k) ∙ marks)) (λ m. others (Mark m) k below ne ∙ sym (marks_at w k m))

  new_slot : leaf_place w' i (get_or (set es i v) i None) ≡ record { prepared = true; entry = entry_with v bits.marks }
  new_slot = ap (leaf_place w' i) (get_or-set_same es i v None in_leaf) ∙ ap (λ ms. record { prepared = true; entry = entry_with v ms }) new_marks

  old_slot : (k : ℕ) → k < 64 → k ≢ i → leaf_place w' k (get_or (set es i v) k None) ≡ leaf_place w k (get_or es k None)
  old_slot k below ne = ap (leaf_place w' k) (get_or-set_other es i k v None ne) ∙ ap (λ ms. record { prepared = true; entry = entry_with (get_or es k None) ms }) (old_marks k below ne)

  entry_bits : (q : Sought) → bit_of q bits ≡ carries q (record { prepared = true; entry = entry_with v bits.marks })
  entry_bits Present = present ∙ sym (some_with v bits.marks)
  entry_bits Gap = gap ∙ ap not (sym (some_with v bits.marks))
  entry_bits (Mark m) = marked v unmarked
    where
      marked : (o : Option T) → (is_some o ≡ false → (n : ℕ) → get_or bits.marks n false ≡ false) → get_or bits.marks m false ≡ is_marked m (entry_with o bits.marks)
      marked None none = none refl m
      marked (Some x) none = refl

  slot_any : (q : Sought) (k : ℕ) → list_any (carries q) (slot_places w' h (set es i v) cs k) ≡ carries q (leaf_place w' k (get_or (set es i v) k None))
  slot_any q k = ap (list_any (carries q)) (slot_leaf w' h (set es i v) cs k z) ∙ or_false _

  leaf_node : IsNode w' h (set es i v) cs
  leaf_node =
      record {
        low = node.low;
        leaf = λ _. (length-set es i v ∙ (node.leaf z).0, (node.leaf z).1);
        inner = λ up. absurd (omega (arith, z, up));
        children = node.children;
        words = λ q k below.
            elim (cases_eq k i) [
              | inl at ↦
                  ap (has_bit (word_of q w')) at ∙ same q ∙ entry_bits q ∙ sym (slot_any q k ∙ ap (λ n. carries q (leaf_place w' n (get_or (set es i v) n None))) at ∙ ap (carries q) new_slot)
              | inr ne ↦
                  others q k below ne ∙ node.words q k below ∙ ap (list_any (carries q)) (slot_leaf w h es cs k z) ∙ or_false _ ∙ sym (slot_any q k ∙ ap (carries q) (old_slot k below ne))
            ];
      }

  past : (u : Words) (xs : List (Option T)) → IsNode u h xs cs → (j : ℕ) → 64 ≤ j → place_at (places_of u h xs cs) j ≡ bare_place
  past u xs is j far = get_or_past (places_of u h xs cs) j bare_place (rw (length_places u h xs cs is, z) far)

  pub leaf_written : SlotWritten w w' h es (set es i v) cs i (entry_with v bits.marks)
  leaf_written =
      record {
        node = leaf_node;
        whole = length_places w' h (set es i v) cs leaf_node ∙ sym (length_places w h es cs node);
        writes = record {
          here = ap (λ (p : Place T). p.entry) (place_leaf w' h (set es i v) cs leaf_node z i b ∙ new_slot);
          others = λ j ne.
              elim (cases_lt j 64) [
                | inl below ↦
                    ap (λ (p : Place T). p.entry) (place_leaf w' h (set es i v) cs leaf_node z j below ∙ old_slot j below ne ∙ sym (place_leaf w h es cs node z j below))
                | inr far ↦ ap (λ (p : Place T). p.entry) (past w' (set es i v) leaf_node j far ∙ sym (past w es node j far))
              ];
        };
        keeps = λ j on.
            elim (cases_lt j 64) [
              | inl below ↦ ap (λ (p : Place T). p.prepared) (place_leaf w' h (set es i v) cs leaf_node z j below)
              | inr far ↦ absurd (false≢true (sym (ap (λ (p : Place T). p.prepared) (past w es node j far)) ∙ on))
            ];
      }

-- an index of a leaf
pub leaf_index : {n h : ℕ} → 0 ≡ h → n < 64 ^ (h + 1) → n < 64
leaf_index {n} e b = subst (λ h. n < 64 ^ (h + 1)) (sym e) b

-- the value of a leaf's slot
pub leaf_value : {T : Type 0} (w : Words) (h : ℕ) (es : List (Option T)) (cs : List (Option (Tree T))) → IsNode w h es cs → h ≡ 0 → (i : ℕ) → i < 64 → value_at (places_of w h es cs) i ≡ get_or es i None
leaf_value w h es cs node z i b =
    ap (λ (p : Place _). option_map (λ e. e.value) p.entry) (place_leaf w h es cs node z i b) ∙ value_with (get_or es i None) (marks_of w i)
  where
    value_with : {X : Type 0} (o : Option X) (ms : List Bool) → option_map (λ (e : Entry X). e.value) (entry_with o ms) ≡ o
    value_with None ms = refl
    value_with (Some x) ms = refl

-- room is prepared at each index of a leaf
pub leaf_prepared : {T : Type 0} (w : Words) (h : ℕ) (es : List (Option T)) (cs : List (Option (Tree T))) → IsNode w h es cs → h ≡ 0 → (i : ℕ) → i < 64 → is_prepared (places_of w h es cs) i ≡ true
leaf_prepared w h es cs node z i b = ap (λ (p : Place _). p.prepared) (place_leaf w h es cs node z i b)

-- a leaf of which one mark of an entry is set or cleared
module _ {T : Type 0} (w w' : Words) (h : ℕ) (es : List (Option T)) (cs : List (Option (Tree T))) (node : IsNode w h es cs) (z : h ≡ 0) (i : ℕ) (b : i < 64) (m : ℕ) (three : m < 3) (on : Bool) (n : length w.marks ≡ 3) (n' : length w'.marks ≡ 3) (present : has_bit w.present i ≡ true) (same : has_bit (word_of (Mark m) w') i ≡ on) (others : (j : ℕ) → j < 64 → j ≢ i → has_bit (word_of (Mark m) w') j ≡ has_bit (word_of (Mark m) w) j) (rest : (s : Sought) → s ≢ Mark m → word_of s w' ≡ word_of s w) where
  -- the bits of the slot afterwards
  abbrev new_bits : SlotBits
  new_bits = record { present = has_bit (word_of Present w) i; gap = has_bit (word_of Gap w) i; marks = set (marks_of w i) m on }

  long : length (marks_of w i) ≡ 3
  long = length-map w.marks (λ x. has_bit x i) ∙ n

  kept_bit : (q : Sought) → q ≢ Mark m → has_bit (word_of q w) i ≡ bit_of q new_bits
  kept_bit Present ne = refl
  kept_bit Gap ne = refl
  kept_bit (Mark k) ne = sym (get_or-set_other (marks_of w i) m k on false (λ e. ne (ap Mark e)) ∙ marks_at w i k)

  marked_bit : (q : Sought) → has_bit (word_of q w') i ≡ bit_of q new_bits
  marked_bit q =
      elim (is_mark q m) [
        | inl e ↦
            subst (λ s. has_bit (word_of s w') i ≡ bit_of s new_bits) (sym e) (same ∙ sym (get_or-set_same (marks_of w i) m on false (rw long three)))
        | inr ne ↦ ap (λ v. has_bit v i) (rest q ne) ∙ kept_bit q ne
      ]

  other_bits : (q : Sought) (j : ℕ) → j < 64 → j ≢ i → has_bit (word_of q w') j ≡ has_bit (word_of q w) j
  other_bits q j below ne =
      elim (is_mark q m) [
        | inl e ↦ subst (λ s. has_bit (word_of s w') j ≡ has_bit (word_of s w) j) (sym e) (others j below ne)
        | inr other ↦ ap (λ v. has_bit v j) (rest q other)
      ]

  pub leaf_marked : SlotWritten w w' h es es cs i (with_mark m on (entry_at (places_of w h es cs) i))
  leaf_marked =
      let v : Option T = get_or es i None in
      let entry : entry_at (places_of w h es cs) i ≡ entry_with v (marks_of w i) = ap (λ (p : Place T). p.entry) (place_leaf w h es cs node z i b) in
      let there : is_some v ≡ is_some (entry_at (places_of w h es cs) i) = sym (ap is_some entry ∙ some_with v (marks_of w i)) in
      let here : has_bit w.present i ≡ is_some v = sym (leaf_bit w h es cs node z Present i b) ∙ sym there in
      let gap : has_bit (word_of Gap w) i ≡ not (is_some v) = sym (leaf_bit w h es cs node z Gap i b) ∙ ap not (sym there) in
      let all = leaf_written w w' h es cs node z i b v new_bits n n' (length-set (marks_of w i) m on ∙ long) here gap (λ off. absurd (false≢true (sym off ∙ sym here ∙ present))) marked_bit other_bits in
      let is : entry_with v (set (marks_of w i) m on) ≡ with_mark m on (entry_at (places_of w h es cs) i) = mark_with v (marks_of w i) m on ∙ ap (with_mark m on) (sym entry) in
      subst (λ xs. SlotWritten w w' h es xs cs i (with_mark m on (entry_at (places_of w h es cs) i))) (set-get_or es i None) (subst (λ e. SlotWritten w w' h es (set es i v) cs i e) is all)
