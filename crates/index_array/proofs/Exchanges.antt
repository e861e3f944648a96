-- The 64 indexes of one leaf, and a leaf that is exchanged for another.
use Rattle.std.proofs.Common.{ℕ, ◌≡◌, ◌≢◌, ◌+◌, ◌*◌, ◌/◌, ◌%◌, ◌^◌, ◌<◌, ◌≤◌, sym, ap, ◌∙◌, arith, refl, List, length, get_or, true, Option, Some, None, inl, inr}
use Rattle.std.proofs.Math.ListN.{set}
use Rattle.std.proofs.lemmas.List.{get_or_past}
use Rattle.std.proofs.lemmas.Bool.{cases_lt, false≢true}
use Rattle.std.specs.Prelude.{MatchOption}
use Rattle.index_array.specs.Place.{Place, bare_place, place_at, entry_at, is_prepared, KeepsPrepared, HasRoom, SwapsLeaf}
use Rattle.index_array.specs.Tree.{Tree, places_of, IsNode, IsInChild, IsInLeaf}
use Rattle.index_array.specs.declared.bits.Words.{Words}
use Rattle.index_array.proofs.Powers.{each_height}
use Rattle.index_array.proofs.Blocks.{place_child, place_empty}
use Rattle.index_array.proofs.Ways.{Way, way_within, way_at}
use Rattle.index_array.proofs.Changes.{place_set, set_one}

-- two indexes of one leaf are below one slot of each node
same_slot : (h : ℕ) → h < 4 → (i j : ℕ) → 0 < h → j / 64 ≡ i / 64 → j / 64 ^ h ≡ i / 64 ^ h
same_slot = each_height (λ h. (i j : ℕ) → 0 < h → j / 64 ≡ i / 64 → j / 64 ^ h ≡ i / 64 ^ h) (λ i j up e. absurd (omega (arith, up))) (λ i j up e. e) (λ i j up e. two i j e) (λ i j up e. three i j e)
  where
    two : (i j : ℕ) → j / 64 ≡ i / 64 → j / 4096 ≡ i / 4096
    two i j e = omega (arith, e)

    three : (i j : ℕ) → j / 64 ≡ i / 64 → j / 262144 ≡ i / 262144
    three i j e = omega (arith, e)

-- and in one leaf below it
same_leaf : (h : ℕ) → h < 4 → (i j : ℕ) → 0 < h → j / 64 ≡ i / 64 → j % 64 ^ h / 64 ≡ i % 64 ^ h / 64
same_leaf = each_height (λ h. (i j : ℕ) → 0 < h → j / 64 ≡ i / 64 → j % 64 ^ h / 64 ≡ i % 64 ^ h / 64) (λ i j up e. absurd (omega (arith, up))) (λ i j up e. one i j) (λ i j up e. two i j e) (λ i j up e. three i j e)
  where
    one : (i j : ℕ) → j % 64 / 64 ≡ i % 64 / 64
    one i j = omega arith

    two : (i j : ℕ) → j / 64 ≡ i / 64 → j % 4096 / 64 ≡ i % 4096 / 64
    two i j e = omega (arith, e)

    three : (i j : ℕ) → j / 64 ≡ i / 64 → j % 262144 / 64 ≡ i % 262144 / 64
    three i j e = omega (arith, e)

-- two indexes below one slot are in one leaf where they are so below it
leaf_again : (h : ℕ) → h < 4 → (i j : ℕ) → 0 < h → j / 64 ^ h ≡ i / 64 ^ h → j % 64 ^ h / 64 ≡ i % 64 ^ h / 64 → j / 64 ≡ i / 64
leaf_again = each_height (λ h. (i j : ℕ) → 0 < h → j / 64 ^ h ≡ i / 64 ^ h → j % 64 ^ h / 64 ≡ i % 64 ^ h / 64 → j / 64 ≡ i / 64) (λ i j up e f. absurd (omega (arith, up))) (λ i j up e f. e) (λ i j up e f. two i j e f) (λ i j up e f. three i j e f)
  where
    two : (i j : ℕ) → j / 4096 ≡ i / 4096 → j % 4096 / 64 ≡ i % 4096 / 64 → j / 64 ≡ i / 64
    two i j e f = omega (arith, e, f)

    three : (i j : ℕ) → j / 262144 ≡ i / 262144 → j % 262144 / 64 ≡ i % 262144 / 64 → j / 64 ≡ i / 64
    three i j e f = omega (arith, e, f)

-- the slot of the leaf is the same below it
leaf_slot : (h : ℕ) → h < 4 → (j : ℕ) → 0 < h → j % 64 ^ h % 64 ≡ j % 64
leaf_slot = each_height (λ h. (j : ℕ) → 0 < h → j % 64 ^ h % 64 ≡ j % 64) (λ j up. absurd (omega (arith, up))) (λ j up. one j) (λ j up. two j) (λ j up. three j)
  where
    one : (j : ℕ) → j % 64 % 64 ≡ j % 64
    one j = omega arith

    two : (j : ℕ) → j % 4096 % 64 ≡ j % 64
    two j = omega arith

    three : (j : ℕ) → j % 262144 % 64 ≡ j % 64
    three j = omega arith

-- so an index by its leaf and its slot
by_leaf : (x y z : ℕ) → x / 64 ≡ y / 64 → x % 64 ≡ z % 64 → x ≡ y / 64 * 64 + z % 64
by_leaf x y z e f = omega (arith, e, f)

-- the leaf of an index is one of the child that the index is below
module _ {T : Type 0} (w : Words) (h : ℕ) (es : List (Option T)) (cs : List (Option (Tree T))) (node : IsNode w h es cs) (i k : ℕ) (b : Tree T) (way : Way h cs i k (Some b)) where
  pub slot_in_child : i % 64 ^ h % 64 ≡ i % 64
  slot_in_child = leaf_slot h node.low i way.up

  pub leaf_in_child : (j : ℕ) → j / 64 ≡ i / 64 → place_at (places_of w h es cs) j ≡ place_at b.places (i % 64 ^ h / 64 * 64 + j % 64)
  leaf_in_child j e =
      place_child w h es cs node way.up j b (ap (λ n. get_or cs n None) (same_slot h node.low i j way.up e) ∙ way.slot)
      ∙ ap (place_at b.places) (by_leaf (j % 64 ^ h) (i % 64 ^ h) j (same_leaf h node.low i j way.up e) (leaf_slot h node.low j way.up))

-- and its leaf is that of the index in the child
leaf_of_child : {T : Type 0} (ps : List (Place T)) (i : ℕ) (child : Tree T) (r : ℕ) (leaf : Tree T) (k : ℕ) → IsInChild ps i child r → IsInLeaf child.places r leaf k → IsInLeaf ps i leaf k
leaf_of_child ps i child r leaf k up low = record {
  place = up.place ∙ low.place;
  slot = low.slot ∙ up.slot;
  whole = λ j e. up.leaf j e ∙ low.whole (r / 64 * 64 + j % 64) (omega arith) ∙ ap (place_at leaf.places) (let same : (r / 64 * 64 + j % 64) % 64 ≡ j % 64 = omega arith in same);
  prepared = ap (λ (p : Place _). p.prepared) up.place ∙ low.prepared;
}

-- so the leaf that the child answers is the node's
pub leaf_through : {X T : Type 0} (ps : List (Place T)) (i : ℕ) (child : Tree T) (r : ℕ) → IsInChild ps i child r → (o : Option (X × ℕ)) (tree : X → Tree T)
    → MatchOption o (place_at child.places r ≡ bare_place) (λ p. IsInLeaf child.places r (tree p.0) p.1) → MatchOption o (place_at ps i ≡ bare_place) (λ p. IsInLeaf ps i (tree p.0) p.1)
leaf_through ps i child r up None tree none = up.place ∙ none
leaf_through ps i child r up (Some p) tree low = leaf_of_child ps i child r (tree p.0) p.1 up low

-- past the end of a node are whole leaves
past_leaf : (h : ℕ) → h < 4 → (i j : ℕ) → 64 ^ (h + 1) ≤ i → j / 64 ≡ i / 64 → 64 ^ (h + 1) ≤ j
past_leaf = each_height (λ h. (i j : ℕ) → 64 ^ (h + 1) ≤ i → j / 64 ≡ i / 64 → 64 ^ (h + 1) ≤ j) (λ i j. one i j) (λ i j. two i j) (λ i j. three i j) (λ i j. four i j)
  where
    one : (i j : ℕ) → 64 ≤ i → j / 64 ≡ i / 64 → 64 ≤ j
    one i j b e = omega (arith, b, e)

    two : (i j : ℕ) → 4096 ≤ i → j / 64 ≡ i / 64 → 4096 ≤ j
    two i j b e = omega (arith, b, e)

    three : (i j : ℕ) → 262144 ≤ i → j / 64 ≡ i / 64 → 262144 ≤ j
    three i j b e = omega (arith, b, e)

    four : (i j : ℕ) → 16777216 ≤ i → j / 64 ≡ i / 64 → 16777216 ≤ j
    four i j b e = omega (arith, b, e)

-- where there is no leaf, an empty one is exchanged for nothing
pub swaps_nothing : {T : Type 0} (ps leaf : List (Place T)) (i : ℕ) → ((j : ℕ) → j / 64 ≡ i / 64 → place_at ps j ≡ bare_place) → HasRoom ps i leaf → SwapsLeaf ps ps i leaf leaf
swaps_nothing ps leaf i none room =
    let empty = room (ap (λ (p : Place _). p.prepared) (none i refl)) in
    record {
      into = λ j same. ap (λ (p : Place _). p.entry) (none j same) ∙ sym (empty (j % 64) (omega arith));
      out = λ j same. empty (j % 64) (omega arith) ∙ sym (ap (λ (p : Place _). p.entry) (none j same));
      others = λ j ne. refl;
      prepared = λ on. absurd (false≢true (sym (ap (λ (p : Place _). p.prepared) (none i refl)) ∙ on));
    }

-- past the end of a node there is no leaf
pub swaps_past : {T : Type 0} (h : ℕ) → h < 4 → (ps leaf : List (Place T)) (i : ℕ) → length ps ≡ 64 ^ (h + 1) → 64 ^ (h + 1) ≤ i → HasRoom ps i leaf → SwapsLeaf ps ps i leaf leaf
swaps_past h low ps leaf i whole past room =
    swaps_nothing ps leaf i (λ j same. get_or_past ps j bare_place (omega (arith, whole, past_leaf h low i j past same))) room

-- two leaves
module _ {T : Type 0} (ps qs : List (Place T)) (i : ℕ) (below : i < 64) (p64 : length ps ≡ 64) (q64 : length qs ≡ 64) (there : (j : ℕ) → j < 64 → is_prepared qs j ≡ true) where
  past_both : (j : ℕ) → 64 ≤ j → place_at qs j ≡ place_at ps j
  past_both j far = get_or_past qs j bare_place (omega (arith, q64, far)) ∙ sym (get_or_past ps j bare_place (omega (arith, p64, far)))

  pub swaps_leaves : SwapsLeaf ps qs i qs ps
  swaps_leaves = record {
    into = λ j same. ap (entry_at qs) (omega (arith, same, below));
    out = λ j same. ap (entry_at ps) (omega (arith, same, below));
    others = λ j ne. ap (λ (p : Place T). p.entry) (past_both j (far j ne));
    prepared = λ on j same. there j (omega (arith, same, below));
  }
    where
      far : (j : ℕ) → j / 64 ≢ i / 64 → 64 ≤ j
      far j ne = elim (cases_lt j 64) [ inl near ↦ absurd (ne (omega (arith, near, below))) | inr past ↦ past ]

  pub keeps_leaves : KeepsPrepared ps qs
  keeps_leaves j on =
      elim (cases_lt j 64) [
        | inl near ↦ there j near
        | inr far ↦ ap (λ (p : Place T). p.prepared) (past_both j far) ∙ on
      ]

-- an inner node with no child for the index
pub swaps_empty : {T : Type 0} (w : Words) (h : ℕ) (es : List (Option T)) (cs : List (Option (Tree T))) → IsNode w h es cs → (i k : ℕ) → Way h cs i k None → (leaf : List (Place T)) → HasRoom (places_of w h es cs) i leaf → SwapsLeaf (places_of w h es cs) (places_of w h es cs) i leaf leaf
swaps_empty w h es cs node i k way leaf room =
    swaps_nothing (places_of w h es cs) leaf i (λ j same. place_empty w h es cs node way.up j (ap (λ n. get_or cs n None) (same_slot h node.low i j way.up same) ∙ way.slot)) room

-- an inner node whose child has exchanged the leaf
module _ {T : Type 0} (w w' : Words) (h : ℕ) (es : List (Option T)) (cs : List (Option (Tree T))) (node : IsNode w h es cs) (i k : ℕ) (b : Tree T) (way : Way h cs i k (Some b)) (y : Tree T) (new : IsNode w' h es (set cs k (Some y))) (given taken : List (Place T)) (swaps : SwapsLeaf b.places y.places (i % 64 ^ h) given taken) where
  is_now : (j : ℕ) → j / 64 ≡ i / 64 → place_at (places_of w' h es (set cs k (Some y))) j ≡ place_at y.places (j % 64 ^ h)
  is_now j same = place_set w w' h es cs node way.up k (way_within w h es cs node i k (Some b) way) (Some y) new j (same_slot h node.low i j way.up same ∙ sym way.at)

  was : (j : ℕ) → j / 64 ≡ i / 64 → place_at (places_of w h es cs) j ≡ place_at b.places (j % 64 ^ h)
  was j same = place_child w h es cs node way.up j b (ap (λ n. get_or cs n None) (same_slot h node.low i j way.up same) ∙ way.slot)

  pub swaps_child : SwapsLeaf (places_of w h es cs) (places_of w' h es (set cs k (Some y))) i given taken
  swaps_child = record {
    into = λ j same. ap (λ (p : Place T). p.entry) (is_now j same) ∙ swaps.into (j % 64 ^ h) (same_leaf h node.low i j way.up same) ∙ ap (entry_at given) (leaf_slot h node.low j way.up);
    out = λ j same. ap (entry_at taken) (sym (leaf_slot h node.low j way.up)) ∙ swaps.out (j % 64 ^ h) (same_leaf h node.low i j way.up same) ∙ sym (ap (λ (p : Place T). p.entry) (was j same));
    others = λ j ne. set_one w w' h es cs node way.up k (way_within w h es cs node i k (Some b) way) (Some y) new (λ p q. q.entry ≡ p.entry) (λ p. refl) (Some b) (way_at h cs i k (Some b) way) j (λ inside. swaps.others (j % 64 ^ h) (λ same. ne (leaf_again h node.low i j way.up (inside ∙ way.at) same)));
    prepared = λ on j same. ap (λ (p : Place T). p.prepared) (is_now j same) ∙ swaps.prepared (ap (λ (p : Place T). p.prepared) (sym (was i refl)) ∙ on) (j % 64 ^ h) (same_leaf h node.low i j way.up same);
  }
