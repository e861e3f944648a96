-- The way down from an inner node: the slot of an index, and what stands there.
use Rattle.std.proofs.Common.{ℕ, ◌≡◌, ◌+◌, ◌/◌, ◌%◌, ◌^◌, ◌<◌, sym, ap, ◌∙◌, subst, List, get_or, Option, Some, None}
use Rattle.std.proofs.Math.Nat.{mod-lt}
use Rattle.index_array.specs.Place.{bare_place, place_at}
use Rattle.index_array.specs.Tree.{Tree, places_of, IsNode}
use Rattle.index_array.specs.declared.bits.Words.{Words}
use Rattle.index_array.proofs.Powers.{slot_below, pow_pos_64}
use Rattle.index_array.proofs.Blocks.{read_slot, place_child, place_empty}

-- a node as the tree that it is seen as
abbrev pub tree_of : {T : Type 0} → Words → ℕ → List (Option T) → List (Option (Tree T)) → Tree T
tree_of w h es cs = record { height = h; places = places_of w h es cs }

-- in a node of height h with these children, index i is below slot k, and o stands there
pub record Way {T : Type 0} (h : ℕ) (cs : List (Option (Tree T))) (i k : ℕ) (o : Option (Tree T)) : Type 0 where
  pub up : 0 < h
  pub covered : i < 64 ^ (h + 1)
  pub at : k ≡ i / 64 ^ h
  pub slot : get_or cs (i / 64 ^ h) None ≡ o

pub way_at : {T : Type 0} (h : ℕ) (cs : List (Option (Tree T))) (i k : ℕ) (o : Option (Tree T)) → Way h cs i k o → get_or cs k None ≡ o
way_at h cs i k o way = ap (λ n. get_or cs n None) way.at ∙ way.slot

module _ {T : Type 0} (w : Words) (h : ℕ) (es : List (Option T)) (cs : List (Option (Tree T))) (node : IsNode w h es cs) where
  -- what the code reads at the slot
  pub way : (t : Tree T) → tree_of w h es cs ≡ t → 0 < h → (i k : ℕ) → i < 64 ^ (t.height + 1) → k ≡ i / 64 ^ h → (x o : Option (Tree T)) → x ≡ get_or cs k x → x ≡ o → Way h cs i k o
  way t seen up i k below at x o read is =
      let covered : i < 64 ^ (h + 1) = subst (λ n. i < 64 ^ (n + 1)) (sym (ap (λ v. v.height) seen)) below in
      record {
        up = up;
        covered = covered;
        at = at;
        slot = read_slot w h es cs node up (i / 64 ^ h) (slot_below h i node.low covered) x o (subst (λ n. x ≡ get_or cs n x) at read) is;
      }

  pub way_within : (i k : ℕ) (o : Option (Tree T)) → Way h cs i k o → k < 64
  way_within i k o way = rw way.at (slot_below h i node.low way.covered)

  -- the place of the index
  pub way_child : (i k : ℕ) (b : Tree T) → Way h cs i k (Some b) → place_at (places_of w h es cs) i ≡ place_at b.places (i % 64 ^ h)
  way_child i k b way = place_child w h es cs node way.up i b way.slot

  pub way_empty : (i k : ℕ) → Way h cs i k None → place_at (places_of w h es cs) i ≡ bare_place
  way_empty i k way = place_empty w h es cs node way.up i way.slot

  -- the rest of the index stands in the child
  pub way_rest : (i k : ℕ) (b : Tree T) → Way h cs i k (Some b) → (kid : Tree T) → kid ≡ b → (r : ℕ) → r ≡ i % 64 ^ h → r < 64 ^ (kid.height + 1)
  way_rest i k b way kid is r rest = rw (is, rest, (node.children (i / 64 ^ h) b way.slot).height) (mod-lt i (pow_pos_64 h node.low))
