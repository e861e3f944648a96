-- A node, seen as the places of the indexes below it.
use Rattle.std.specs.Prelude.{ℕ, zero, suc, ◌≡◌, ◌+◌, ◌*◌, ◌/◌, ◌%◌, ◌^◌, ◌<◌, Bool, true, Option, Some, None, List, [], ◌∷◌, ◌++◌, length, replicate, map, slice_index_or, if◌then◌else◌}
use Rattle.std.specs.List.{flat_map, list_any}
use Rattle.std.specs.Option.{option_map}
use Rattle.std.proofs.Common.{Box}
use Rattle.std.specs.declared.alloc.Global.{Global}
use Rattle.index_array.specs.Words.{has_bit, word_of}
use Rattle.index_array.specs.Place.{Place, bare_place, place_at, entry_at, is_prepared, entry_with, carries, KeepsEntries, KeepsPrepared}
use Rattle.index_array.specs.declared.bits.Sought.{Sought}
use Rattle.index_array.specs.declared.bits.Words.{Words}

-- a node as its height and the place at each index below it
pub record Tree (T : Type 0) : Type 0 where
  pub height : ℕ
  pub places : List (Place T)

-- the children of an inner node as trees, where `tree` says what tree a child is
abbrev pub kids : {X T : Type 0} → (X → Tree T) → List (Option (Box X Global)) → List (Option (Tree T))
kids tree cs = map (option_map (λ b. tree b.value)) cs

-- the marks of slot k
abbrev pub marks_of : Words → ℕ → List Bool
marks_of w k = map (λ x. has_bit x k) w.marks

-- slot k of a leaf
abbrev pub leaf_place : {T : Type 0} → Words → ℕ → Option T → Place T
leaf_place w k o = record { prepared = true; entry = entry_with o (marks_of w k) }

-- the slots of a leaf, from slot k on
abbrev pub leaf_places : {T : Type 0} → Words → ℕ → List (Option T) → List (Place T)
leaf_places w k [] = []
leaf_places w k (o ∷ os) = leaf_place w k o ∷ leaf_places w (suc k) os

-- what stands in the slots of a leaf, from slot k on: a value counts where its bit is set
abbrev pub slots_from : ℕ → ℕ → List ℕ → List (Option ℕ)
slots_from present k [] = []
slots_from present k (v ∷ vs) = (if has_bit present k then Some v else None) ∷ slots_from present (suc k) vs

-- the places below a slot of an inner node of height h
abbrev pub below : {T : Type 0} → ℕ → Option (Tree T) → List (Place T)
below h None = replicate (64 ^ h) bare_place
below h (Some b) = b.places

-- the places of a node: a leaf has entries, an inner node children
abbrev pub places_of : {T : Type 0} → Words → ℕ → List (Option T) → List (Option (Tree T)) → List (Place T)
places_of w h es cs = leaf_places w 0 es ++ flat_map (below h) cs

-- the places of one slot, whatever the height
abbrev pub slot_places : {T : Type 0} → Words → ℕ → List (Option T) → List (Option (Tree T)) → ℕ → List (Place T)
slot_places w zero es cs k = leaf_place w k (slice_index_or es k None) ∷ []
slot_places w (suc h) es cs k = below (suc h) (slice_index_or cs k None)

-- a child of a node of height h has the next lower height and 64 ^ h places
pub record IsChildNode {T : Type 0} (h : ℕ) (t : Tree T) : Type 0 where
  pub height : t.height + 1 ≡ h
  pub whole : length t.places ≡ 64 ^ h

-- what is at index i of these places is at index r of a child, and so is the rest of its leaf
pub record IsInChild {T : Type 0} (ps : List (Place T)) (i : ℕ) (child : Tree T) (r : ℕ) : Type 0 where
  pub place : place_at ps i ≡ place_at child.places r
  pub covered : r < 64 ^ (child.height + 1)
  pub slot : r % 64 ≡ i % 64
  pub leaf : (j : ℕ) → j / 64 ≡ i / 64 → place_at ps j ≡ place_at child.places (r / 64 * 64 + j % 64)

-- what is at index i of these places is in slot k of a leaf, and so is the rest of its 64
pub record IsInLeaf {T : Type 0} (ps : List (Place T)) (i : ℕ) (leaf : Tree T) (k : ℕ) : Type 0 where
  pub place : place_at ps i ≡ place_at leaf.places k
  pub slot : k ≡ i % 64
  pub whole : (j : ℕ) → j / 64 ≡ i / 64 → place_at ps j ≡ place_at leaf.places (j % 64)
  pub prepared : is_prepared ps i ≡ true

-- a node of this height with no entry
pub record IsNew {T : Type 0} (h : ℕ) (t : Tree T) : Type 0 where
  pub height : t.height ≡ h
  pub whole : length t.places ≡ 64 ^ (h + 1)
  pub empty : (j : ℕ) → entry_at t.places j ≡ None

-- what is true of every node: each bit of each word says whether some place of its slot is what is sought
pub record IsNode {T : Type 0} (w : Words) (h : ℕ) (es : List (Option T)) (cs : List (Option (Tree T))) : Type 0 where
  pub low : h < 4
  pub leaf : h ≡ 0 → (length es ≡ 64) × (cs ≡ [])
  pub inner : 0 < h → (length cs ≡ 64) × (es ≡ [])
  pub children : (k : ℕ) (b : Tree T) → slice_index_or cs k None ≡ Some b → IsChildNode h b
  pub words : (s : Sought) (k : ℕ) → k < 64 → has_bit (word_of s w) k ≡ list_any (carries s) (slot_places w h es cs k)

-- a node of this height, of at most four levels, with a place at each index below it
pub record IsTop {T : Type 0} (h : ℕ) (t : Tree T) : Type 0 where
  pub low : h < 4
  pub height : t.height ≡ h
  pub whole : length t.places ≡ 64 ^ (h + 1)

-- what a call that makes nodes does: a node of this height, and the same entries
pub record Regrown {T : Type 0} (h : ℕ) (old new : Tree T) : Type 0 where
  pub top : IsTop h new
  pub entries : KeepsEntries old.places new.places
  pub prepared : KeepsPrepared old.places new.places
