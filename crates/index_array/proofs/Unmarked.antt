-- Entries without marks.
use Rattle.std.proofs.Common.{ℕ, ◌≡◌, ◌<◌, List, Bool, not, ◌&&◌, ◌||◌, Option}
use Rattle.index_array.specs.Words.{has_bit, word_of}
use Rattle.index_array.specs.Place.{entry_at, is_unmarked}
use Rattle.index_array.specs.Tree.{Tree, places_of, IsNode}
use Rattle.index_array.specs.declared.bits.Sought.TheVariants.{Present, Mark}
use Rattle.index_array.specs.declared.bits.Words.{Words}
use Rattle.index_array.proofs.Blocks.{leaf_bit}

-- the slots with an entry and without marks, by the bits
abbrev pub unmarked_bit : Words → ℕ → Bool
unmarked_bit w k =
    has_bit (word_of Present w) k
    && not (has_bit (word_of (Mark 0) w) k || (has_bit (word_of (Mark 1) w) k || has_bit (word_of (Mark 2) w) k))

alike : (a b c d a' b' c' d' : Bool) → a ≡ a' → b ≡ b' → c ≡ c' → d ≡ d' → (a && not (b || (c || d))) ≡ (a' && not (b' || (c' || d')))
alike a b c d a' b' c' d' p q r s = cc

pub leaf_unmarked : {T : Type 0} (w : Words) (h : ℕ) (es : List (Option T)) (cs : List (Option (Tree T))) → IsNode w h es cs → h ≡ 0 → (k : ℕ) → k < 64 → is_unmarked (entry_at (places_of w h es cs) k) ≡ unmarked_bit w k
leaf_unmarked w h es cs node z k below = alike _ _ _ _ _ _ _ _ (leaf_bit w h es cs node z Present k below) (leaf_bit w h es cs node z (Mark 0) k below) (leaf_bit w h es cs node z (Mark 1) k below) (leaf_bit w h es cs node z (Mark 2) k below)
