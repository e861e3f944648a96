-- The keys of vacant places, each of which is given again.
use Rattle.std.specs.Prelude.{◌≡◌, ℕ, ◌-◌, ◌<◌, ◌≤◌, List, length, Option, None, slice_index_or}
use Rattle.ns_tree.specs.Tree.{IsDistinct}

module _ {X : Type 0} where
  -- the keys are those of the vacant places: each of them is, all of these are among them, none comes twice, and there is room for the
  -- keys of all places
  pub record AreVacant (slots : List (Option X)) (keys : List ℕ) (room : ℕ) : Type 0 where
    pub each : (j : ℕ) → j < length keys → (slice_index_or keys j 0 < length slots)
        × (slice_index_or slots (slice_index_or keys j 0) None ≡ None)
    pub all : (s : ℕ) → s < length slots → slice_index_or slots s None ≡ None → (j : ℕ) × (j < length keys) × (slice_index_or keys j 0 ≡ s)
    pub distinct : IsDistinct keys
    pub rooms : length slots ≤ room

  -- the key of what comes next: the last of the vacant ones, or else a new one
  abbrev pub next_place : List X → List ℕ → ℕ
  next_place places vacant = slice_index_or vacant (length vacant - 1) (length places)
