-- Entries in the order of their ids. One without a key was removed.
use Rattle.std.specs.Prelude.{◌≡◌, ◌≢◌, ◌<◌, ℕ, List, [], ◌∷◌, length, Option, Some, None, IsSome, MatchOption, slice_index_or}
use Rattle.id_slab.specs.Ids.{Rises}
use Rattle.id_slab.specs.declared.Entry.{Entry}

-- an id with its key before others, where it has one
abbrev pub put_before : ℕ → Option ℕ → List (ℕ × ℕ) → List (ℕ × ℕ)
put_before id None ids = ids
put_before id (Some key) ids = (id, key) ∷ ids

-- the ids that were not removed
abbrev pub live : List Entry → List (ℕ × ℕ)
live [] = []
live (e ∷ entries) = put_before e.id e.key (live entries)

-- each id is above those before it
abbrev pub Rise : List Entry → Type 0
Rise entries = Rises (λ (e : Entry). e.id) entries

-- the last entry was not removed
abbrev pub EndsLive : List Entry → Type 0
EndsLive [] = Unit {0}
EndsLive (e ∷ []) = IsSome e.key
EndsLive (e ∷ f ∷ entries) = EndsLive (f ∷ entries)

-- the place of the id among the entries, or none where no entry has it
abbrev pub IsPlaceOf : List Entry → ℕ → Option ℕ → Type 0
IsPlaceOf entries id result = MatchOption result
    ((k : ℕ) → k < length entries → (slice_index_or entries k (record { id = 0; key = None })).id ≢ id)
    (λ i. (i < length entries) × ((slice_index_or entries i (record { id = 0; key = None })).id ≡ id))
