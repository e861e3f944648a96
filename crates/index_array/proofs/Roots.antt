-- The nodes below a root cover indexes below 2^24 alone.
use Rattle.std.proofs.Common.{ℕ, ◌≡◌, ◌≤◌, ap, arith, lit≤, None, length}
use Rattle.std.proofs.lemmas.List.{get_or_past}
use Rattle.index_array.specs.Place.{Place, bare_place, entry_at}
use Rattle.index_array.specs.Root.{root_places, IsRoot}
use Rattle.index_array.specs.declared.root.Root.{Root}
use Rattle.index_array.specs.declared.root.Root.TheVariants.{Empty, Height0, Height1, Height2, Height3}
use Rattle.index_array.proofs.Powers.{node_fits}

-- the nodes cover no index past the last one
pub short : (r : Root) → IsRoot r → length (root_places r) ≤ 16777216
short Empty top = lit≤ tt
short (Height0 b) top = rw top.whole (node_fits 0 top.low)
short (Height1 b) top = rw top.whole (node_fits 1 top.low)
short (Height2 b) top = rw top.whole (node_fits 2 top.low)
short (Height3 b) top = rw top.whole (node_fits 3 top.low)

-- so above them there is no entry
pub none_above : (r : Root) → IsRoot r → (i : ℕ) → 16777216 ≤ i → entry_at (root_places r) i ≡ None
none_above r root i above = let bound = short r root in ap (λ (p : Place _). p.entry) (get_or_past (root_places r) i bare_place (omega (arith, bound, above)))
