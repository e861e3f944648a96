-- Namespaces that have fallen all at once, as in a table that was saved.
use Rattle.std.specs.Prelude.{◌≡◌, ℕ, ◌||◌, Bool, true, false, List, Some, IsSome, slice_index_or, slice_get}
use Rattle.ns_tree.specs.Tree.{Node}
use Rattle.pid_numbers.specs.Numbering.{Numbering, Namespace, namespace_at, number_of, path_at}

-- whether the key has a flag
abbrev pub is_flagged : List Bool → ℕ → Bool
is_flagged flags s = slice_index_or flags s false

-- the namespace, fallen if the flag is set
abbrev pub fallen_if : Bool → Namespace → Namespace
fallen_if flag t = record t { fallen = t.fallen || flag }

-- the same of a node of the tree
abbrev pub felled_if : Bool → Node → Node
felled_if flag t = record t { fallen = t.fallen || flag }

-- the root has no flag, what is in a namespace with a flag has one, and a number is in use in each that has one
pub record MayFall (b : Numbering) (flags : List Bool) : Type 0 where
  pub root : is_flagged flags 0 ≡ false
  pub inner : (s outer : ℕ) → slice_get (path_at b s) 1 ≡ Some outer → is_flagged flags outer ≡ true → is_flagged flags s ≡ true
  pub held : (s : ℕ) → IsSome (namespace_at b s) → is_flagged flags s ≡ true → (i : ℕ) × (n : ℕ) × (number_of b i s ≡ Some n)
