use Rattle.std.proofs.Common.{◌≡◌, ℕ, ◌<◌, Some, slice_get}
use Rattle.pid_types.specs.declared.plain.Space.{Space}
use Rattle.table_build.specs.Bare.{MayHaveFall}
use Rattle.table_build.proofs.falls.check_falls.Given as goal

abbrev pub invariant-loop-index : goal.invariant-loop-index
invariant-loop-index l = (j : ℕ) (x : Space) → j < l.index → slice_get l.saved.spaces.items j ≡ Some x → MayHaveFall l.store.numbering l.flags x
