-- A replica that is lent out of its handle.
use Rattle.std.specs.Prelude.{◌≡◌, ⊤, Some}
use mathlib.Core.Option.{none}
use denote.Follow.{follows_so}
use Rattle.std.specs.Borrow.{Lends, MutBor, Fml}
use Rattle.replica.specs.contracts.host.Host as host
use Rattle.replica.specs.Log.{Hosted}
use Rattle.foreign_handles.specs.declared.replica_handle.ReplicaHandle.{ReplicaHandle}
use Rattle.foreign_handles.specs.contracts.replica_handle.ReplicaHandle.{the_row}

-- the handle with another replica at its address
abbrev pub with_replica : ReplicaHandle → Hosted → ReplicaHandle
with_replica h x = record h { held = Some x }

-- the handle ends with the last value of the replica
abbrev pub LendsReplica : MutBor ReplicaHandle → MutBor Hosted → Fml
LendsReplica h r = Lends the_row host.the_row h r (with_replica h.now)

-- the handle ends as it was
abbrev pub RestsReplicaHandle : MutBor ReplicaHandle → Fml
RestsReplicaHandle h = follows_so the_row the_row h.ghost_name none (λ _ _. ⊤) (λ n. n ≡ h.now)
