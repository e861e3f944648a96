-- The walk of `lend`, for a replica.
use Rattle.foreign_handles.proofs.Walks as walks
use Rattle.foreign_handles.proofs.replica_handle.ReplicaHandle.lend.{Code.unfolded, Statement.statement}

pub lend_spec : {M : Type 1} → statement M
lend_spec 𝓤 𝓛 𝓜 𝓡 wired = walks.lend walks.of_replica 𝓛 𝓜 𝓡 _ (unfolded 𝓤 𝓛.H 𝓜 𝓡 wired)
