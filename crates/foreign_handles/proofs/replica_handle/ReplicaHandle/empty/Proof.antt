-- The walk of `empty`, for a replica.
use Rattle.foreign_handles.proofs.Walks as walks
use Rattle.foreign_handles.proofs.replica_handle.ReplicaHandle.empty.{Code.unfolded, Statement.statement}

pub empty_spec : {M : Type 1} → statement M
empty_spec 𝓤 𝓛 𝓜 𝓡 wired = walks.empty walks.of_replica 𝓛 𝓜 𝓡 _ (unfolded 𝓤 𝓛.H 𝓜 𝓡 wired)
