-- The walk of `into_loose`, for a replica.
use Rattle.foreign_handles.proofs.Walks as walks
use Rattle.foreign_handles.proofs.replica_handle.ReplicaHandle.into_loose.{Code.unfolded, Statement.statement}

pub into_loose_spec : {M : Type 1} → statement M
into_loose_spec 𝓤 𝓛 𝓜 𝓡 wired = walks.into_loose walks.of_replica 𝓛 𝓜 𝓡 _ (unfolded 𝓤 𝓛.H 𝓜 𝓡 wired)
