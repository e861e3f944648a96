-- The walk of `of`, for a table.
use Rattle.foreign_handles.proofs.Walks as walks
use Rattle.foreign_handles.proofs.handle.Handle.of.{Code.unfolded, Statement.statement}

pub of_spec : {M : Type 1} → statement M
of_spec 𝓤 𝓛 𝓜 𝓡 wired = walks.of walks.of_table 𝓛 𝓜 𝓡 _ (unfolded 𝓤 𝓛.H 𝓜 𝓡 wired)
