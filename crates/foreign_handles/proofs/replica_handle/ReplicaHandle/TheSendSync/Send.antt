-- A handle goes to another thread with a replica that it owns.
use Rattle.replica.proofs.host.Host.TheSendSync as held
use Rattle.foreign_handles.proofs.Walks.Words as words
use Rattle.foreign_handles.specs.contracts.replica_handle.ReplicaHandle.{the_row}

pub send : words.IsSend the_row
send = words.sent words.of_replica held.the_send
