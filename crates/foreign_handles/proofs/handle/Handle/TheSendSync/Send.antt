-- A handle goes to another thread with a table that it owns.
use Rattle.foreign_handles.proofs.held.Held.TheSendSync as held
use Rattle.foreign_handles.proofs.Walks.Words as words
use Rattle.foreign_handles.specs.contracts.handle.Handle.{the_row}

pub send : words.IsSend the_row
send = words.sent words.of_table held.the_send
