use Rattle.std.proofs.Common.{rules}
use Rattle.pid_types.specs.DeviceLaws.{Took-bytes, Took-fault}
use Rattle.pid_types.proofs.device.FromReaderSource.read.Goals as goal

pub returns-in-Ok-clause-bytes : goal.returns-in-Ok-clause-bytes
returns-in-Ok-clause-bytes g c = search rules

pub returns-in-Ok-clause-event : goal.returns-in-Ok-clause-event
returns-in-Ok-clause-event g c = Took-bytes _ _ _ _ _ _ _ c.in-Ok.is c.read.ensures.bytes

pub returns-in-Err-clause-event : goal.returns-in-Err-clause-event
returns-in-Err-clause-event g c = Took-fault _ _ _ _ _ _ _ _ c.in-Err.is c.read.ensures.bytes
