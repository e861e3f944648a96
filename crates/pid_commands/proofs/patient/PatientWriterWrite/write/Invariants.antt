use Rattle.std.specs.Io.KnownBytes.{Keeps}
use Rattle.pid_commands.proofs.patient.PatientWriterWrite.write.Given as goal

-- what was written stays, as a write that was interrupted took nothing
abbrev pub invariant-loop : goal.invariant-loop
invariant-loop g l = Keeps (g.W.Write.contents l.fn.self.writer.now) (g.W.Write.contents l.self.writer.now)
