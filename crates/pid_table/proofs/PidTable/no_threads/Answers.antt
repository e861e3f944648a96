use Rattle.std.proofs.Common.{sym, ap}
use Rattle.pid_table.proofs.PidTable.no_threads.Goals as goal

pub returns : goal.returns
returns c = record { threads = ap (λ s. s.threads) (sym c.self.view_is); left = ap (λ s. s.left) (sym c.self.view_is) }
