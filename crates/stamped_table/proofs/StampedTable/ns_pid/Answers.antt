use Rattle.std.proofs.Common.{subst}
use Rattle.pid_types.specs.declared.call.Call.TheVariants.{NsPid}
use Rattle.pid_types.specs.Step.{step}
use Rattle.pid_types.specs.Written.{IsWritten}
use Rattle.stamped_table.specs.Stamped.{Stamped}
use Rattle.stamped_table.proofs.StampedTable.ns_pid.Goals as goal

pub returns-clause-reply : goal.returns-clause-reply
returns-clause-reply c =
    subst (λ (s : Stamped). IsWritten c.ns_pid.result c.ns_pid.new.room (step s.state s.stamp (NsPid c.args.caller c.args.target)).reply)
    c.self.view_is (c.ns_pid.ensures.reply c.self.inside.stamp)
