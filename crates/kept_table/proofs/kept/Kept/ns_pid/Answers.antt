use Rattle.std.proofs.Common.{subst}
use Rattle.pid_types.specs.declared.call.Call.TheVariants.{NsPid}
use Rattle.pid_types.specs.Step.{step}
use Rattle.pid_types.specs.Written.{IsWritten}
use Rattle.kept_table.specs.Chronicle.{Chronicle, next_stamp}
use Rattle.kept_table.proofs.kept.Kept.ns_pid.Goals as goal

pub returns-clause-reply : goal.returns-clause-reply
returns-clause-reply c =
    let stamp = next_stamp c.args.self.now in
    subst (λ (t : Chronicle). IsWritten c.ns_pid.result c.ns_pid.new.room (step t.present stamp (NsPid c.args.caller c.args.target)).reply) c.self.view_is (c.ns_pid.ensures.reply stamp)
