use Rattle.std.proofs.Common.{rules, sym, ◌∙◌}
use Rattle.pid_workers.proofs.Settings.{same_settings}
use Rattle.pid_workers.proofs.threads.check_finished.Goals as goal

pub returns-in-Ok-clause-kept : goal.returns-in-Ok-clause-kept
returns-in-Ok-clause-kept g c = search rules

pub returns-in-Ok-clause-config : goal.returns-in-Ok-clause-config
returns-in-Ok-clause-config g c = sym c.config.ensures ∙ same_settings c.config.result c.args.config.now (sym c.ne.ensures ∙ c.if-ne.false)

pub returns-in-Ok-clause-audited : goal.returns-in-Ok-clause-audited
returns-in-Ok-clause-audited g c = search rules

pub returns-in-Ok-clause-fresh : goal.returns-in-Ok-clause-fresh
returns-in-Ok-clause-fresh g c = search rules
