use Rattle.pid_commands.proofs.serve.run_command.Goals as goal

pub returns-in-Work-clause-fault : goal.returns-in-Work-clause-fault
returns-in-Work-clause-fault g c = rw c.in-Work.is
    (c.work.ensures.fault (g.S.Source.remaining c.args.source.now) (g.S.Source.remaining c.args.source.now) (g.S.Source.has_failed c.args.source.now))
