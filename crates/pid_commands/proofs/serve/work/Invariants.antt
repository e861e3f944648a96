use Rattle.pid_commands.proofs.serve.work.Given as goal

-- the table's one ledger is the one that the blank names
abbrev pub ghosts-run_jobs : goal.ghosts-run_jobs
ghosts-run_jobs g a = record { name = a.blank.name; parts = a.blank.parts }
