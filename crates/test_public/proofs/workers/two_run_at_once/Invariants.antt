use Rattle.test_public.proofs.workers.two_run_at_once.Given as goal

-- the table's one ledger is the one that the blank names
abbrev pub ghosts-run_two : goal.ghosts-run_two
ghosts-run_two g a = record { name = a.blank.name; parts = a.blank.parts }
