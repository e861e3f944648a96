use Rattle.test_public.proofs.workers.sixteen_make_turns.Given as goal

-- the table's one ledger is the one that the blank names
abbrev pub ghosts-run_unheld : goal.ghosts-run_unheld
ghosts-run_unheld g a = record { name = a.blank.name; parts = a.blank.parts }
