use Rattle.test_public.proofs.workers.sixteen_share_the_numbers.Given as goal

-- the table's one ledger is the one that the blank names
abbrev pub ghosts-run_sixteen : goal.ghosts-run_sixteen
ghosts-run_sixteen g a = record { name = a.blank.name; parts = a.blank.parts }
