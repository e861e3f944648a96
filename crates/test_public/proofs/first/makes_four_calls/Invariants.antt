use Rattle.test_public.proofs.first.makes_four_calls.Given as goal

-- the table's one ledger is the one that the blank names
abbrev pub ghosts-play : goal.ghosts-play
ghosts-play g a = record { name = a.blank.name; parts = a.blank.parts }
