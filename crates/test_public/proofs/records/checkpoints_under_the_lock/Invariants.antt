use Rattle.test_public.proofs.records.checkpoints_under_the_lock.Given as goal

abbrev pub ghosts-share_by_one : goal.ghosts-share_by_one
ghosts-share_by_one g a = record { name = a.blank.name; parts = a.blank.parts }
