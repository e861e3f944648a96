use Rattle.test_public.proofs.resumed.goes_on_under_the_lock.Given as goal

abbrev pub ghosts-go_on_under_lock : goal.ghosts-go_on_under_lock
ghosts-go_on_under_lock g a = record { name = a.blank.name; parts = a.blank.parts }
