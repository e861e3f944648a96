use Rattle.test_public.proofs.records.keeps_a_history.Given as goal

abbrev pub ghosts-play_on_new : goal.ghosts-play_on_new
ghosts-play_on_new g a = record { name = a.blank.name; parts = a.blank.parts }
