use Rattle.test_public.proofs.states.hands_back_the_record.Given as goal

abbrev pub ghosts-expect_state : goal.ghosts-expect_state
ghosts-expect_state g a = record { name = a.blank.name; parts = a.blank.parts }
