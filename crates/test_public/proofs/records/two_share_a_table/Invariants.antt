use Rattle.test_public.proofs.records.two_share_a_table.Given as goal

abbrev pub ghosts-share_by_two : goal.ghosts-share_by_two
ghosts-share_by_two g a = record { name = a.blank.name; parts = a.blank.parts }
