use Rattle.demo_no_memory.proofs.alone.play_once.Given as goal

-- the table's one ledger is the one that the blank names
abbrev pub ghosts-answer_and_list : goal.ghosts-answer_and_list
ghosts-answer_and_list g a = record { name = a.blank.name; parts = a.blank.parts }
