use Rattle.demo_no_memory.proofs.script.play_once.Given as goal

-- the table's one ledger is the one that the blank names
abbrev pub ghosts-play_on_new : goal.ghosts-play_on_new
ghosts-play_on_new g a = record { name = a.blank.name; parts = a.blank.parts }
