use Rattle.call_effects.proofs.spaces.+add_path.Given as goal

abbrev pub decreases-add_path : goal.decreases-add_path
decreases-add_path l = l.id
