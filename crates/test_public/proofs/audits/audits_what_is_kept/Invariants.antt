use Rattle.test_public.proofs.audits.audits_what_is_kept.Given as goal

abbrev pub ghosts-audit_after_checkpoint : goal.ghosts-audit_after_checkpoint
ghosts-audit_after_checkpoint g a = record { name = a.blank.name; parts = a.blank.parts }
