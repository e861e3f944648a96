use Rattle.groups_sessions.proofs.Members.start_session.Goals as goal

pub move_to-requires-clause-together : goal.move_to-requires-clause-together
move_to-requires-clause-together c = λ k _ mine. absurd (c.requires.free k mine)
