use Rattle.script_session.proofs.session.read_chunk.Goals as goal

pub returns-in-Err-clause-event : goal.returns-in-Err-clause-event
returns-in-Err-clause-event g c = c.in-Err.ensures.event

pub returns-in-Err-clause-bytes : goal.returns-in-Err-clause-bytes
returns-in-Err-clause-bytes g c = c.in-Err.ensures.bytes
