use Rattle.std.proofs.Common.{None, arith}
use Rattle.std.proofs.lemmas.List.{length-append, length-replicate}
use Rattle.member_lists.proofs.Rooms.{get_or-append-replicate}
use Rattle.groups_sessions.proofs.Kept.{IsKept-grown}
use Rattle.groups_sessions.proofs.room.grow.Goals as goal

pub returns-clause-kept : goal.returns-clause-kept
returns-clause-kept c =
    IsKept-grown c.args.groups.now c.grow.new.self c.args.sessions.now c.room_for_sessions.new.sessions c.requires.kept
    (grind (arith, length-append, length-replicate)) (grind (arith, length-append, length-replicate)) (grind (arith, length-append, length-replicate))
    (λ k. rw c.in_ok-grow.ensures.ok (get_or-append-replicate c.args.groups.now _ None k)) c.room_for_sessions.ensures.kept
