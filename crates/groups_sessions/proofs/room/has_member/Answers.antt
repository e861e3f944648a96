use Rattle.std.proofs.Common.{arith}
use Rattle.groups_sessions.proofs.room.has_member.Goals as goal

pub returns-else-ident-keys-clause-none : goal.returns-else-ident-keys-clause-none
returns-else-ident-keys-clause-none c past k mine = let lt = c.requires k c.args.ident mine in grind (arith, lt)
