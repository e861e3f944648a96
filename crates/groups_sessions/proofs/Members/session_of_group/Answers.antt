use Rattle.std.proofs.Common.{arith}
use Rattle.groups_sessions.proofs.Views.{nobody}
use Rattle.groups_sessions.proofs.Told.{session_told}
use Rattle.groups_sessions.proofs.Members.session_of_group.Goals as goal

pub returns-then-ident-keys : goal.returns-then-ident-keys
returns-then-ident-keys c = rw (← c.self.view_is, c.owner.ensures) (session_told c.self.inside.groups c.self.inside.sessions c.self.invariant c.args.ident)

pub returns-else-ident-keys : goal.returns-else-ident-keys
returns-else-ident-keys c =
    nobody c.self.inside.groups c.self.inside.sessions c.args.self.now c.self.view_is c.args.ident
    (λ k mine. let low = c.self.invariant.inside k c.args.ident mine in let room = c.self.invariant.room in absurd (omega (arith, low, room)))
