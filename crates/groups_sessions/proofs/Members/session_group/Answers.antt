use Rattle.std.proofs.Common.{sym, ◌∙◌}
use Rattle.groups_sessions.proofs.SessionGroups.{session_group-same, session_group-other, session_group-unknown}
use Rattle.groups_sessions.proofs.Members.session_group.Goals as goal

pub returns-in_default : goal.returns-in_default
returns-in_default c = sym (session_group-unknown c.args.self.now c.args.numbers.now c.args.session c.args.space c.args.n c.in_default.ensures)

pub returns-then-eq : goal.returns-then-eq
returns-then-eq c =
    sym (session_group-same c.args.self.now c.args.numbers.now c.args.session c.args.space c.args.n c.laws.ensures.distinct c.in-Some.ident c.in-Some.ensures
    c.session_of_group.result c.session_of_group.ensures (sym c.eq.ensures ∙ c.if-eq.true))

pub returns-else-eq : goal.returns-else-eq
returns-else-eq c =
    sym (session_group-other c.args.self.now c.args.numbers.now c.args.session c.args.space c.args.n c.laws.ensures.distinct c.in-Some.ident c.in-Some.ensures
    c.session_of_group.result c.session_of_group.ensures (sym c.eq.ensures ∙ c.if-eq.false))
