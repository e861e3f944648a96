use Rattle.std.proofs.Common.{◌≡◌, ◌∙◌, sym, ap, arith, rules}
use Rattle.kept_table.specs.Chronicle.{Chronicle}
use Rattle.kept_table.specs.Whole.{room_of}
use Rattle.kept_table.proofs.kept.Kept.reserve_calls.Goals as goal

-- where a state is to be held there is no room yet
pub returns-in_err-begin-clause-enough : goal.returns-in_err-begin-clause-enough
returns-in_err-begin-clause-enough c enough =
    let room : c.args.self.now.memory.room ≡ 0 = ap (λ (t : Chronicle). t.memory.room) (sym c.self.view_is) ∙ ap (λ o. room_of o c.self.inside.history.room) c.in_err-begin.ensures.none in
    absurd (omega (arith, room, enough, c.if-n-eq0.false))

pub returns-clause-ok : goal.returns-clause-ok
returns-clause-ok c = search rules

pub begin-requires-clause-root : goal.begin-requires-clause-root
begin-requires-clause-root c = search rules

pub returns-clause-makes : goal.returns-clause-makes
returns-clause-makes c = search rules
