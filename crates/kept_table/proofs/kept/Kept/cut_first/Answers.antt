use Rattle.std.proofs.Common.{◌+◌, subst}
use Rattle.kept_table.specs.Calls.{IsWithoutFirst}
use Rattle.kept_table.specs.Chronicle.{Chronicle}
use Rattle.kept_table.specs.Whole.{told}
use Rattle.kept_table.proofs.Cuts.{whole-once, without-first}
use Rattle.kept_table.proofs.kept.Kept.cut_first.Goals as goal

pub invariant_of-self-2 : goal.invariant_of-self-2
invariant_of-self-2 c =
    whole-once c.soundness_is_kept.ensures.run c.bound_stays.ensures c.self.inside.history c.cut_first.new.self c.in-Some.worker _ _ _ _ _ _ _ c.self.invariant c.in-Some.ensures.cut
    c.count_call.ensures.each
    c.count_call.ensures.all
    c.count_call.ensures.len

pub returns-clause-cut : goal.returns-clause-cut
returns-clause-cut c = λ _.
    let i = c.self.inside in
    subst (λ (old : Chronicle). IsWithoutFirst 1 old (told i.config i.is_resumed c.cut_first.new.self (i.first_kept + 1) c.count_call.new.calls.items i.table i.calls.items)) c.self.view_is
    (without-first c.self.inside.history c.cut_first.new.self c.in-Some.worker _ _ _ _ _ _ _ c.self.invariant c.in-Some.ensures.cut c.count_call.ensures.each c.count_call.ensures.len)
