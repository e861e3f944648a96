-- The member goes or ends in its place, and then its other threads end
use Rattle.std.proofs.Common.{sym, subst, arith}
use Rattle.std.proofs.lemmas.Grind.{common_steps}
use Rattle.pid_numbers.specs.Numbering.{Numbering}
use Rattle.task_table.specs.Store.{Store, IsLess}
use Rattle.task_table.proofs.Changed.{IsLess-same}
use Rattle.task_table.proofs.Less.{IsLess-trans}
use Rattle.thread_ends.specs.Ending.{KeepsHomes}
use Rattle.thread_ends.proofs.KeptHomes.{KeepsHomes-trans}
use Rattle.ns_teardown.proofs.members.end_member.Goals as goal
use Rattle.ns_teardown.proofs.members.end_member.Goals.{then-parent_falls, else-parent_falls}

pub parent_falls-requires : goal.parent_falls-requires
parent_falls-requires c = grind (arith, common_steps)

pub returns-clause-numbers : goal.returns-clause-numbers
returns-clause-numbers c =
    let old = c.args.store.now.numbering in
    let laws = c.laws.ensures.numbering in
    let first : IsLess old c.if-parent_falls.store.numbering =
    elim c.if-parent_falls.branch [
      | then-parent_falls w ↦ subst (λ (s : Store). IsLess old s.numbering) (sym w.store-is) w.remove.ensures.numbers
      | else-parent_falls w ↦ subst (λ (s : Store). IsLess old s.numbering) (sym w.store-is) (subst (λ (b : Numbering). IsLess old b) (sym w.finish_member.ensures.numbers) (IsLess-same old laws))
    ] in
    IsLess-trans old laws.full laws.own c.if-parent_falls.store.numbering c.end_others.new.store.numbering first c.end_others.ensures.numbers

pub returns-clause-homes : goal.returns-clause-homes
returns-clause-homes c =
    let old = c.args.store.now.charges in
    let first : KeepsHomes old c.if-parent_falls.store.charges =
    elim c.if-parent_falls.branch [
      | then-parent_falls w ↦ subst (λ (s : Store). KeepsHomes old s.charges) (sym w.store-is) w.remove.ensures.homes
      | else-parent_falls w ↦ subst (λ (s : Store). KeepsHomes old s.charges) (sym w.store-is) w.finish_member.ensures.homes
    ] in
    KeepsHomes-trans old c.if-parent_falls.store.charges c.end_others.new.store.charges first c.end_others.ensures.homes
