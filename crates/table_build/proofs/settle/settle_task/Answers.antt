use Rattle.std.proofs.Common.{refl, sym, ◌∙◌, arith}
use Rattle.table_build.proofs.Steps.{grouping-both, recent-kept}
use Rattle.pid_types.specs.declared.plain.Life.TheVariants.{Live}
use Rattle.pid_types.specs.declared.plain.Row.{Row}
use Rattle.model_laws.proofs.Names.{own_name_in_use}
use Rattle.task_table.proofs.Results.{on_err}
use Rattle.table_build.proofs.PartSteps.{part-set, seen-by_parent}
use Rattle.table_build.proofs.settle.settle_task.Goals as goal

pub returns-in_err-end_task-clause-refused : goal.returns-in_err-end_task-clause-refused
returns-in_err-end_task-clause-refused c =
    on_err c.from_residual-in_err-end_task.result _ (λ text may.
    let g = c.in_ok-give_parent.ensures in
    let row : Row = record c.args.row.now { life = Live } in
    let part = part-set c.args.store.now c.give_parent.new.store text g.keeps.keeps.places may.part c.args.key row g.given (own_name_in_use text.rows c.args.row.now may.inside) in
    c.in_err-end_task.ensures.refused row g.given.here refl
    (seen-by_parent c.give_parent.new.store c.laws.ensures g.keeps.keeps.grouping.kin text may.sound part c.args.key c.args.row.now row may.inside g.given.here refl refl))

pub returns-clause-settled : goal.returns-clause-settled
returns-clause-settled c = grind arith

pub end_task-requires : goal.end_task-requires
end_task-requires c = grind arith

pub returns-clause-keeps : goal.returns-clause-keeps
returns-clause-keeps c =
    let g = c.in_ok-give_parent.ensures in
    let e = c.in_ok-end_task.ensures in
    record {
      keeps = grouping-both c.args.store.now c.give_parent.new.store c.end_task.new.store g.keeps.keeps e.ended.keeps;
      recent = recent-kept c.give_parent.new.store c.end_task.new.store c.give_parent.new.last e.ended.keeps.names g.keeps.recent;
      real = λ k q at. g.keeps.real k q (sym (e.parents k) ∙ at);
    }

pub returns-in_default-clause-settled : goal.returns-in_default-clause-settled
returns-in_default-clause-settled c = grind arith
