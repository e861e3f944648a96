use Rattle.std.proofs.Common.{None, ap, sym, ◌∙◌, arith}
use Rattle.std.proofs.lemmas.Grind.{common_steps}
use Rattle.std.specs.Prelude.{slice_index_or}
use Rattle.task_tree.specs.Tree.{task_at}
use Rattle.table_build.proofs.Moves.{ended-row, homes-ended}
use Rattle.table_build.proofs.Steps.{places-same}
use Rattle.table_build.proofs.settle.end_task.Goals as goal

pub returns-clause-rest : goal.returns-clause-rest
returns-clause-rest c = grind arith

pub finish-requires-clause-there : goal.finish-requires-clause-there
finish-requires-clause-there c = grind arith

pub returns-clause-ended : goal.returns-clause-ended
returns-clause-ended c =
    let f = c.finish.ensures in
    record {
      keeps = record {
        grouping = grind arith;
        places = places-same c.args.store.now c.finish.new.self f.rest.0 f.home.controls;
        names = grind arith;
      };
      sets = λ row e. ended-row c.args.store.now c.finish.new.self c.laws.ensures c.laws-2.ensures c.args.key c.in-Some.task c.args.end (ap (λ t. task_at t c.args.key) (sym c.tree.ensures) ∙ sym c.task.ensures ∙ c.in-Some.is) (record {
        tasks = f.tasks;
        parents = λ k. ap (λ ps. slice_index_or ps k None) f.parents;
        numbering = f.rest.0;
        members = f.rest.1;
        controls = f.home.controls;
        homes = homes-ended c.args.store.now.charges c.finish.new.self.charges c.in-Some.task.home f.home;
      }) row e;
    }

pub finish-requires-clause-stays : goal.finish-requires-clause-stays
finish-requires-clause-stays c = c.requires.grouping.single.stays c.args.key

pub finish-requires-clause-visible : goal.finish-requires-clause-visible
finish-requires-clause-visible c = grind arith

pub finish-requires-clause-live : goal.finish-requires-clause-live
finish-requires-clause-live c = grind arith

pub returns-clause-parents : goal.returns-clause-parents
returns-clause-parents c = grind arith

pub is_seen_by_parent-requires : goal.is_seen_by_parent-requires
is_seen_by_parent-requires c = grind (arith, common_steps)
