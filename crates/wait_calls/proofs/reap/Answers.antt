use Rattle.std.proofs.Common.{rules, sym}
use Rattle.task_table.proofs.Gone.{IsGone}
use Rattle.wait_calls.proofs.Gone.{reaped, parents-left, processes-left, ended-stays}
use Rattle.wait_calls.proofs.reap.Goals as goal

pub returns : goal.returns
returns c =
    let old = c.args.store.now in
    let new = c.remove.new.self in
    let g : IsGone old new c.args.child c.args.task = record {
      tasks = c.remove.ensures.tasks;
      parent = c.remove.ensures.parent;
      parents = c.remove.ensures.parents;
      members = c.remove.ensures.members;
      home = c.remove.ensures.home;
      numbers = c.remove.ensures.numbers;
    } in
    record {
      state = sym (reaped old new c.laws.ensures c.laws-2.ensures c.requires.whole c.args.child c.args.task c.requires.there c.requires.ended g c.thread_laws.ensures c.thread_laws-2.ensures c.remove.ensures.threads);
      ended = search rules;
      parents = parents-left old new c.laws.ensures c.laws-2.ensures c.requires.whole c.args.child c.args.task c.requires.there c.requires.ended g;
      processes = processes-left old new c.laws.ensures c.laws-2.ensures c.requires.whole c.args.child c.args.task c.requires.there c.requires.ended g c.remove.ensures.threads;
      threads = c.remove.ensures.threads;
    }

pub remove-requires-clause-stays : goal.remove-requires-clause-stays
remove-requires-clause-stays c = ended-stays c.args.store.now c.laws.ensures c.args.child c.args.task c.requires.there c.requires.ended
