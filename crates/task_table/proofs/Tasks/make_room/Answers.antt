use Rattle.std.proofs.Common.{refl, arith}
use Rattle.task_table.specs.Store.{Store}
use Rattle.task_table.proofs.Rest as rest
use Rattle.task_table.proofs.Housed as housed
use Rattle.task_table.proofs.Tasks.make_room.Goals as goal

pub invariant_of-self : goal.invariant_of-self
invariant_of-self c = record {
  agree =
      let old : Store = record { numbering = c.self.inside.numbers; tree = c.self.inside.tree; members = c.self.inside.members; charges = c.self.inside.controls; threads = c.self.inside.threads } in
      rest.roomier old _ c.self.invariant.agree (record { numbering = refl; charges = refl; tasks = c.room_for.ensures.tasks; parents = c.room_for.ensures.parents; ranks = c.room_for.ensures.ranks; members = λ k. refl; threads = refl });
  threaded =
      c.self.invariant.threaded;
  housed =
      housed.roomier c.self.inside.controls c.self.inside.tree.tasks c.room_for.new.tree.tasks c.self.inside.residents c.room_for.new.residents c.self.invariant.housed c.room_for.ensures.more c.room_for.ensures.within c.room_for.ensures.tasks;
}

pub invariant_of-self-in_err-reserve : goal.invariant_of-self-in_err-reserve
invariant_of-self-in_err-reserve c = record {
  agree =
      let old : Store = record { numbering = c.self.inside.numbers; tree = c.self.inside.tree; members = c.self.inside.members; charges = c.self.inside.controls; threads = c.self.inside.threads } in
      rest.roomier old _ c.self.invariant.agree (record { numbering = refl; charges = refl; tasks = c.room_for.ensures.tasks; parents = c.room_for.ensures.parents; ranks = c.room_for.ensures.ranks; members = c.reserve.ensures.kept; threads = refl });
  threaded =
      c.self.invariant.threaded;
  housed =
      housed.roomier c.self.inside.controls c.self.inside.tree.tasks c.room_for.new.tree.tasks c.self.inside.residents c.room_for.new.residents c.self.invariant.housed c.room_for.ensures.more c.room_for.ensures.within c.room_for.ensures.tasks;
}

pub invariant_of-self-2 : goal.invariant_of-self-2
invariant_of-self-2 c = record {
  agree =
      let old : Store = record { numbering = c.self.inside.numbers; tree = c.self.inside.tree; members = c.self.inside.members; charges = c.self.inside.controls; threads = c.self.inside.threads } in
      rest.roomier old _ c.self.invariant.agree (record { numbering = refl; charges = refl; tasks = c.room_for.ensures.tasks; parents = c.room_for.ensures.parents; ranks = c.room_for.ensures.ranks; members = c.reserve.ensures.kept; threads = refl });
  threaded =
      c.self.invariant.threaded;
  housed =
      housed.roomier c.self.inside.controls c.self.inside.tree.tasks c.room_for.new.tree.tasks c.self.inside.residents c.room_for.new.residents c.self.invariant.housed c.room_for.ensures.more c.room_for.ensures.within c.room_for.ensures.tasks;
}

pub returns-clause-same : goal.returns-clause-same
returns-clause-same c = grind arith
