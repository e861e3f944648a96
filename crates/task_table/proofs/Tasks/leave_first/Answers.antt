use Rattle.task_table.specs.Store.{Store}
use Rattle.task_table.proofs.Changes as changes
use Rattle.task_table.proofs.Housed as housed
use Rattle.task_table.proofs.Leaving as leaving
use Rattle.std.proofs.Common.{◌+◌, ◌-◌}
use Rattle.pids_charge.specs.Charges.{Home}
use Rattle.task_table.proofs.Tasks.leave_first.Goals as goal

pub died-requires : goal.died-requires
died-requires c =
    let old : Store = record { numbering = c.self.inside.numbers; tree = c.self.inside.tree; members = c.self.inside.members; charges = c.self.inside.controls; threads = c.self.inside.threads } in
    let there = rw (← c.self.view_is) at c.requires.there in
    let stays = rw (← c.self.view_is) at c.requires.stays in
    changes.live_some old c.self.invariant.agree c.args.key c.args.task there c.requires.live stays

pub invariant_of-self : goal.invariant_of-self
invariant_of-self c =
    let old : Store = record { numbering = c.self.inside.numbers; tree = c.self.inside.tree; members = c.self.inside.members; charges = c.self.inside.controls; threads = c.self.inside.threads } in
    let there = rw (← c.self.view_is) at c.requires.there in
    let stays = rw (← c.self.view_is) at c.requires.stays in
    let room = rw (← c.self.view_is) at c.requires.room in
    record {
      agree =
          leaving.left old c.died.new.self c.mark_left.new.self c.self.invariant.agree c.args.key c.args.task there c.requires.live stays room
          c.mark_left.ensures.left c.mark_left.ensures.threads c.died.ensures.home c.died.ensures.tasks;
      threaded = leaving.threads-kept c.self.inside.numbers c.self.inside.threads c.mark_left.new.self c.self.invariant.threaded c.mark_left.ensures.threads;
      housed =
          housed.kept-tasks c.self.inside.tree.tasks c.self.inside.controls c.died.new.self c.self.inside.residents c.self.invariant.housed
          (housed.less-mapped c.self.inside.controls c.died.new.self c.args.task.home (λ (h : Home). record h { live = h.live - 1; zombies = h.zombies + 1 }) (λ h e. e) c.died.ensures.home);
    }
