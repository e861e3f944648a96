use Rattle.std.proofs.Common.{◌+◌, is_some, Some, refl, ap, ◌∙◌}
use Rattle.task_table.specs.Store.{Store, one_if, is_homed}
use Rattle.pids_charge.specs.Charges.{live_at, all_tasks}
use Rattle.task_table.proofs.Changes as changes
use Rattle.task_table.proofs.ThreadChanges as threads
use Rattle.task_table.proofs.Tasks.join_thread.Goals as goal

pub invariant_of-self : goal.invariant_of-self
invariant_of-self c =
    let old : Store = record { numbering = c.self.inside.numbers; tree = c.self.inside.tree; members = c.self.inside.members; charges = c.self.inside.controls; threads = c.self.inside.threads } in
    let there = rw (← c.self.view_is) at c.requires in
    let room = changes.in_range c.self.inside.threads.threads c.args.key (ap is_some there) in
    record {
      agree =
          threads.changed old c.self.inside.numbers c.self.inside.controls c.update.new.self c.self.invariant.agree c.args.key (Some (record c.args.thread { children_space = c.args.space })) (λ k i. refl)
          c.update.ensures.threads c.update.ensures.left room (λ h. ap (λ o. live_at c.self.inside.controls h + one_if (is_homed h o)) there) (λ h. refl)
          (ap (λ o. all_tasks c.self.inside.controls + one_if (is_some o)) there) c.self.invariant.agree.ranks;
      threaded =
          threads.changed-threaded c.self.inside.numbers c.self.inside.numbers c.self.inside.threads c.update.new.self c.self.invariant.threaded c.args.key
          (Some (record c.args.thread { children_space = c.args.space })) c.update.ensures.threads room (λ i differs. refl) (c.self.invariant.threaded.held c.args.key ∙ ap is_some there);
      housed = c.self.invariant.housed;
    }
