use Rattle.std.proofs.Common.{◌+◌, is_some, None, Some, refl, ap, ◌∙◌}
use Rattle.std.specs.Prelude.{slice_index_or}
use Rattle.task_table.specs.Store.{Store, one_if, is_homed}
use Rattle.pids_charge.specs.Charges.{live_at, all_tasks}
use Rattle.task_table.proofs.Changes as changes
use Rattle.task_table.proofs.Housed as housed
use Rattle.task_table.proofs.ThreadChanges as threads
use Rattle.task_table.proofs.Tasks.move_thread.Goals as goal

pub invariant_of-self : goal.invariant_of-self
invariant_of-self c =
    let old : Store = record { numbering = c.self.inside.numbers; tree = c.self.inside.tree; members = c.self.inside.members; charges = c.self.inside.controls; threads = c.self.inside.threads } in
    let there = rw (← c.self.view_is) at c.requires.there in
    let up = rw (← c.self.view_is) at c.requires.stands in
    let room = changes.in_range c.self.inside.threads.threads c.args.key (ap is_some there) in
    let some = threads.live_some old c.self.invariant.agree c.args.key c.args.thread there room in
    let counts = threads.moved c.self.inside.controls c.transfer.new.self c.args.thread c.args.to c.transfer.ensures.homes some up in
    record {
      agree =
          threads.changed old c.self.inside.numbers c.transfer.new.self c.update.new.self c.self.invariant.agree c.args.key (Some (record c.args.thread { home = c.args.to })) (λ k i. refl)
          c.update.ensures.threads c.update.ensures.left room (λ h. ap (λ o. live_at c.transfer.new.self h + one_if (is_homed h o)) there ∙ (counts h).0) (λ h. (counts h).1)
          (ap (λ n. n + one_if (is_some (slice_index_or c.self.inside.threads.threads c.args.key None))) c.transfer.ensures.tasks ∙ ap (λ o. all_tasks c.self.inside.controls + one_if (is_some o)) there)
          c.self.invariant.agree.ranks;
      threaded =
          threads.changed-threaded c.self.inside.numbers c.self.inside.numbers c.self.inside.threads c.update.new.self c.self.invariant.threaded c.args.key (Some (record c.args.thread { home = c.args.to }))
          c.update.ensures.threads room (λ i differs. refl) (c.self.invariant.threaded.held c.args.key ∙ ap is_some there);
      housed =
          housed.kept-tasks c.self.inside.tree.tasks c.self.inside.controls c.transfer.new.self c.self.inside.residents c.self.invariant.housed
          (housed.less-moved c.self.inside.controls c.transfer.new.self c.args.thread.home c.args.to c.transfer.ensures.homes);
    }

pub transfer-requires-clause-some : goal.transfer-requires-clause-some
transfer-requires-clause-some c =
    let old : Store = record { numbering = c.self.inside.numbers; tree = c.self.inside.tree; members = c.self.inside.members; charges = c.self.inside.controls; threads = c.self.inside.threads } in
    let there = rw (← c.self.view_is) at c.requires.there in
    threads.live_some old c.self.invariant.agree c.args.key c.args.thread there (changes.in_range c.self.inside.threads.threads c.args.key (ap is_some there))
