use Rattle.std.proofs.Common.{is_some, None, Some, if◌then◌else◌, refl, sym, ap, ◌∙◌, arith}
use Rattle.std.proofs.lemmas.Grind.{common_steps}
use Rattle.std.specs.Prelude.{slice_set, slice_index_or}
use Rattle.task_tree.specs.declared.Task.{Task}
use Rattle.process_threads.specs.Threads.{left_at}
use Rattle.task_table.specs.Store.{Store, lives_in}
use Rattle.task_table.proofs.Marks as marks
use Rattle.task_table.proofs.Changes as changes
use Rattle.task_table.proofs.HomeCounts as homes
use Rattle.task_table.proofs.Housed as housed
use Rattle.task_table.proofs.Tasks.move_home.Goals as goal

pub move_to-requires-clause-key : goal.move_to-requires-clause-key
move_to-requires-clause-key c = grind (arith, common_steps)

pub transfer-requires-clause-some : goal.transfer-requires-clause-some
transfer-requires-clause-some c =
    let old : Store = record { numbering = c.self.inside.numbers; tree = c.self.inside.tree; members = c.self.inside.members; charges = c.self.inside.controls; threads = c.self.inside.threads } in
    let there = rw (← c.self.view_is) at c.requires.there in
    let stays = rw (← c.self.view_is) at c.requires.stays in
    changes.live_some old c.self.invariant.agree c.args.key c.args.task there c.requires.live stays

pub invariant_of-self : goal.invariant_of-self
invariant_of-self c = record {
  agree =
      let there = rw (← c.self.view_is) at c.requires.there in
      let stays = rw (← c.self.view_is) at c.requires.stays in
      let stands = rw (← c.self.view_is) at c.requires.stands in
      let old : Store = record { numbering = c.self.inside.numbers; tree = c.self.inside.tree; members = c.self.inside.members; charges = c.self.inside.controls; threads = c.self.inside.threads } in
      let task : Task = record c.args.task { home = c.args.to } in
      changes.retasked old _ c.self.invariant.agree c.args.key c.args.task task there refl refl refl c.update.ensures.tasks
      (marks.not-marked (left_at c.self.inside.threads c.args.key) stays) (λ h. marks.unmarked (left_at c.self.inside.threads c.args.key) stays (lives_in h (Some task)) (lives_in h (Some c.args.task)))
      (homes.live-moved c.self.inside.controls c.transfer.new.self c.args.task c.args.to c.transfer.ensures.homes c.requires.live (changes.live_some old c.self.invariant.agree c.args.key c.args.task there c.requires.live stays) stands)
      (homes.zombies-moved c.self.inside.controls c.transfer.new.self c.args.task c.args.to c.transfer.ensures.homes c.requires.live)
      c.transfer.ensures.tasks
      (λ k p r e. c.self.invariant.agree.ranks k p r (sym (ap (λ l. slice_index_or l k None) c.update.ensures.ranks) ∙ e));
  threaded =
      c.self.invariant.threaded;
  housed =
      let there = rw (← c.self.view_is) at c.requires.there in
      housed.changed c.self.inside.controls c.transfer.new.self c.self.inside.tree.tasks c.update.new.self.tasks c.self.inside.residents c.move_to.new.self c.self.invariant.housed c.args.key (Some (record c.args.task { home = c.args.to })) c.update.ensures.tasks
      (changes.in_range c.self.inside.tree.tasks c.args.key (ap is_some there))
      (c.move_to.ensures ∙ ap (λ b. slice_set c.self.inside.residents c.args.key (if b then Some c.args.to else None)) (sym c.requires.live))
      (housed.less-moved c.self.inside.controls c.transfer.new.self c.args.task.home c.args.to c.transfer.ensures.homes);
}
