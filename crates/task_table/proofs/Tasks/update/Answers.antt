use Rattle.std.specs.Prelude.{slice_index_or}
use Rattle.pids_charge.specs.Charges.{live_at, zombies_at}
use Rattle.std.proofs.Common.{is_some, ◌+◌, ◌&&◌, None, Some, refl, sym, ap, ◌∙◌}
use Rattle.process_threads.specs.Threads.{left_at}
use Rattle.task_tree.specs.declared.Task.{Task}
use Rattle.task_tree.specs.Tree.{has_live, lives}
use Rattle.task_table.specs.Store.{one_if}
use Rattle.task_table.specs.Residents.{live_home}
use Rattle.task_table.proofs.Changes as changes
use Rattle.task_table.proofs.Housed as housed
use Rattle.task_table.proofs.Tasks.update.Goals as goal

pub invariant_of-self : goal.invariant_of-self
invariant_of-self c = record {
  agree =
      let life = rw (← c.self.view_is) at c.requires.life in
      let home = rw (← c.self.view_is) at c.requires.home in
      let t = changes.held_of (λ (t : Task). t.life) c.args.task.life (slice_index_or c.self.inside.tree.tasks c.args.key None) life in
      let same_home = changes.field_is (λ (t : Task). t.home) t.0 c.args.task.home (slice_index_or c.self.inside.tree.tasks c.args.key None) t.1 home in
      let same_life = changes.field_is (λ (t : Task). t.life) t.0 c.args.task.life (slice_index_or c.self.inside.tree.tasks c.args.key None) t.1 life in
      changes.retasked (record { numbering = c.self.inside.numbers; tree = c.self.inside.tree; members = c.self.inside.members; charges = c.self.inside.controls; threads = c.self.inside.threads }) _ c.self.invariant.agree
      c.args.key t.0 c.args.task t.1 refl refl refl c.update.ensures.tasks
      (λ left. ap (λ l. lives (record c.args.task { life = l })) (sym same_life) ∙ sym (ap has_live t.1) ∙ c.self.invariant.agree.marks c.args.key left)
      (λ h. ap (λ b. one_if (left_at c.self.inside.threads c.args.key && b)) (sym (changes.lives_alike h t.0 c.args.task same_home same_life)))
      (λ h. ap (λ n. live_at c.self.inside.controls h + n) (changes.lives_same h t.0 c.args.task same_home same_life))
      (λ h. ap (λ n. zombies_at c.self.inside.controls h + n) (changes.waits_same h t.0 c.args.task same_home same_life))
      refl (λ k p r e. c.self.invariant.agree.ranks k p r (sym (ap (λ l. slice_index_or l k None) c.update.ensures.ranks) ∙ e));
  threaded =
      c.self.invariant.threaded;
  housed =
      let life = rw (← c.self.view_is) at c.requires.life in
      let home = rw (← c.self.view_is) at c.requires.home in
      let t = changes.held_of (λ (t : Task). t.life) c.args.task.life (slice_index_or c.self.inside.tree.tasks c.args.key None) life in
      let same_home = changes.field_is (λ (t : Task). t.home) t.0 c.args.task.home (slice_index_or c.self.inside.tree.tasks c.args.key None) t.1 home in
      let same_life = changes.field_is (λ (t : Task). t.life) t.0 c.args.task.life (slice_index_or c.self.inside.tree.tasks c.args.key None) t.1 life in
      housed.changed c.self.inside.controls c.self.inside.controls c.self.inside.tree.tasks c.update.new.self.tasks c.self.inside.residents c.self.inside.residents c.self.invariant.housed c.args.key (Some c.args.task) c.update.ensures.tasks
      (changes.in_range c.self.inside.tree.tasks c.args.key (ap is_some t.1))
      (housed.stays c.self.inside.controls c.self.inside.tree.tasks c.self.inside.residents c.self.invariant.housed c.args.key (live_home (Some c.args.task)) (ap live_home t.1 ∙ housed.home_same t.0 c.args.task same_home same_life))
      (λ c up. up);
}
