use Rattle.std.proofs.Common.{is_some, Some, ◌+◌, ◌-◌, refl, sym, ap, ◌∙◌, arith}
use Rattle.std.proofs.lemmas.Grind.{common_steps}
use Rattle.pid_types.specs.declared.plain.Life.TheVariants.{Zombie}
use Rattle.task_tree.specs.declared.Task.{Task}
use Rattle.task_tree.specs.Tree.{rank_of}
use Rattle.pids_charge.specs.Charges.{Home}
use Rattle.process_threads.specs.Threads.{left_at}
use Rattle.task_table.specs.Store.{Store, lives_in}
use Rattle.task_table.proofs.Marks as marks
use Rattle.task_table.proofs.Changes as changes
use Rattle.task_table.proofs.HomeCounts as homes
use Rattle.task_table.proofs.Housed as housed
use Rattle.task_table.proofs.Tasks.finish.Goals as goal

pub remove-requires-clause-key : goal.remove-requires-clause-key
remove-requires-clause-key c = grind (arith, common_steps)

pub finish-requires-clause-apart : goal.finish-requires-clause-apart
finish-requires-clause-apart c k p child e =
    let there = rw (← c.self.view_is) at c.requires.there in
    let visible = rw (← c.self.view_is) at c.requires.visible in
    let u = visible p child in
    let numbered = rw (← c.self.view_is) at c.rank_for-rank.ensures in
    let mine = numbered p child u.0 u.1 in
    let others = c.self.invariant.agree.ranks k p c.rank_for-rank.result e u.0 u.1 in
    let same = c.laws.ensures.distinct k c.args.key u.0.space c.rank_for-rank.result others mine in
    changes.no_rank c.self.inside.tree c.args.key c.args.task there c.requires.live (c.laws-2.ensures.waiting c.args.key) (p, c.rank_for-rank.result) (sym (ap (rank_of c.self.inside.tree) same) ∙ e)

pub rank_for-rank-requires-clause-key : goal.rank_for-rank-requires-clause-key
rank_for-rank-requires-clause-key c = grind (arith, common_steps)

pub invariant_of-self : goal.invariant_of-self
invariant_of-self c = record {
  agree =
      let there = rw (← c.self.view_is) at c.requires.there in
      let stays = rw (← c.self.view_is) at c.requires.stays in
      let old : Store = record { numbering = c.self.inside.numbers; tree = c.self.inside.tree; members = c.self.inside.members; charges = c.self.inside.controls; threads = c.self.inside.threads } in
      let task : Task = record c.args.task { life = Zombie c.args.end } in
      changes.retasked old _ c.self.invariant.agree c.args.key c.args.task task there refl refl refl c.finish.ensures.tasks
      (marks.not-marked (left_at c.self.inside.threads c.args.key) stays) (λ h. marks.unmarked (left_at c.self.inside.threads c.args.key) stays (lives_in h (Some task)) (lives_in h (Some c.args.task)))
      (homes.live-died c.self.inside.controls c.died.new.self c.args.task task c.died.ensures.home c.requires.live refl refl (changes.live_some old c.self.invariant.agree c.args.key c.args.task there c.requires.live stays))
      (homes.zombies-died c.self.inside.controls c.died.new.self c.args.task task c.died.ensures.home c.requires.live refl refl (changes.live_some old c.self.invariant.agree c.args.key c.args.task there c.requires.live stays))
      c.died.ensures.tasks
      (changes.ranks-finished c.self.inside.numbers c.self.inside.tree c.finish.new.self c.args.key c.rank_for-rank.result c.self.invariant.agree.ranks
      (let numbered = rw (← c.self.view_is) at c.rank_for-rank.ensures in numbered) c.finish.ensures.rank c.finish.ensures.others);
  threaded =
      c.self.invariant.threaded;
  housed =
      let there = rw (← c.self.view_is) at c.requires.there in
      housed.changed c.self.inside.controls c.died.new.self c.self.inside.tree.tasks c.finish.new.self.tasks c.self.inside.residents c.remove.new.self c.self.invariant.housed c.args.key (Some (record c.args.task { life = Zombie c.args.end })) c.finish.ensures.tasks
      (changes.in_range c.self.inside.tree.tasks c.args.key (ap is_some there)) c.remove.ensures
      (housed.less-mapped c.self.inside.controls c.died.new.self c.args.task.home (λ (h : Home). record h { live = h.live - 1; zombies = h.zombies + 1 }) (λ h e. e) c.died.ensures.home);
}

pub died-requires : goal.died-requires
died-requires c =
    let old : Store = record { numbering = c.self.inside.numbers; tree = c.self.inside.tree; members = c.self.inside.members; charges = c.self.inside.controls; threads = c.self.inside.threads } in
    let there = rw (← c.self.view_is) at c.requires.there in
    let stays = rw (← c.self.view_is) at c.requires.stays in
    changes.live_some old c.self.invariant.agree c.args.key c.args.task there c.requires.live stays
