-- The process is charged as a live one before its charge as a zombie goes, and both counts are those of its tasks and marks again
use Rattle.std.proofs.Common.{◌≡◌, ◌+◌, ◌-◌, None, Some, is_some, if◌then◌else◌, sym, ap, subst, ◌∙◌, arith}
use Rattle.std.proofs.lemmas.Grind.{common_steps}
use Rattle.std.specs.Prelude.{slice_set, slice_index_or}
use Rattle.std.proofs.lemmas.List.Sums.{count_by-le-length}
use Rattle.pid_types.specs.declared.plain.Life.TheVariants.{Zombie}
use Rattle.pid_types.specs.declared.plain.Ended.TheVariants.{Killed}
use Rattle.pids_charge.specs.Charges.{Home, all_tasks}
use Rattle.task_table.specs.Store.{Store, ReturnsCharge}
use Rattle.task_table.proofs.Changes as changes
use Rattle.task_table.proofs.Housed as housed
use Rattle.task_table.proofs.Leaving as leaving
use Rattle.task_table.proofs.Tasks.return_first.Goals as goal

pub charge-requires-clause-few : goal.charge-requires-clause-few
charge-requires-clause-few c =
    let all = c.self.invariant.agree.all in
    omega (arith, all, count_by-le-length is_some c.self.inside.tree.tasks, c.laws.ensures.few, count_by-le-length is_some c.self.inside.threads.threads, c.laws-2.ensures.few)

pub uncharge-requires : goal.uncharge-requires
uncharge-requires c =
    let old : Store = record { numbering = c.self.inside.numbers; tree = c.self.inside.tree; members = c.self.inside.members; charges = c.self.inside.controls; threads = c.self.inside.threads } in
    let there = rw (← c.self.view_is) at c.requires.there in
    let left = rw (← c.self.view_is) at c.requires.left in
    let up = rw (← c.self.view_is) at c.requires.stands in
    leaving.still-zombie old c.charge.new.self c.self.invariant.agree c.args.key c.args.task c.args.to there left c.charge.ensures.home up

pub move_to-requires-clause-key : goal.move_to-requires-clause-key
move_to-requires-clause-key c = grind (arith, common_steps)

pub invariant_of-self : goal.invariant_of-self
invariant_of-self c =
    let old : Store = record { numbering = c.self.inside.numbers; tree = c.self.inside.tree; members = c.self.inside.members; charges = c.self.inside.controls; threads = c.self.inside.threads } in
    let there = rw (← c.self.view_is) at c.requires.there in
    let left = rw (← c.self.view_is) at c.requires.left in
    let up = rw (← c.self.view_is) at c.requires.stands in
    let all : all_tasks c.uncharge.new.self ≡ all_tasks c.self.inside.controls = (let a = c.charge.ensures.tasks in let b = c.uncharge.ensures.tasks in omega (arith, a, b)) in
    record {
      agree =
          leaving.returned old c.update.new.self c.uncharge.new.self c.clear_left.new.self c.self.invariant.agree c.args.key c.args.task c.args.to there c.requires.live left
          c.update.ensures.tasks c.clear_left.ensures.here c.clear_left.ensures.others c.clear_left.ensures.threads
          (leaving.counts-returned c.self.inside.controls c.charge.new.self c.uncharge.new.self c.args.task.home c.args.to c.charge.ensures.home c.uncharge.ensures.home up
          (leaving.still-zombie old c.charge.new.self c.self.invariant.agree c.args.key c.args.task c.args.to there left c.charge.ensures.home up)) all
          (λ k p r e. c.self.invariant.agree.ranks k p r (sym (ap (λ l. slice_index_or l k None) c.update.ensures.ranks) ∙ e));
      threaded = leaving.threads-kept c.self.inside.numbers c.self.inside.threads c.clear_left.new.self c.self.invariant.threaded c.clear_left.ensures.threads;
      housed =
          housed.changed c.self.inside.controls c.uncharge.new.self c.self.inside.tree.tasks c.update.new.self.tasks c.self.inside.residents c.move_to.new.self c.self.invariant.housed c.args.key
          (Some (record c.args.task { home = c.args.to })) c.update.ensures.tasks (changes.in_range c.self.inside.tree.tasks c.args.key (ap is_some there))
          (c.move_to.ensures ∙ ap (λ b. slice_set c.self.inside.residents c.args.key (if b then Some c.args.to else None)) (sym c.requires.live))
          (λ k more. housed.less-mapped c.self.inside.controls c.charge.new.self c.args.to (λ (h : Home). record h { live = h.live + 1 }) (λ h e. e) c.charge.ensures.home k
          (housed.less-left c.charge.new.self c.uncharge.new.self (record c.args.task { life = Zombie Killed }) c.uncharge.ensures.home k more));
    }

pub returns-clause-charges : goal.returns-clause-charges
returns-clause-charges c =
    subst (λ (s : Store). ReturnsCharge s.charges c.uncharge.new.self c.args.task.home c.args.to) c.self.view_is
    (leaving.homes-returned c.self.inside.controls c.charge.new.self c.uncharge.new.self c.args.task.home c.args.to c.charge.ensures.home c.uncharge.ensures.home)
