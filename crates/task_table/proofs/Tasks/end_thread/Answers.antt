use Rattle.std.proofs.Common.{is_some, None, ◌+◌, ◌≡◌, true, ap, subst, ◌∙◌, arith}
use Rattle.pids_charge.specs.Charges.{live_at}
use Rattle.pid_types.specs.declared.call.Kind.TheVariants.{Task}
use Rattle.pid_numbers.specs.Numbering.{is_thread, identifier_at}
use Rattle.task_table.specs.Store.{Store, IsLess, one_if, is_homed}
use Rattle.task_table.proofs.Changes as changes
use Rattle.task_table.proofs.Housed as housed
use Rattle.task_table.proofs.Less as less
use Rattle.task_table.proofs.ThreadChanges as threads
use Rattle.task_table.proofs.Tasks.end_thread.Goals as goal

pub uncharge_thread-requires : goal.uncharge_thread-requires
uncharge_thread-requires c =
    let old : Store = record { numbering = c.self.inside.numbers; tree = c.self.inside.tree; members = c.self.inside.members; charges = c.self.inside.controls; threads = c.self.inside.threads } in
    let there = rw (← c.self.view_is) at c.requires in
    threads.live_some old c.self.invariant.agree c.args.key c.args.thread there (changes.in_range c.self.inside.threads.threads c.args.key (ap is_some there))

pub free_thread-requires : goal.free_thread-requires
free_thread-requires c =
    let there = rw (← c.self.view_is) at c.requires in
    c.self.invariant.threaded.held c.args.key ∙ ap is_some there

pub invariant_of-self : goal.invariant_of-self
invariant_of-self c =
    let old : Store = record { numbering = c.self.inside.numbers; tree = c.self.inside.tree; members = c.self.inside.members; charges = c.self.inside.controls; threads = c.self.inside.threads } in
    let there = rw (← c.self.view_is) at c.requires in
    let room = changes.in_range c.self.inside.threads.threads c.args.key (ap is_some there) in
    let some = threads.live_some old c.self.invariant.agree c.args.key c.args.thread there room in
    let thread : is_thread (identifier_at c.self.inside.numbers c.args.key) ≡ true = c.self.invariant.threaded.held c.args.key ∙ ap is_some there in
    let counts = threads.went c.self.inside.controls c.uncharge_thread.new.controls c.args.thread c.uncharge_thread.ensures.home some in
    let f = c.free_thread.ensures in
    let uses = threads.unused-went c.self.inside.numbers c.free_thread.new.self c.args.key thread f.here f.others in
    let l = threads.less-one c.self.inside.numbers c.free_thread.new.self c.args.key f.here f.others f.namespaces f.order f.pid_max in
    record {
      agree =
          threads.changed old c.free_thread.new.self c.uncharge_thread.new.controls c.remove.new.self c.self.invariant.agree c.args.key None uses
          c.remove.ensures.threads c.remove.ensures.left room (λ h. ap (λ o. live_at c.uncharge_thread.new.controls h + one_if (is_homed h o)) there ∙ (let a = (counts h).0 in omega (arith, a))) (λ h. (counts h).1)
          (let a = c.uncharge_thread.ensures.tasks in let b = ap (λ o. one_if (is_some o)) there in omega (arith, a, b))
          (less.ranks-less c.self.inside.numbers c.laws.ensures.full c.laws.ensures.own c.free_thread.new.self l c.self.inside.tree c.laws-2.ensures.waiting
          (λ k on. let a = uses Task k in let b = c.self.invariant.agree.tasks k in let d = ap one_if on in omega (arith, a, b, d)) c.self.invariant.agree.ranks);
      threaded =
          threads.changed-threaded c.self.inside.numbers c.free_thread.new.self c.self.inside.threads c.remove.new.self c.self.invariant.threaded c.args.key None
          c.remove.ensures.threads room f.others (ap is_thread f.here);
      housed =
          housed.kept-tasks c.self.inside.tree.tasks c.self.inside.controls c.uncharge_thread.new.controls c.self.inside.residents c.self.invariant.housed
          (housed.less-left c.self.inside.controls c.uncharge_thread.new.controls (threads.as_task c.args.thread) c.uncharge_thread.ensures.home);
    }

pub returns-clause-numbers : goal.returns-clause-numbers
returns-clause-numbers c =
    let f = c.free_thread.ensures in
    subst (λ (s : Store). IsLess s.numbering c.free_thread.new.self) c.self.view_is
    (threads.less-one c.self.inside.numbers c.free_thread.new.self c.args.key f.here f.others f.namespaces f.order f.pid_max)
