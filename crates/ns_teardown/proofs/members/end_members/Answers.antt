-- Each member below the number reached is as after the fall, each above it as before, but that its parent may have gone already
use Rattle.std.proofs.Common.{◌≡◌, ◌<◌, ◌≤◌, IsSome, sym, subst, arith}
use Rattle.pid_types.specs.Controls.{control_at}
use Rattle.task_table.proofs.Less as less
use Rattle.ns_teardown.proofs.Falling as falling
use Rattle.task_table.proofs.Changed as changed
use Rattle.thread_ends.proofs.KeptHomes as homes
use Rattle.ns_teardown.proofs.members.end_members.Goals as goal

pub loop-number-init : goal.loop-number-init
loop-number-init c =
    record {
      slots = falling.midway-first c.args.store.now c.laws.ensures c.requires.parents c.args.space c.args.init c.args.status;
      numbers = changed.IsLess-same c.args.store.now.numbering c.laws.ensures.numbering;
      homes = homes.KeepsHomes-refl c.args.store.now.charges;
      threads = falling.threads-first c.args.store.now c.laws.ensures c.requires.parents c.args.space c.args.init c.args.status;
      below = omega arith;
    }

pub end_member-requires-clause-there : goal.end_member-requires-clause-there
end_member-requires-clause-there c =
    let found = rw c.numbers.ensures at c.in-Some.ensures in
    let here = rw c.numbers-in-Some.ensures at c.in-Some-find.ensures in
    let there = falling.task-found c.loop-number.store c.laws-in-Some.ensures.agree c.laws-in-Some.ensures.numbering.distinct c.args.space c.in-Some.number c.in-Some-find.key found.1 here in
    there

pub end_member-requires-clause-live : goal.end_member-requires-clause-live
end_member-requires-clause-live c =
    let found = rw c.numbers.ensures at c.in-Some.ensures in
    let here = rw c.numbers-in-Some.ensures at c.in-Some-find.ensures in
    let there = falling.task-found c.loop-number.store c.laws-in-Some.ensures.agree c.laws-in-Some.ensures.numbering.distinct c.args.space c.in-Some.number c.in-Some-find.key found.1 here in
    falling.still-live c.args.store.now c.laws.ensures c.requires.parents c.args.space c.args.init c.args.status c.loop-number.store c.laws-in-Some.ensures.agree c.loop-number.invariant.numbers c.loop-number.from c.loop-number.invariant.slots c.in-Some-find.key c.in-Some.number found.0 here there c.requires.live

pub end_member-requires-clause-visible : goal.end_member-requires-clause-visible
end_member-requires-clause-visible c =
    let found = rw c.numbers.ensures at c.in-Some.ensures in
    let here = rw c.numbers-in-Some.ensures at c.in-Some-find.ensures in
    let there = falling.task-found c.loop-number.store c.laws-in-Some.ensures.agree c.laws-in-Some.ensures.numbering.distinct c.args.space c.in-Some.number c.in-Some-find.key found.1 here in
    falling.seen c.args.store.now c.laws.ensures c.requires.parents c.args.space c.args.init c.args.status c.loop-number.store c.laws-in-Some.ensures.agree c.loop-number.invariant.numbers c.loop-number.from c.loop-number.invariant.slots c.in-Some-find.key c.in-Some.number found.0 here there c.requires.visible

pub loop-number-preserved : goal.loop-number-preserved
loop-number-preserved c =
    let found = rw c.numbers.ensures at c.in-Some.ensures in
    let here = rw c.numbers-in-Some.ensures at c.in-Some-find.ensures in
    let there = falling.task-found c.loop-number.store c.laws-in-Some.ensures.agree c.laws-in-Some.ensures.numbering.distinct c.args.space c.in-Some.number c.in-Some-find.key found.1 here in
    let in_range : c.in-Some.number < c.loop-number.store.numbering.pid_max = (c.laws-in-Some.ensures.numbering.range c.in-Some-find.key c.args.space c.in-Some.number here).1 in
    let bound : c.loop-number.store.numbering.pid_max ≡ c.args.store.now.numbering.pid_max = c.loop-number.invariant.numbers.bound in
    record {
      slots = falling.step c.args.store.now c.laws.ensures c.requires.parents c.args.space c.args.init c.args.status c.loop-number.store c.laws-in-Some.ensures.agree c.loop-number.invariant.numbers c.loop-number.from c.loop-number.invariant.slots c.in-Some-find.key c.in-Some.number found.0 here there found.2 c.end_member.new.store c.end_member.ensures.here c.end_member.ensures.others;
      numbers = less.IsLess-trans c.args.store.now.numbering c.laws.ensures.numbering.full c.laws.ensures.numbering.own c.loop-number.store.numbering c.end_member.new.store.numbering c.loop-number.invariant.numbers c.end_member.ensures.numbers;
      homes = homes.KeepsHomes-trans c.args.store.now.charges c.loop-number.store.charges c.end_member.new.store.charges c.loop-number.invariant.homes c.end_member.ensures.homes;
      threads = falling.threads-step c.args.store.now c.laws.ensures c.requires.parents c.args.space c.args.init c.args.status c.loop-number.store c.laws-in-Some.ensures.agree c.loop-number.invariant.numbers c.loop-number.from c.loop-number.invariant.slots c.in-Some-find.key c.in-Some.number found.0 here there found.2 c.requires.processes c.end_member.new.store c.loop-number.invariant.threads c.end_member.ensures.threads;
      below = omega (arith, in_range, bound);
    }

pub loop-number-smaller : goal.loop-number-smaller
loop-number-smaller c =
    let found = rw c.numbers.ensures at c.in-Some.ensures in
    let here = rw c.numbers-in-Some.ensures at c.in-Some-find.ensures in
    let above : c.loop-number.from ≤ c.in-Some.number = found.0 in
    let in_range : c.in-Some.number < c.loop-number.store.numbering.pid_max = (c.laws-in-Some.ensures.numbering.range c.in-Some-find.key c.args.space c.in-Some.number here).1 in
    let bound : c.loop-number.store.numbering.pid_max ≡ c.args.store.now.numbering.pid_max = c.loop-number.invariant.numbers.bound in
    omega (arith, above, in_range, bound)

pub overflow_add-from : goal.overflow_add-from
overflow_add-from c =
    let here = rw c.numbers-in-Some.ensures at c.in-Some-find.ensures in
    let in_range : c.in-Some.number < c.loop-number.store.numbering.pid_max = (c.laws-in-Some.ensures.numbering.range c.in-Some-find.key c.args.space c.in-Some.number here).1 in
    let bound : c.loop-number.store.numbering.pid_max ≡ c.args.store.now.numbering.pid_max = c.loop-number.invariant.numbers.bound in
    let good : c.args.store.now.numbering.pid_max ≤ 4194304 = c.requires.bound.1 in
    omega (arith, in_range, bound, good)

pub unreachable-requires : goal.unreachable-requires
unreachable-requires c = grind arith

pub returns-clause-slots : goal.returns-clause-slots
returns-clause-slots c =
    let none = rw c.numbers.ensures at c.in_default.ensures in
    falling.all-passed c.args.store.now c.laws.ensures c.requires.parents c.args.space c.args.init c.args.status c.loop-number.store c.laws-2.ensures.agree c.loop-number.invariant.numbers c.loop-number.from c.loop-number.invariant.slots none

pub returns-clause-threads : goal.returns-clause-threads
returns-clause-threads c =
    let none = rw c.numbers.ensures at c.in_default.ensures in
    falling.threads-passed c.args.store.now c.laws.ensures c.requires.parents c.args.space c.args.init c.args.status c.loop-number.store c.laws-2.ensures.agree c.loop-number.invariant.numbers c.loop-number.from c.loop-number.invariant.slots none c.requires.processes c.loop-number.invariant.threads

pub end_member-requires-clause-root : goal.end_member-requires-clause-root
end_member-requires-clause-root c = subst (λ controls. IsSome (control_at controls 0)) (sym c.loop-number.invariant.homes.controls) c.requires.root
