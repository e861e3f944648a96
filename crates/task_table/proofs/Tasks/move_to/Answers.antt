-- The new uses come before the old ones go: so no identifier in use goes, and the counts of both kinds are the memberships' again
use Rattle.std.proofs.Common.{◌==◌, ◌&&◌, ap, subst, arith}
use Rattle.pid_types.proofs.General.{held}
use Rattle.pid_types.specs.declared.call.Kind.TheVariants.{Group, Session}
use Rattle.groups_sessions.specs.Membership.{Membership, membership_at}
use Rattle.task_table.specs.Store.{Store, IsLess, uses_at, one_if, is_kind}
use Rattle.task_table.proofs.Less as less
use Rattle.task_table.proofs.Groups as groups
use Rattle.task_table.proofs.Threaded as threads
use Rattle.task_table.proofs.Tasks.move_to.Goals as goal

pub take_uses-requires-clause-group : goal.take_uses-requires-clause-group
take_uses-requires-clause-group c =
    let old : Store = record { numbering = c.self.inside.numbers; tree = c.self.inside.tree; members = c.self.inside.members; charges = c.self.inside.controls; threads = c.self.inside.threads } in
    let there = rw (← c.self.view_is) at c.requires.there in
    let m = held (membership_at c.self.inside.members c.args.key) there in
    let mine = groups.group_used old c.self.invariant.agree c.args.key m.0 m.1 in
    let same = ap (uses_at c.self.inside.numbers Group) (groups.group_is c.self.inside.members c.args.key m.0 m.1 c.group-old_group.result c.group-old_group.ensures) in
    let more = c.add_uses.ensures.uses Group c.group-old_group.result in
    omega (arith, more, same, mine)

pub take_uses-requires-clause-session : goal.take_uses-requires-clause-session
take_uses-requires-clause-session c =
    let old : Store = record { numbering = c.self.inside.numbers; tree = c.self.inside.tree; members = c.self.inside.members; charges = c.self.inside.controls; threads = c.self.inside.threads } in
    let there = rw (← c.self.view_is) at c.requires.there in
    let m = held (membership_at c.self.inside.members c.args.key) there in
    let mine = groups.session_used old c.self.invariant.agree c.args.key m.0 m.1 in
    let same = ap (uses_at c.self.inside.numbers Session) (groups.session_is c.self.inside.members c.args.key m.0 m.1 c.session-old_session.result c.session-old_session.ensures) in
    let more = c.add_uses.ensures.uses Session c.session-old_session.result in
    omega (arith, more, same, mine)

pub invariant_of-self : goal.invariant_of-self
invariant_of-self c = record {
  agree =
      let old : Store = record { numbering = c.self.inside.numbers; tree = c.self.inside.tree; members = c.self.inside.members; charges = c.self.inside.controls; threads = c.self.inside.threads } in
      let there = rw (← c.self.view_is) at c.requires.there in
      let m = held (membership_at c.self.inside.members c.args.key) there in
      let n : Membership = record { group = c.args.group; session = c.args.session } in
      let group = groups.group_is c.self.inside.members c.args.key m.0 m.1 c.group-old_group.result c.group-old_group.ensures in
      let session = groups.session_is c.self.inside.members c.args.key m.0 m.1 c.session-old_session.result c.session-old_session.ensures in
      let changed : groups.UsesChange c.self.inside.numbers c.take_uses.new.numbers m.0 n = λ k i. (
      let a = c.add_uses.ensures.uses k i in
      let b = c.take_uses.ensures.uses k i in
      let x = ap (λ g. one_if ((i == g) && is_kind k Group)) group in
      let y = ap (λ g. one_if ((i == g) && is_kind k Session)) session in
      omega (arith, a, b, x, y)) in
      let l = less.IsLess-from c.self.inside.numbers c.add_uses.new.numbers c.take_uses.new.numbers c.add_uses.ensures.namespaces c.add_uses.ensures.order c.add_uses.ensures.bare c.add_uses.ensures.pid_max c.take_uses.ensures.less in
      groups.rejoined old c.self.invariant.agree c.args.key m.0 n m.1 c.take_uses.new.numbers changed c.move_to.new.self c.move_to.ensures
      (less.ranks-less c.self.inside.numbers c.laws.ensures.full c.laws.ensures.own c.take_uses.new.numbers l c.self.inside.tree c.laws-2.ensures.waiting
      (groups.task_left old c.self.invariant.agree c.take_uses.new.numbers m.0 n changed) c.self.invariant.agree.ranks);
  threaded =
      threads.still c.self.inside.numbers c.take_uses.new.numbers c.self.inside.threads c.self.invariant.threaded
      (threads.both c.self.inside.numbers c.add_uses.new.numbers c.take_uses.new.numbers c.add_uses.ensures.threads c.take_uses.ensures.threads);
  housed =
      c.self.invariant.housed;
}

pub returns-clause-numbers : goal.returns-clause-numbers
returns-clause-numbers c =
    subst (λ (s : Store). IsLess s.numbering c.take_uses.new.numbers) c.self.view_is
    (less.IsLess-from c.self.inside.numbers c.add_uses.new.numbers c.take_uses.new.numbers c.add_uses.ensures.namespaces c.add_uses.ensures.order c.add_uses.ensures.bare c.add_uses.ensures.pid_max c.take_uses.ensures.less)

pub add_uses-requires-clause-few : goal.add_uses-requires-clause-few
add_uses-requires-clause-few c k i =
    let old : Store = record { numbering = c.self.inside.numbers; tree = c.self.inside.tree; members = c.self.inside.members; charges = c.self.inside.controls; threads = c.self.inside.threads } in
    groups.few_uses old c.self.invariant.agree c.laws-3.ensures.few k i
