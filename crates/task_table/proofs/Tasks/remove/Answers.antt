use Rattle.std.proofs.Common.{◌∙◌, is_some, None, ◌==◌, ◌&&◌, refl, ap, subst, arith}
use Rattle.pid_types.proofs.General.{held}
use Rattle.pid_types.specs.declared.call.Kind.TheVariants.{Group, Session}
use Rattle.groups_sessions.specs.Membership.{membership_at}
use Rattle.task_table.specs.Store.{Store, IsLess, one_if, is_kind}
use Rattle.task_table.proofs.Less as less
use Rattle.task_table.proofs.Groups as groups
use Rattle.task_table.proofs.Changes as changes
use Rattle.task_table.proofs.HomeCounts as homes
use Rattle.task_table.proofs.Housed as housed
use Rattle.task_table.proofs.Threaded as threads
use Rattle.task_table.proofs.Tasks.remove.Goals as goal

pub invariant_of-self : goal.invariant_of-self
invariant_of-self c = record {
  agree =
      let old : Store = record { numbering = c.self.inside.numbers; tree = c.self.inside.tree; members = c.self.inside.members; charges = c.self.inside.controls; threads = c.self.inside.threads } in
      let new : Store = record { numbering = c.take_use.new.numbers; tree = c.remove.new.self; members = c.leave.new.self; charges = c.leave_home.new.controls; threads = c.self.inside.threads } in
      let there = rw (← c.self.view_is) at c.requires.there in
      let stays = rw (← c.self.view_is) at c.requires.stays in
      let w = c.self.invariant.agree in
      let m = held (membership_at c.self.inside.members c.args.key) (changes.member_there old w c.args.key c.args.task there) in
      let group = groups.group_is c.self.inside.members c.args.key m.0 m.1 c.group-group.result c.group-group.ensures in
      let session = groups.session_is c.self.inside.members c.args.key m.0 m.1 c.session-session.result c.session-session.ensures in
      let uses : groups.UsesLeft c.self.inside.numbers c.take_use.new.numbers c.args.key m.0 = λ k i. (
      let a = c.take_uses.ensures.uses k i in
      let b = c.take_use.ensures.uses k i in
      let x = ap (λ g. one_if ((i == g) && is_kind k Group)) group in
      let y = ap (λ g. one_if ((i == g) && is_kind k Session)) session in
      omega (arith, a, b, x, y)) in
      let counts = homes.one-left c.self.inside.controls c.leave_home.new.controls c.args.task c.leave_home.ensures.home
      (λ live. changes.live_some old w c.args.key c.args.task there live stays) (changes.zombie_some old w c.args.key c.args.task there) in
      let l = less.IsLess-trans c.self.inside.numbers c.laws.ensures.full c.laws.ensures.own c.take_uses.new.numbers c.take_use.new.numbers c.take_uses.ensures.less c.take_use.ensures.less in
      groups.left old new w c.args.key c.args.task m.0 there m.1 c.remove.ensures.tasks c.leave.ensures refl stays uses (λ h. (counts h).0) (λ h. (counts h).1) c.leave_home.ensures.tasks
      (less.ranks-less c.self.inside.numbers c.laws.ensures.full c.laws.ensures.own c.take_use.new.numbers l c.remove.new.self c.laws-2.ensures.waiting
      (groups.others_left old w c.args.key m.0 c.take_use.new.numbers c.remove.new.self c.remove.ensures.tasks uses)
      (less.ranks-kept c.self.inside.numbers c.self.inside.tree c.remove.new.self c.args.key c.remove.ensures.rank c.remove.ensures.ranks w.ranks));
  threaded =
      threads.still c.self.inside.numbers c.take_use.new.numbers c.self.inside.threads c.self.invariant.threaded
      (threads.both c.self.inside.numbers c.take_uses.new.numbers c.take_use.new.numbers c.take_uses.ensures.threads c.take_use.ensures.threads);
  housed =
      let there = rw (← c.self.view_is) at c.requires.there in
      housed.changed c.self.inside.controls c.leave_home.new.controls c.self.inside.tree.tasks c.remove.new.self.tasks c.self.inside.residents c.leave_home.new.residents c.self.invariant.housed c.args.key None c.remove.ensures.tasks
      (changes.in_range c.self.inside.tree.tasks c.args.key (ap is_some there))
      (c.leave_home.ensures.residents ∙ housed.left c.self.inside.controls c.self.inside.tree.tasks c.self.inside.residents c.self.invariant.housed c.args.key c.args.task there)
      (housed.less-left c.self.inside.controls c.leave_home.new.controls c.args.task c.leave_home.ensures.home);
}

pub returns-clause-numbers : goal.returns-clause-numbers
returns-clause-numbers c =
    subst (λ (s : Store). IsLess s.numbering c.take_use.new.numbers) c.self.view_is
    (less.IsLess-trans c.self.inside.numbers c.laws.ensures.full c.laws.ensures.own c.take_uses.new.numbers c.take_use.new.numbers c.take_uses.ensures.less c.take_use.ensures.less)

pub leave_home-requires-clause-key : goal.leave_home-requires-clause-key
leave_home-requires-clause-key c =
    let there = rw (← c.self.view_is) at c.requires.there in
    let room = changes.in_range c.self.inside.tree.tasks c.args.key (ap is_some there) in
    let rooms = c.self.invariant.housed.within in
    omega (arith, room, rooms)

pub leave_home-requires-clause-live : goal.leave_home-requires-clause-live
leave_home-requires-clause-live c =
    let old : Store = record { numbering = c.self.inside.numbers; tree = c.self.inside.tree; members = c.self.inside.members; charges = c.self.inside.controls; threads = c.self.inside.threads } in
    let there = rw (← c.self.view_is) at c.requires.there in
    let stays = rw (← c.self.view_is) at c.requires.stays in
    λ live. changes.live_some old c.self.invariant.agree c.args.key c.args.task there live stays

pub leave_home-requires-clause-ended : goal.leave_home-requires-clause-ended
leave_home-requires-clause-ended c =
    let old : Store = record { numbering = c.self.inside.numbers; tree = c.self.inside.tree; members = c.self.inside.members; charges = c.self.inside.controls; threads = c.self.inside.threads } in
    let there = rw (← c.self.view_is) at c.requires.there in
    changes.zombie_some old c.self.invariant.agree c.args.key c.args.task there

pub take_uses-requires-clause-group : goal.take_uses-requires-clause-group
take_uses-requires-clause-group c =
    let old : Store = record { numbering = c.self.inside.numbers; tree = c.self.inside.tree; members = c.self.inside.members; charges = c.self.inside.controls; threads = c.self.inside.threads } in
    let there = rw (← c.self.view_is) at c.requires.there in
    let m = held (membership_at c.self.inside.members c.args.key) (changes.member_there old c.self.invariant.agree c.args.key c.args.task there) in
    rw (← groups.group_is c.self.inside.members c.args.key m.0 m.1 c.group-group.result c.group-group.ensures)
    (groups.group_used old c.self.invariant.agree c.args.key m.0 m.1)

pub take_uses-requires-clause-session : goal.take_uses-requires-clause-session
take_uses-requires-clause-session c =
    let old : Store = record { numbering = c.self.inside.numbers; tree = c.self.inside.tree; members = c.self.inside.members; charges = c.self.inside.controls; threads = c.self.inside.threads } in
    let there = rw (← c.self.view_is) at c.requires.there in
    let m = held (membership_at c.self.inside.members c.args.key) (changes.member_there old c.self.invariant.agree c.args.key c.args.task there) in
    rw (← groups.session_is c.self.inside.members c.args.key m.0 m.1 c.session-session.result c.session-session.ensures)
    (groups.session_used old c.self.invariant.agree c.args.key m.0 m.1)
