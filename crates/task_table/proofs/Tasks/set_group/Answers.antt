-- The new group's use comes before the old one's goes, and the two may be one: so the identifier never goes in between
use Rattle.std.proofs.Common.{◌≡◌, ◌+◌, ℕ, sym, ap, subst, ◌∙◌, option_map, arith}
use Rattle.std.specs.Prelude.{slice_set, ◌==◌, ◌&&◌}
use Rattle.pid_types.proofs.General.{held}
use Rattle.pid_types.specs.declared.call.Kind.{Kind}
use Rattle.pid_types.specs.declared.call.Kind.TheVariants.{Group}
use Rattle.groups_sessions.specs.Membership.{Membership, membership_at}
use Rattle.task_table.specs.Store.{Store, IsLess, uses_at, one_if, is_kind}
use Rattle.task_table.proofs.Less as less
use Rattle.task_table.proofs.UseCounts as uses
use Rattle.task_table.proofs.Groups as groups
use Rattle.task_table.proofs.Threaded as threads
use Rattle.task_table.proofs.Tasks.set_group.Goals as goal

pub add_use-requires-clause-few : goal.add_use-requires-clause-few
add_use-requires-clause-few c =
    let old : Store = record { numbering = c.self.inside.numbers; tree = c.self.inside.tree; members = c.self.inside.members; charges = c.self.inside.controls; threads = c.self.inside.threads } in
    uses.few-uses c.self.inside.numbers Group c.args.group (groups.few_groups old c.self.invariant.agree c.laws-3.ensures.few c.args.group)

pub add_use-requires-clause-there : goal.add_use-requires-clause-there
add_use-requires-clause-there c =
    let used = rw (← c.self.view_is) at c.requires.group in
    threads.used-there c.self.inside.numbers c.args.group used

pub take_use-requires : goal.take_use-requires
take_use-requires c =
    let old : Store = record { numbering = c.self.inside.numbers; tree = c.self.inside.tree; members = c.self.inside.members; charges = c.self.inside.controls; threads = c.self.inside.threads } in
    let there = rw (← c.self.view_is) at c.requires.there in
    let used = rw (← c.self.view_is) at c.requires.group in
    let group = threads.used-there c.self.inside.numbers c.args.group used in
    let m = held (membership_at c.self.inside.members c.args.key) there in
    let mine = groups.group_used old c.self.invariant.agree c.args.key m.0 m.1 in
    let same = groups.group_is c.self.inside.members c.args.key m.0 m.1 c.group-old.result c.group-old.ensures in
    let more = uses.uses-added c.self.inside.numbers c.add_use.new.self c.args.group Group c.add_use.ensures.others group c.add_use.ensures.here Group c.group-old.result in
    omega (arith, more, ap (uses_at c.self.inside.numbers Group) same, mine)

pub invariant_of-self : goal.invariant_of-self
invariant_of-self c = record {
  agree =
      let old : Store = record { numbering = c.self.inside.numbers; tree = c.self.inside.tree; members = c.self.inside.members; charges = c.self.inside.controls; threads = c.self.inside.threads } in
      let there = rw (← c.self.view_is) at c.requires.there in
      let used = rw (← c.self.view_is) at c.requires.group in
      let group = threads.used-there c.self.inside.numbers c.args.group used in
      let m = held (membership_at c.self.inside.members c.args.key) there in
      let same = groups.group_is c.self.inside.members c.args.key m.0 m.1 c.group-old.result c.group-old.ensures in
      let added = uses.uses-added c.self.inside.numbers c.add_use.new.self c.args.group Group c.add_use.ensures.others group c.add_use.ensures.here in
      let taken = subst (λ (g : ℕ). (k : Kind) (i : ℕ) → uses_at c.take_use.new.numbers k i + one_if ((i == g) && is_kind k Group) ≡ uses_at c.add_use.new.self k i) (sym same) c.take_use.ensures.uses in
      let l = less.IsLess-from c.self.inside.numbers c.add_use.new.self c.take_use.new.numbers c.add_use.ensures.namespaces c.add_use.ensures.order
      (uses.bare-added c.self.inside.numbers c.add_use.new.self c.args.group Group c.add_use.ensures.others group c.add_use.ensures.here) c.add_use.ensures.pid_max c.take_use.ensures.less in
      let n : Membership = record m.0 { group = c.args.group } in
      let changed : groups.UsesChange c.self.inside.numbers c.take_use.new.numbers m.0 n = λ k i. (let a = added k i in let b = taken k i in omega (arith, a, b)) in
      groups.rejoined old c.self.invariant.agree c.args.key m.0 n m.1 c.take_use.new.numbers changed
      c.join_group.new.self (c.join_group.ensures ∙ ap (λ o. slice_set c.self.inside.members c.args.key (option_map (λ (m : Membership). record m { group = c.args.group }) o)) m.1)
      (less.ranks-less c.self.inside.numbers c.laws.ensures.full c.laws.ensures.own c.take_use.new.numbers l c.self.inside.tree c.laws-2.ensures.waiting
      (groups.task_left old c.self.invariant.agree c.take_use.new.numbers m.0 n changed) c.self.invariant.agree.ranks);
  threaded =
      let used = rw (← c.self.view_is) at c.requires.group in
      threads.still c.self.inside.numbers c.take_use.new.numbers c.self.inside.threads c.self.invariant.threaded
      (threads.both c.self.inside.numbers c.add_use.new.self c.take_use.new.numbers
      (threads.added c.self.inside.numbers c.add_use.new.self c.args.group Group c.add_use.ensures.others used c.add_use.ensures.here) c.take_use.ensures.threads);
  housed =
      c.self.invariant.housed;
}

pub returns-clause-numbers : goal.returns-clause-numbers
returns-clause-numbers c =
    let used = rw (← c.self.view_is) at c.requires.group in
    let group = threads.used-there c.self.inside.numbers c.args.group used in
    subst (λ (s : Store). IsLess s.numbering c.take_use.new.numbers) c.self.view_is
    (less.IsLess-from c.self.inside.numbers c.add_use.new.self c.take_use.new.numbers c.add_use.ensures.namespaces c.add_use.ensures.order
    (uses.bare-added c.self.inside.numbers c.add_use.new.self c.args.group Group c.add_use.ensures.others group c.add_use.ensures.here) c.add_use.ensures.pid_max c.take_use.ensures.less)
