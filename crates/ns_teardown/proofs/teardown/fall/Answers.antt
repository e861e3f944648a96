-- Marking namespaces as fallen changes no number or parent: so how each member ends is told by the store before the fall
use Rattle.std.proofs.Common.{◌≡◌, IsSome, is_some, sym, ap, subst, ◌∙◌, arith}
use Rattle.pid_numbers.specs.Numbering.{path_at}
use Rattle.pid_types.specs.Controls.{control_at}
use Rattle.task_table.specs.Store.{Store}
use Rattle.thread_view.specs.Calling.{HasProcesses}
use Rattle.thread_ends.specs.Ending.{EndsProcesses}
use Rattle.ns_teardown.specs.Fall.{FallsWithin, is_visible_in, slot_at, slot_after_fall}
use Rattle.ns_teardown.proofs.Visible as visible
use Rattle.ns_teardown.proofs.Marked as marked
use Rattle.ns_teardown.proofs.teardown.fall.Goals as goal

pub fell-requires-clause-inner : goal.fell-requires-clause-inner
fell-requires-clause-inner c root =
    let x = visible.live_of _ c.requires.live in
    let u = visible.named c.args.store.now c.laws.ensures.agree c.args.init.now.key (ap is_some x.1) in
    (c.requires.top u.0 u.1).1 (sym (c.requires.own u.0 u.1) ∙ root)

pub returns-clause-homes : goal.returns-clause-homes
returns-clause-homes c = grind arith

pub fell-requires-clause-homes : goal.fell-requires-clause-homes
fell-requires-clause-homes c n inside stands =
    marked.all-homes c.args.store.now c.laws.ensures.agree c.requires.good n (marked.some_path (path_at c.args.store.now.numbering n) c.args.init.now.space inside) stands

pub end_members-requires-clause-visible : goal.end_members-requires-clause-visible
end_members-requires-clause-visible c =
    let space = c.args.init.now.space in
    let falls : FallsWithin space c.args.store.now.numbering c.fell.new.self.numbering =
    record { names = c.fell.ensures.names; order = c.fell.ensures.order; namespaces = c.fell.ensures.namespaces; bound = c.fell.ensures.bound } in
    marked.seen c.args.store.now c.fell.new.self space falls c.fell.ensures.rest c.laws.ensures c.requires.good

pub returns-clause-slots : goal.returns-clause-slots
returns-clause-slots c u is k =
    let init = c.args.init.now in
    let falls : FallsWithin init.space c.args.store.now.numbering c.fell.new.self.numbering =
    record { names = c.fell.ensures.names; order = c.fell.ensures.order; namespaces = c.fell.ensures.namespaces; bound = c.fell.ensures.bound } in
    let slots : slot_at c.end_members.new.store k ≡ slot_after_fall c.args.store.now init.space init.key c.args.status k =
    c.end_members.ensures.slots k ∙ marked.slot-marked c.args.store.now c.fell.new.self init.space falls c.fell.ensures.rest init.key c.args.status k in
    slots ∙ ap (λ s. slot_after_fall c.args.store.now s init.key c.args.status k) (c.requires.own u is)

pub returns-clause-numbers : goal.returns-clause-numbers
returns-clause-numbers c = grind arith

pub returns-clause-tree : goal.returns-clause-tree
returns-clause-tree c =
    let key = c.args.init.now.key in
    let x = visible.live_of _ c.requires.live in
    let u = visible.named c.args.store.now c.laws.ensures.agree key (ap is_some x.1) in
    marked.left-parents c.args.store.now c.end_members.new.store c.laws.ensures c.requires.good u.0.space key c.args.status (returns-clause-slots c u.0 u.1)

pub returns-clause-init : goal.returns-clause-init
returns-clause-init c =
    let key = c.args.init.now.key in
    let x = visible.live_of _ c.requires.live in
    let u = visible.named c.args.store.now c.laws.ensures.agree key (ap is_some x.1) in
    let first = (c.requires.top u.0 u.1).0 in
    returns-clause-slots c u.0 u.1 key
    ∙ marked.init-left c.args.store.now u.0.space key c.args.status first (marked.outer-parent c.args.store.now c.laws.ensures c.requires.good key u.0 u.1 first)

pub end_members-requires-clause-root : goal.end_members-requires-clause-root
end_members-requires-clause-root c = subst (λ (s : Store). IsSome (control_at s.charges.controls 0)) (sym c.fell.ensures.rest) c.requires.root

pub end_members-requires-clause-processes : goal.end_members-requires-clause-processes
end_members-requires-clause-processes c = subst HasProcesses (sym c.fell.ensures.rest) c.requires.processes

pub returns-clause-threads : goal.returns-clause-threads
returns-clause-threads c u is =
    let init = c.args.init.now in
    let falls : FallsWithin init.space c.args.store.now.numbering c.fell.new.self.numbering =
    record { names = c.fell.ensures.names; order = c.fell.ensures.order; namespaces = c.fell.ensures.namespaces; bound = c.fell.ensures.bound } in
    let same : is_visible_in c.fell.new.self.numbering init.space ≡ is_visible_in c.args.store.now.numbering u.space =
    (λ i k. is_some (marked.number-marked init.space c.args.store.now.numbering c.fell.new.self.numbering falls k init.space i)) ∙ ap (is_visible_in c.args.store.now.numbering) (c.requires.own u is) in
    subst (λ ends. EndsProcesses ends c.args.store.now.threads c.end_members.new.store.threads) same
    (subst (λ old. EndsProcesses (is_visible_in c.fell.new.self.numbering init.space) old c.end_members.new.store.threads) (ap (λ (s : Store). s.threads) c.fell.ensures.rest) c.end_members.ensures.threads)
