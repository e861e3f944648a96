use Rattle.std.proofs.Common.{◌≡◌, ◌+◌, ◌-◌, ◌∙◌, suc, length, Some, None, sym, ap, subst, arith}
use Rattle.pid_numbers.specs.Numbering.{Numbering}
use Rattle.task_tree.specs.Tree.{TreeOfTasks, parent_of}
use Rattle.sound_store.proofs.Marks.{IsAhead, ahead-on, ahead-none, ahead-out, reaches-child}
use Rattle.sound_store.proofs.chains.leads_up.Goals as goal

pub returns-in-None-clause-no : goal.returns-in-None-clause-no
returns-in-None-clause-no c is =
    let s = c.args.store.now in
    let top : parent_of s.tree c.loop.at ≡ None = ap (λ (t : TreeOfTasks). parent_of t c.loop.at) (sym c.tree-in-loop.ensures) ∙ sym c.parent.ensures ∙ c.in-None.is in
    ahead-none s c.args.known.now c.args.key (s.numbering.pid_max - c.loop.counter) c.loop.at c.requires.marked c.if-known-at.false top c.loop.invariant.ahead

pub loop-preserved : goal.loop-preserved
loop-preserved c =
    let s = c.args.store.now in
    let at = c.loop.at in
    let parent = c.in-Some.parent in
    let up : parent_of s.tree at ≡ Some parent = ap (λ (t : TreeOfTasks). parent_of t at) (sym c.tree-in-loop.ensures) ∙ sym c.parent.ensures ∙ c.in-Some.is in
    let bound = c.pid_max-end.ensures ∙ ap (λ (b : Numbering). b.pid_max) c.numbers.ensures in
    let left : s.numbering.pid_max - c.loop.counter ≡ suc (s.numbering.pid_max - (c.loop.counter + 1)) = omega (arith, c.loop-test.true, bound) in
    let inside = c.laws.ensures.known at parent (ap (λ (t : TreeOfTasks). parent_of t at) c.tree.ensures ∙ up) in
    let same = ap (λ (t : TreeOfTasks). length t.tasks) c.tree.ensures in
    let room = c.requires.marked.room in
    record {
      room = omega (arith, inside, same, room);
      ahead = ahead-on s c.args.known.now c.args.key (s.numbering.pid_max - (c.loop.counter + 1)) at parent c.if-known-at.false up
          (subst (λ n. IsAhead s c.args.known.now c.args.key n at) left c.loop.invariant.ahead);
      back = λ r. c.loop.invariant.back (reaches-child s at parent up r);
    }

pub returns-clause-no : goal.returns-clause-no
returns-clause-no c is =
    let s = c.args.store.now in
    let bound = c.pid_max-end.ensures ∙ ap (λ (b : Numbering). b.pid_max) c.numbers.ensures in
    let out : s.numbering.pid_max - c.loop.counter ≡ 0 = omega (arith, c.loop-test.false, bound) in
    ahead-out s c.args.known.now c.args.key c.loop.at c.requires.marked (subst (λ n. IsAhead s c.args.known.now c.args.key n c.loop.at) out c.loop.invariant.ahead)
