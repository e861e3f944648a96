use Rattle.std.proofs.Common.{◌≡◌, ◌∙◌, length, true, Some, sym, ap, arith}
use Rattle.std.proofs.lemmas.List.{length-set}
use Rattle.task_tree.specs.Tree.{TreeOfTasks, parent_of}
use Rattle.sound_store.proofs.Marks.{marked-set, reaches-parent, unmarked}
use Rattle.sound_store.proofs.chains.mark_way.Goals as goal

pub returns-in-None : goal.returns-in-None
returns-in-None c = marked-set c.args.store.now c.loop.known c.loop.at c.loop.invariant.room c.loop.invariant.reach c.loop.invariant.marked

pub loop-preserved : goal.loop-preserved
loop-preserved c =
    let s = c.args.store.now in
    let at = c.loop.at in
    let parent = c.in-Some.parent in
    let up : parent_of s.tree at ≡ Some parent = ap (λ (t : TreeOfTasks). parent_of t at) (sym c.tree-in-loop.ensures) ∙ sym c.parent.ensures ∙ c.in-Some.is in
    let inside = c.laws.ensures.known at parent (ap (λ (t : TreeOfTasks). parent_of t at) c.tree.ensures ∙ up) in
    let same = ap (λ (t : TreeOfTasks). length t.tasks) c.tree.ensures in
    let room = c.loop.invariant.marked.room in
    let long = length-set c.loop.known at true in
    record {
      marked = marked-set s c.loop.known at c.loop.invariant.room c.loop.invariant.reach c.loop.invariant.marked;
      room = omega (arith, inside, same, room, long);
      reach = reaches-parent s at parent up (unmarked s c.loop.known at c.loop.invariant.marked c.if-known-at.false) c.loop.invariant.reach;
    }
