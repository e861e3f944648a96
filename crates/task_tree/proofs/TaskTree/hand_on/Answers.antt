use Rattle.task_tree.proofs.Handing as handing
use Rattle.task_tree.proofs.TaskTree.hand_on.Goals as goal

pub hand_all-requires-clause-apart : goal.hand_all-requires-clause-apart
hand_all-requires-clause-apart c = λ j k r a b. let h = rw (← c.self.view_is) at c.requires.apart in h j k r a b

pub invariant_of-self : goal.invariant_of-self
invariant_of-self c =
    handing.IsTree-handed c.self.inside.tasks c.self.inside.children c.self.inside.ended c.self.invariant c.args.from c.args.to
    (let h = rw (← c.self.view_is) at c.requires.to in h) (λ j k r a b. let h = rw (← c.self.view_is) at c.requires.apart in h j k r a b)
    c.hand_all.new.children c.hand_all.new.ended c.hand_all.ensures.parents c.hand_all.ensures.ranks c.hand_all.ensures.keys.0 c.hand_all.ensures.keys.1
