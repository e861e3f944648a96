use Rattle.std.proofs.Common.{List, Option, sym, ap, subst, ◌∙◌}
use Rattle.task_tree.specs.Tree.{rank_of}
use Rattle.pid_numbers.specs.Numbering.{number_of}
use Rattle.task_tree.specs.declared.Task.{Task}
use Rattle.task_table.specs.Store.{Store}
use Rattle.task_table.specs.Residents.{AreHoused}
use Rattle.task_table.proofs.Changes as changes
use Rattle.task_table.proofs.Rest as rest
use Rattle.task_table.proofs.Tasks.hand_on.Goals as goal

pub hand_on-requires-clause-apart : goal.hand_on-requires-clause-apart
hand_on-requires-clause-apart c j k r a b =
    let h = rw (← c.self.view_is) at c.requires.beside in
    let w = c.self.invariant.agree in
    let first = w.ranks j c.args.from r a h.0 h.2 in
    let second = w.ranks k c.args.to r b h.1 h.3 in
    let same = c.laws.ensures.distinct j k h.1.space r (ap (number_of c.self.inside.numbers j) (sym h.4) ∙ first) second in
    c.requires.differ (changes.first_of c.args.from c.args.to r r (sym a ∙ ap (rank_of c.self.inside.tree) same ∙ b))

pub invariant_of-self : goal.invariant_of-self
invariant_of-self c =
    let h = rw (← c.self.view_is) at c.requires.beside in
    let old : Store = record { numbering = c.self.inside.numbers; tree = c.self.inside.tree; members = c.self.inside.members; charges = c.self.inside.controls; threads = c.self.inside.threads } in
    record {
      agree =
          rest.rekinned old c.hand_on.new.self c.self.invariant.agree c.hand_on.ensures.tasks
          (changes.ranks-handed c.self.inside.numbers c.self.inside.tree c.hand_on.new.self c.args.from c.args.to h.0 h.1 h.2 h.3 h.4 c.hand_on.ensures.ranks c.self.invariant.agree.ranks);
      threaded = c.self.invariant.threaded;
      housed = subst (λ (tasks : List (Option Task)). AreHoused tasks c.self.inside.controls c.self.inside.residents) (sym c.hand_on.ensures.tasks) c.self.invariant.housed;
    }
