use Rattle.std.proofs.Common.{◌∙◌, sym, ap, subst, ◌++◌}
use Rattle.pid_types.specs.declared.call.Kind.TheVariants as kinds
use Rattle.translate.specs.Gathered.{numbers_of_keys, AreGathered}
use Rattle.translate.proofs.Pages.{gathered_children}
use Rattle.translate.proofs.page.children.Goals as goal

pub returns : goal.returns
returns c =
    let s = c.args.store.now in
    subst (AreGathered s c.args.space kinds.Task c.args.parent c.args.from)
    (sym (c.in_ok-gather.ensures ∙ ap (λ ns. ns ++ numbers_of_keys s.numbering c.args.space c.args.from c.children-children.result) c.new-numbers.ensures.items))
    (gathered_children s c.laws.ensures c.args.space c.args.from c.args.parent c.children-children.result (rw c.tree-2.ensures at c.children-children.ensures))
