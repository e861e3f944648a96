-- Nobody was there, so nobody has a parent
use Rattle.std.proofs.Common.{◌≡◌, ◌<◌, inl, inr, Some, None, sym, ap, subst, ◌∙◌, arith}
use Rattle.std.specs.List.{AllByRecursion}
use Rattle.std.proofs.lemmas.Bool.{cases_eq}
use Rattle.pid_types.specs.declared.plain.Control.{Control}
use Rattle.task_table.specs.Store.{HasNoThreads}
use Rattle.task_tree.specs.Tree.{parent_of}
use Rattle.test_public.proofs.store_threads.begun.Goals as goal

pub returns-clause-parents : goal.returns-clause-parents
returns-clause-parents g c k p e =
    let b = c.in-Ok-fork.ensures.begun in
    elim (cases_eq k c.in-Ok-fork.field-0) [
      | inl same ↦ absurd (let z : None ≡ Some p = sym b.parent ∙ sym (ap (parent_of c.fork.new.self.tree) same) ∙ e in cc)
      | inr differs ↦ absurd (let z : None ≡ Some p = sym (b.parents k differs ∙ c.laws.ensures.absent k (c.in-Ok.ensures.tasks k)) ∙ e in cc)
    ]

pub returns-clause-controls : goal.returns-clause-controls
returns-clause-controls g c =
    subst (AllByRecursion (λ (g : Control). g.id < 1)) (sym (c.in-Ok-fork.ensures.begun.home.controls ∙ c.in-Ok.ensures.controls)) (omega arith, tt)

pub returns-clause-alone : goal.returns-clause-alone
returns-clause-alone g c = subst HasNoThreads (sym c.in-Ok-fork.ensures.begun.threads) c.in-Ok.ensures.threads
