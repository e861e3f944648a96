use Rattle.std.proofs.Common.{ap, sym, ◌∙◌, refl, slice_get, arith}
use Rattle.std.proofs.lemmas.Grind.{common_steps}
use Rattle.pid_types.specs.declared.plain.Control.{Control}
use Rattle.table_build.proofs.ControlTrees.{root-at}
use Rattle.table_build.proofs.controls.check_root.Goals as goal

pub returns-then-root-ne0-clause-refused : goal.returns-then-root-ne0-clause-refused
returns-then-root-ne0-clause-refused c = λ _ good.
    c.if-root-ne0.true (ap (λ (x : Control). x.id) (root-at c.args.saved.now.controls.items c.in-Some.root.now (ap (λ l. slice_get l 0) (sym c.deref.ensures.value) ∙ sym c.in-Some.ensures.value) good))

pub returns-in_default-clause-refused : goal.returns-in_default-clause-refused
returns-in_default-clause-refused c = grind (arith, common_steps)

pub returns-then-not-is_root-clause-refused : goal.returns-then-not-is_root-clause-refused
returns-then-not-is_root-clause-refused c = λ _ good.
    c.if-not-is_root.ensures.no refl (root-at c.args.saved.now.controls.items c.in-Some.root.now (ap (λ l. slice_get l 0) (sym c.deref.ensures.value) ∙ sym c.in-Some.ensures.value) good)
