use Rattle.std.proofs.Common.{◌≡◌, ◌∙◌, inl, inr, Some, false, ap, sym, subst, arith}
use Rattle.std.proofs.lemmas.Bool.{cases_eq}
use Rattle.task_tree.specs.Tree.{parent_of}
use Rattle.table_build.specs.Lines.{is_held}
use Rattle.table_build.proofs.Steps.{recent-kept}
use Rattle.pid_types.specs.declared.plain.Name.{Name}
use Rattle.pid_types.specs.Membership.{IsIn}
use Rattle.pid_types.specs.Names.{names_in_use}
use Rattle.model_laws.proofs.Names.{own_name_in_use}
use Rattle.task_table.proofs.Results.{on_err}
use Rattle.table_build.proofs.Places.{some_same}
use Rattle.table_build.proofs.settle.give_parent.Goals as goal

pub returns-then-eq-clause-keeps : goal.returns-then-eq-clause-keeps
returns-then-eq-clause-keeps c = grind arith

pub returns-in_default-clause-refused : goal.returns-in_default-clause-refused
returns-in_default-clause-refused c = grind arith

pub returns-then-eq-clause-given : goal.returns-then-eq-clause-given
returns-then-eq-clause-given c = grind arith

pub returns-clause-given : goal.returns-clause-given
returns-clause-given c = grind arith

pub returns-in_err-parent-clause-refused : goal.returns-in_err-parent-clause-refused
returns-in_err-parent-clause-refused c =
    on_err c.from_residual.result _ (λ text may.
    let r = ((may.sound.coherent.parents c.args.row.now may.inside).good c.in-Some.name c.in-Some.is).lives in
    let used = subst (λ (n : Name). IsIn n (names_in_use text.rows)) r.2 (own_name_in_use text.rows r.0 r.1) in
    let b = may.borne r.0 r.1 in
    c.in_err-parent.ensures.refused text may.sound may.part used b.0 (record { there = b.1.there; named = b.1.named ∙ r.2 }) b.2)

pub returns-clause-keeps : goal.returns-clause-keeps
returns-clause-keeps c =
    let p = c.in_ok-parent.ensures in
    let a = c.in_ok-adopt.ensures in
    record {
      keeps = a.adopted.keeps;
      recent = recent-kept c.args.store.now c.adopt.new.store c.named_parent.new.last a.adopted.keeps.names p.recent;
      real = λ k q e. elim (cases_eq k c.args.key) [
        | inl same ↦
            let one : Some c.in_ok-parent.parent ≡ Some q = sym a.parent ∙ ap (parent_of c.adopt.new.store.tree) (sym same) ∙ e in
            let is : c.in_ok-parent.parent ≡ q = some_same one in
            subst (λ i. is_held c.args.placed.now i ≡ false) is p.real
        | inr not ↦ c.requires.real k q (sym (a.parents k not) ∙ e)
      ];
    }
