use Rattle.std.proofs.Common.{ap, subst, ◌∙◌, arith, true≢false}
use Rattle.std.specs.Prelude.{IfSome}
use Rattle.table_build.specs.Lines.{is_held}
use Rattle.table_build.specs.Recent.{Bears}
use Rattle.table_build.proofs.PartSteps.{one-bearer}
use Rattle.table_build.proofs.settle.named_parent.Goals as goal

pub returns-in_default-2-clause-refused : goal.returns-in_default-2-clause-refused
returns-in_default-2-clause-refused c = grind arith

pub returns-in_default-clause-refused : goal.returns-in_default-clause-refused
returns-in_default-clause-refused c = λ text sound part used k b real.
    let found = subst (λ o. IfSome o (λ key. Bears c.args.store.now key c.args.name.now)) c.in-Some.is c.in_ok-key.ensures.found in
    let same = one-bearer c.args.store.now c.laws.ensures c.in-Some.key k c.args.name.now found b in
    absurd (true≢false (c.if-not-is_placeholder.ensures ∙ ap (is_held c.args.placed.now) same ∙ real))
