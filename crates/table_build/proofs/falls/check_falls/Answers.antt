use Rattle.std.proofs.Common.{◌≡◌, ◌<◌, inl, inr, length, Some, ap, sym, subst, ◌∙◌, arith, slice_get}
use Rattle.std.proofs.lemmas.Bool.{cases_eq}
use Rattle.pid_types.specs.declared.plain.Space.{Space}
use Rattle.task_table.proofs.Results.{on_err}
use Rattle.table_build.specs.Bare.{MayHaveFall}
use Rattle.table_build.proofs.LineSteps.{get-is}
use Rattle.table_build.proofs.Places.{at_place, place_of}
use Rattle.table_build.proofs.falls.check_falls.Goals as goal

pub returns-in_err-check_fall-clause-refused : goal.returns-in_err-check_fall-clause-refused
returns-in_err-check_fall-clause-refused c =
    let spaces = c.args.saved.now.spaces.items in
    let x = c.index.result.now in
    let lt : c.loop-index.index < length spaces = (let a = c.loop-index-test.true in let b = c.len-index-end.ensures in omega (arith, a, b)) in
    let here : slice_get spaces c.loop-index.index ≡ Some x = get-is spaces c.loop-index.index x lt ∙ ap Some (sym c.index.ensures) in
    on_err c.from_residual.result _ (λ each. c.in_err-check_fall.ensures.refused (each x (at_place spaces c.loop-index.index x here)))

pub loop-index-preserved : goal.loop-index-preserved
loop-index-preserved c j x lt at =
    let spaces = c.args.saved.now.spaces.items in
    let low : c.loop-index.index < length spaces = (let a = c.loop-index-test.true in let b = c.len-index-end.ensures in omega (arith, a, b)) in
    let here : slice_get spaces c.loop-index.index ≡ Some c.index.result.now = get-is spaces c.loop-index.index c.index.result.now low ∙ ap Some (sym c.index.ensures) in
    elim (cases_eq j c.loop-index.index) [
      | inl same ↦
          let own : c.index.result.now ≡ x = (let z : Some c.index.result.now ≡ Some x = sym here ∙ ap (slice_get spaces) (sym same) ∙ at in cc) in
          subst (λ (y : Space). MayHaveFall c.args.store.now.numbering c.args.flags.now y) own c.in_ok-check_fall.ensures.may
      | inr not ↦ c.loop-index.invariant j x (omega (arith, lt, not)) at
    ]

pub returns-clause-may : goal.returns-clause-may
returns-clause-may c x i =
    let j = place_of c.args.saved.now.spaces.items x i in
    c.loop-index.invariant j.0 x (let lt = j.2 in let a = c.loop-index-test.false in let b = c.len-index-end.ensures in omega (arith, lt, a, b)) j.1

pub loop-index-init : goal.loop-index-init
loop-index-init c = grind arith
