use Rattle.std.proofs.Common.{◌≡◌, ◌<◌, length, Some, ap, sym, ◌∙◌, arith, slice_get}
use Rattle.table_build.proofs.LineSteps.{get-is}
use Rattle.table_build.proofs.SpaceFalls.{flag-fewer, flag-next}
use Rattle.task_table.proofs.Results.{if_err}
use Rattle.table_build.proofs.Falling.{line-there}
use Rattle.table_build.proofs.Places.{at_place}
use Rattle.table_build.proofs.falls.fallen_flags.Goals as goal

pub loop-index-preserved : goal.loop-index-preserved
loop-index-preserved c =
    let e = c.in_ok-add_flag.ensures in
    let spaces = c.args.saved.now.spaces.items in
    let lt : c.loop-index.index < length spaces = (let a = c.loop-index-test.true in let b = c.len-index-end.ensures in omega (arith, a, b)) in
    let here : slice_get spaces c.loop-index.index ≡ Some c.index.result.now = get-is spaces c.loop-index.index c.index.result.now lt ∙ ap Some (sym c.index.ensures) in
    record {
      flagged = flag-next c.args.store.now.numbering spaces c.loop-index.index c.loop-index.flags.items c.add_flag.new.flags.items c.index.result.now c.loop-index.invariant.flagged here e.added;
      few = e.few c.loop-index.invariant.few;
    }

pub loop-index-init : goal.loop-index-init
loop-index-init c = grind arith

pub returns-clause-flagged : goal.returns-clause-flagged
returns-clause-flagged c =
    let a = c.loop-index-test.false in
    let b = c.len-index-end.ensures in
    flag-fewer c.args.store.now.numbering c.args.saved.now.spaces.items c.loop-index.index (length c.args.saved.now.spaces.items) c.loop-index.flags.items c.loop-index.invariant.flagged (omega (arith, a, b))

pub returns-in_err-add_flag-clause-refused : goal.returns-in_err-add_flag-clause-refused
returns-in_err-add_flag-clause-refused c =
    let spaces = c.args.saved.now.spaces.items in
    let x = c.index.result.now in
    let lt : c.loop-index.index < length spaces = (let a = c.loop-index-test.true in let b = c.len-index-end.ensures in omega (arith, a, b)) in
    let here : slice_get spaces c.loop-index.index ≡ Some x = get-is spaces c.loop-index.index x lt ∙ ap Some (sym c.index.ensures) in
    if_err c.from_residual.result _ c.in_err-add_flag.field-0.0 c.from_residual.ensures.1 (λ not listed.
    let k = line-there c.args.store.now.numbering c.laws.ensures.numbering spaces listed x (at_place spaces c.loop-index.index x here) in
    c.in_err-add_flag.ensures.refused not k.0 k.1)
