use Rattle.std.proofs.Common.{◌≡◌, ◌<◌, ◌≤◌, length, Some, ap, sym, ◌∙◌, arith, slice_get}
use Rattle.table_build.proofs.Steps.{moved-both, state-moved}
use Rattle.table_build.proofs.LineSteps.{get-is}
use Rattle.table_build.proofs.Places.{place_of}
use Rattle.table_build.proofs.SpaceFalls.{next-cursor, spaces-are, steady-same}
use Rattle.table_build.proofs.falls.put_cursors.Goals as goal

pub loop-index-preserved : goal.loop-index-preserved
loop-index-preserved c =
    let p = c.put_cursor.ensures in
    let i = c.loop-index.invariant in
    let spaces = c.args.saved.now.spaces.items in
    let lt : c.loop-index.index < length spaces = (let a = c.loop-index-test.true in let b = c.len-index-end.ensures in omega (arith, a, b)) in
    let here : slice_get spaces c.loop-index.index ≡ Some c.index.result.now = get-is spaces c.loop-index.index c.index.result.now lt ∙ ap Some (sym c.index.ensures) in
    record {
      moved = moved-both c.args.store.now c.loop-index.store c.put_cursor.new.store i.moved p.moved;
      put = next-cursor c.args.store.now.numbering c.laws.ensures.numbering c.loop-index.store.numbering c.put_cursor.new.store.numbering spaces c.loop-index.index c.index.result.now c.requires.listed i.put here p.here p.others;
    }

pub loop-index-init : goal.loop-index-init
loop-index-init c = grind arith

pub returns-clause-put : goal.returns-clause-put
returns-clause-put c =
    let i = c.loop-index.invariant in
    let spaces = c.args.saved.now.spaces.items in
    let all : length spaces ≤ c.loop-index.index = (let a = c.loop-index-test.false in let b = c.len-index-end.ensures in omega (arith, a, b)) in
    spaces-are c.loop-index.store.numbering c.laws-2.ensures.numbering spaces (steady-same c.args.store.now.numbering c.loop-index.store.numbering i.moved.spaces ∙ c.requires.listed)
    (λ x at. let j = place_of spaces x at in i.put j.0 x (let lt = j.2 in omega (arith, lt, all)) j.1)

pub returns-clause-rows : goal.returns-clause-rows
returns-clause-rows c = state-moved c.args.store.now c.loop-index.store c.loop-index.invariant.moved
