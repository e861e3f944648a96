use Rattle.std.proofs.Common.{◌≡◌, ◌<◌, ◌+◌, length, arith, refl, subst}
use Rattle.pid_types.specs.declared.plain.Row.{Row}
use Rattle.task_table.specs.View.{row_of, state_of}
use Rattle.translate.specs.Pages.{numbers_asked, AreListedFrom}
use Rattle.translate.proofs.LeastFrom.{whole}
use Rattle.translate.proofs.page.list_page.Goals as goal

pub returns : goal.returns
returns c =
    let state = state_of c.args.store.now in
    let page = c.args.page.now in
    let row = row_of c.args.store.now c.in-Some.caller.key c.in-Some.caller.task in
    let found = c.in_ok-list_numbers.field-0 in
    let is = c.in-Some.ensures.row in
    let ok = found.ok in
    let small = found.small in
    let few : length found.items < 18446744073709551615 + 1 = omega (arith, ok.0, ok.1, small) in
    let all = whole (numbers_asked state row page.whom page.number) page.from (18446744073709551615 + 1) found.items c.in_ok-list_numbers.ensures few in
    record {
      nobody = λ none. absurd (cc);
      listed = λ caller e.
          let same : row ≡ caller = cc in
          (found.items, subst (λ (r : Row). AreListedFrom (numbers_asked state r page.whom page.number) page.from found.items) same all, refl);
    }
