use Rattle.pid_numbers.proofs.Words.{◌≡◌, ◌∙◌, sym, ap, refl, ◌&&◌, ◌==◌, length, Some, None, true, slice_get, option_map_or, slice_get_read, slice_get_past}
use Rattle.pid_numbers.proofs.Words.{indexes, empty_on}
use Rattle.pid_numbers.proofs.Sweeps as sweeps
use Rattle.pid_numbers.proofs.spaces.is_dead.Goals as goal

pub returns-in-Some : goal.returns-in-Some
returns-in-Some c =
    let all = c.deref.result.now in
    let here = c.in-Some.ensures.lookup in
    let at : slice_get c.args.ids.now.items c.args.key ≡ Some c.in-Some.t.now = ap (λ l. slice_get l c.args.key) (sym c.deref.ensures.value) ∙ slice_get_read all (length all) c.args.key c.in-Some.t.now refl here.3.0 here.1 in
    sweeps.empty_is c.in-Some.t.now.places c.is_empty.result c.is_empty.ensures
    ∙ sym (ap (λ o. option_map_or (λ t. length (indexes t.places) == 0) o true) at)
    ∙ ap (λ b. b && empty_on c.args.ids.now.items c.args.key) (sym c.if-not-is_fallen.false ∙ c.is_fallen.ensures)

pub returns-in-None : goal.returns-in-None
returns-in-None c =
    let at : slice_get c.args.ids.now.items c.args.key ≡ None = ap (λ l. slice_get l c.args.key) (sym c.deref.ensures.value) ∙ slice_get_past c.deref.result.now c.args.key c.in-None.ensures.lookup.3 in
    sym (ap (λ o. option_map_or (λ t. length (indexes t.places) == 0) o true) at)
    ∙ ap (λ b. b && empty_on c.args.ids.now.items c.args.key) (sym c.if-not-is_fallen.false ∙ c.is_fallen.ensures)
