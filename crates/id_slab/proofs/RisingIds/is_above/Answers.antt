use Rattle.std.proofs.Common.{◌≡◌, ◌∙◌, ℕ, List, ◌-◌, subst, sym, ap, arith, get_or}
use Rattle.std.proofs.lemmas.Bool.Decides.{nat_tests}
use Rattle.std.proofs.lemmas.List.{get_or_default}
use Rattle.id_slab.specs.Ids.{AreBelow}
use Rattle.id_slab.specs.declared.Entry.{Entry}
use Rattle.id_slab.proofs.Lives as lives
use Rattle.id_slab.proofs.RisingIds.is_above.Goals as goal

pub returns-else-entries-eq0 : goal.returns-else-entries-eq0
returns-else-entries-eq0 c h =
    subst (λ (ids : List (ℕ × ℕ)). AreBelow ids c.args.id) c.self.view_is
    (lives.below-last c.args.id c.self.inside.entries.items c.self.invariant.0
    (λ k is.
    let place : c.len-entries.result - 1 ≡ k = omega (arith, is, c.len-entries.ensures) in
    let at = ap (λ (e : Entry). e.id) (get_or_default c.self.inside.entries.items k lives.none c.index.result.now (omega (arith, is)) ∙ ap (λ j. get_or c.self.inside.entries.items j c.index.result.now) (sym place) ∙ sym c.index.ensures) in
    grind (arith, nat_tests, h, at)))
