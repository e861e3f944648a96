use Rattle.std.proofs.Common.{◌≡◌, ◌∙◌, ℕ, Option, None, Some, refl, sym, ap, subst, option_map, Vec, Global}
use Rattle.translate.specs.Pages.{ListsPage}
use Rattle.call_effects.proofs.Seen.{root_list, root_page}
use Rattle.call_effects.proofs.Stays.{root_calls}
use Rattle.call_effects.proofs.whom.list_from_root.Goals as goal

pub returns : goal.returns
returns c =
    root_list c.args.table.now c.args.whom c.args.number (Some c.in-Some.numbers.items) c.in-Some.numbers.items refl
    (subst (λ (o : Option (Vec ℕ Global)). ListsPage c.args.table.now (root_page c.args.whom c.args.number) (option_map (λ (v : Vec ℕ Global). v.items) o)) c.in-Some.is c.in_ok-numbers.ensures)

pub unreachable-requires : goal.unreachable-requires
unreachable-requires c =
    let r = root_calls c.args.table.now c.laws.ensures in
    let l = c.in_ok-numbers.ensures.listed r.0 r.1 in
    let z : option_map (λ (v : Vec ℕ Global). v.items) None ≡ Some l.0 = ap (option_map (λ (v : Vec ℕ Global). v.items)) (sym c.in-None.is) ∙ l.2 in cc
