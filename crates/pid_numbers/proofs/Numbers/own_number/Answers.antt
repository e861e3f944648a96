-- The path of a namespace begins with it: so the identifier's first number is the one there
use Rattle.pid_numbers.proofs.Words.{◌≡◌, ◌∙◌, sym, ap, subst, arith, ◌<◌, length, get_or, IfSome, Some, option_map, beside, Identifier, way, ℕ, List, IsPathTree, number_of, refl}
use Rattle.pid_numbers.specs.Table.{identifier_of}
use Rattle.ns_tree.proofs.Paths as paths
use Rattle.pid_numbers.proofs.Views as views
use Rattle.pid_numbers.proofs.Sweeps as sweeps
use Rattle.pid_numbers.proofs.Numbers.own_number.Goals as goal

own-number : (ways : ℕ → List ℕ) → IsPathTree ways → (own : ℕ) (numbers : List ℕ) → length numbers ≡ length (ways own) → 0 < length numbers
    → beside own (ways own) numbers ≡ Some (get_or numbers 0 0)
own-number ways tree own numbers len some =
    (sweeps.beside-within ways tree own own numbers len (paths.own-in ways tree own (omega (arith, len, some))) 0 (omega arith)).1

-- whom the read finds
pub first-requires : goal.first-requires
first-requires c = c.self.invariant.whole.numbering.tied.some c.args.ident _ (ap (option_map identifier_of) c.at.ensures)

pub returns : goal.returns
returns c =
    let u = identifier_of c.at.result.now in
    let at = ap (option_map identifier_of) c.at.ensures in
    let b = c.self.invariant.whole.numbering in
    subst (λ o. IfSome o (λ (v : Identifier). number_of c.args.self.now c.args.ident v.space ≡ Some c.first.result))
    (sym (views.identifier_is c.self.inside c.self.view_is c.args.ident ∙ at))
    (views.number-of c.self.inside c.self.view_is c.args.ident u.space u.space u at refl
    ∙ own-number (way c.self.inside.tree.nodes) b.tree u.space u.numbers (b.tied.full c.args.ident u at) (b.tied.some c.args.ident u at)
    ∙ ap Some (sym c.first.ensures))
