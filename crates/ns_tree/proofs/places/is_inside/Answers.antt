-- The path of an outer namespace is the end of an inner one's: so the difference of their lengths is its place there
use Rattle.std.proofs.Common.{inl, inr, ◌∙◌, ap, arith, ◌<◌, ◌-◌, length, get_or, ◌==◌}
use Rattle.ns_tree.specs.Tree.{way}
use Rattle.ns_tree.proofs.Paths as paths
use Rattle.ns_tree.proofs.places.is_inside.Goals as goal

pub returns-then-from-eq0 : goal.returns-then-from-eq0
returns-then-from-eq0 c =
    let from = c.levels_at-from.ensures.value in
    let len = ap length c.path_of-path.ensures in
    paths.not-within (way c.args.places.now.nodes) c.requires c.args.key c.args.outer (λ some few. elim c.then-from-eq0.either [
      | inl zero ↦ omega (arith, zero, some, from)
      | inr w ↦ (let below = w.1 in omega (arith, below, few, from, len))
    ])

pub returns : goal.returns
returns c =
    let ways = way c.args.places.now.nodes in
    let from = c.levels_at-from.ensures.value in
    let len = ap length c.path_of-path.ensures in
    let place = c.if-end-from.false in
    let j = length c.path_of-path.result.now - c.levels_at-from.result in
    let some : 0 < length (ways c.args.outer) = omega (arith, from, c.if-from-eq0.false) in
    ap (λ p. get_or p j 0 == c.args.outer) c.path_of-path.ensures
    ∙ paths.within-by ways c.requires c.args.key c.args.outer j some (omega (arith, from, len, place)) (omega (arith, from, len, place))
