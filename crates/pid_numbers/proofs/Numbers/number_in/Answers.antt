-- The path of an outer namespace is the end of the inner one's: so the difference of their lengths is the place of the number
use Rattle.pid_numbers.proofs.Words.{◌≡◌, ◌∙◌, sym, ap, subst, arith, ◌<◌, ◌-◌, length, get_or, IfSome, IsSome, Option, Some, option_map, beside, Identifier, way, ident_at, identifier_at, number_of, refl}
use Rattle.ns_tree.proofs.Paths as paths
use Rattle.pid_numbers.proofs.Views as views
use Rattle.pid_numbers.proofs.Sweeps as sweeps
use Rattle.pid_numbers.proofs.Numbers.number_in.Goals as goal
use Rattle.pid_numbers.proofs.Numbers.number_in.Goals.{After-levels-2}

-- there it is
pub own_number-requires : goal.own_number-requires
own_number-requires c =
    let h = views.home (ident_at c.self.inside.idents c.args.ident) c.in_ok-own.own c.in_ok-own.ensures in
    subst (λ (o : Option Identifier). IsSome o) (sym (views.identifier_is c.self.inside c.self.view_is c.args.ident ∙ h.1)) refl

-- in its own namespace it has the first one
pub returns-then-own-space : goal.returns-then-own-space
returns-then-own-space c =
    let h = views.home (ident_at c.self.inside.idents c.args.ident) c.in_ok-own.own c.in_ok-own.ensures in
    sym (subst (λ s. number_of c.args.self.now c.args.ident s ≡ Some c.own_number.result) (h.2 ∙ c.if-own-space.true)
    (views.at-some (λ u. number_of c.args.self.now c.args.ident u.space ≡ Some c.own_number.result) (identifier_at c.args.self.now c.args.ident) h.0 c.own_number.ensures
    (views.identifier_is c.self.inside c.self.view_is c.args.ident ∙ h.1)))

pub returns-then-not-is_within : goal.returns-then-not-is_within
returns-then-not-is_within c =
    let h = views.home (ident_at c.self.inside.idents c.args.ident) c.in_ok-own.own c.in_ok-own.ensures in
    sym (views.number-of c.self.inside c.self.view_is c.args.ident c.args.space c.in_ok-own.own h.0 h.1 h.2
    ∙ sweeps.off-path c.args.space (way c.self.inside.tree.nodes c.in_ok-own.own) h.0.numbers (sym c.if-not-is_within.ensures))

pub overflow_sub-place : goal.overflow_sub-place
overflow_sub-place c =
    let few = (paths.within (way c.self.inside.tree.nodes) c.self.invariant.whole.numbering.tree c.in_ok-own.own c.args.space (sym c.if-not-is_within.ensures)).1 in
    let a = c.levels.ensures.value in
    let b = c.levels-2.ensures.value in
    omega (arith, few, a, b)

-- the place of its number
placed : (c : After-levels-2) (u : Identifier) → ident_at c.self.inside.idents c.args.ident ≡ Some u → u.space ≡ c.in_ok-own.own
    → (c.levels.result - c.levels-2.result < length u.numbers) × (beside c.args.space (way c.self.inside.tree.nodes c.in_ok-own.own) u.numbers ≡ Some (get_or u.numbers (c.levels.result - c.levels-2.result) 0))
placed c u is at =
    let ways = way c.self.inside.tree.nodes in
    let b = c.self.invariant.whole.numbering in
    sweeps.beside-within ways b.tree c.in_ok-own.own c.args.space u.numbers (b.tied.full c.args.ident u is ∙ ap (λ s. length (ways s)) at) (sym c.if-not-is_within.ensures) (c.levels.result - c.levels-2.result)
    (ap (λ n. n - c.levels-2.result) c.levels.ensures.value ∙ ap (λ n. length (ways c.in_ok-own.own) - n) c.levels-2.ensures.value)

pub number_at-requires : goal.number_at-requires
number_at-requires c =
    let h = views.home (ident_at c.self.inside.idents c.args.ident) c.in_ok-own.own c.in_ok-own.ensures in
    subst (λ o. IfSome o (λ u. c.levels.result - c.levels-2.result < length u.numbers)) (sym h.1) (placed (goal.at.number_at-requires c).After-levels-2 h.0 h.1 h.2).0

pub returns : goal.returns
returns c =
    let h = views.home (ident_at c.self.inside.idents c.args.ident) c.in_ok-own.own c.in_ok-own.ensures in
    c.number_at.ensures ∙ ap (option_map (λ u. get_or u.numbers (c.levels.result - c.levels-2.result) 0)) h.1
    ∙ sym (views.number-of c.self.inside c.self.view_is c.args.ident c.args.space c.in_ok-own.own h.0 h.1 h.2
    ∙ (placed (goal.at.returns c).After-levels-2 h.0 h.1 h.2).1)
