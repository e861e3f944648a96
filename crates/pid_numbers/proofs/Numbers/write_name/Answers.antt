-- An identifier that is there has a namespace that is there, and as many numbers as that has levels
use Rattle.pid_numbers.proofs.Words.{◌≡◌, ◌∙◌, sym, ap, subst, arith, refl, ◌≤◌, length, [], Option, Some, None, IfSome, option_map, option_map_or, Node}
use Rattle.pid_numbers.proofs.Words.{node_in, way, id_at, ident_at}
use Rattle.pid_numbers.proofs.Views as views
use Rattle.pid_numbers.proofs.Numbers.write_name.Goals as goal

-- a namespace without an id is not there
no_path : (o : Option Node) → option_map (λ t. t.id) o ≡ None → option_map_or (λ t. t.path) o [] ≡ []
no_path None e = refl
no_path (Some z) e = absurd (cc)

pub unreachable-requires-in_default-id : goal.unreachable-requires-in_default-id
unreachable-requires-in_default-id c =
    let ways = way c.self.inside.tree.nodes in
    let idents = c.self.inside.idents in
    let b = c.self.invariant.whole.numbering in
    let own = c.in-Some.own in
    let h = views.home (ident_at idents c.args.ident) own c.in-Some.ensures in
    let len : length h.0.numbers ≡ length (ways own) = b.tied.full c.args.ident h.0 h.1 ∙ ap (λ s. length (ways s)) h.2 in
    let some = b.tied.some c.args.ident h.0 h.1 in
    let none = ap length (no_path (node_in c.self.inside.tree.nodes own) (sym c.id.ensures ∙ c.in_default-id.is)) in
    omega (arith, len, some, none)

pub write_numbers_inwards-requires-clause-there : goal.write_numbers_inwards-requires-clause-there
write_numbers_inwards-requires-clause-there c =
    let ways = way c.self.inside.tree.nodes in
    let idents = c.self.inside.idents in
    let b = c.self.invariant.whole.numbering in
    let own = c.in-Some.own in
    let h = views.home (ident_at idents c.args.ident) own c.in-Some.ensures in
    let len : length h.0.numbers ≡ length (ways own) = b.tied.full c.args.ident h.0 h.1 ∙ ap (λ s. length (ways s)) h.2 in
    let all = c.levels-levels.ensures.value in
    subst (λ o. IfSome o (λ u. c.levels-levels.result ≤ length u.numbers)) (sym h.1) (omega (arith, len, all))

pub returns-clause-space : goal.returns-clause-space
returns-clause-space c =
    let h = views.home (ident_at c.self.inside.idents c.args.ident) c.in-Some.own c.in-Some.ensures in
    subst (λ o. IfSome o (λ u. id_at c.args.self.now u.space ≡ Some c.in-Some-id.space))
    (sym (views.identifier_is c.self.inside c.self.view_is c.args.ident ∙ h.1))
    (ap (id_at c.args.self.now) h.2 ∙ views.id_is c.self.inside c.self.view_is c.in-Some.own ∙ sym c.in-Some-id.ensures)
