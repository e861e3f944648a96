-- No entry and no bound changes, so all that is known stays; of the namespaces one has another cursor
use Rattle.pid_numbers.proofs.Words.{Option, ap, arith, if◌then◌else◌, option_map, refl, sym, ℕ, ◌==◌, ◌∙◌, ◌≡◌, ◌≢◌, cases_eq, eq-eqb, ne_eqb, Node, node_in}
use Rattle.pid_numbers.proofs.Words.{way, cursor_put, bound_on, cursor_on, entry_on, namespace_of, ident_at}
use Rattle.pid_numbers.proofs.Views as views
use Rattle.pid_numbers.proofs.Ties as ties
use Rattle.pid_numbers.proofs.Sweeps as sweeps
use Rattle.pid_numbers.proofs.Numbers.put_cursor.Goals as goal

pub put_cursor-requires : goal.put_cursor-requires
put_cursor-requires c =
    let z = views.held (node_in c.self.inside.tree.nodes c.args.space) (views.there c.self.inside c.self.view_is c.args.space c.requires) in
    views.there_in c.self.inside.tree.nodes c.self.inside.ids.items c.self.invariant.count c.args.space z.0 z.1

pub invariant_of-self : goal.invariant_of-self
invariant_of-self c =
    let ways = way c.self.inside.tree.nodes in
    let old = c.self.inside.ids.items in
    let new = c.put_cursor.new.ids.items in
    let names = ident_at c.self.inside.idents in
    sweeps.kept-with c.self.inside.pid_max c.self.inside.tree old new c.self.inside.idents c.self.inside.idents c.self.invariant c.put_cursor.ensures.count
    (ties.numbering-same c.self.inside.pid_max ways (entry_on old) (entry_on new) (bound_on old) (bound_on new) names names c.self.invariant.whole.numbering c.put_cursor.ensures.bound c.put_cursor.ensures.entries (λ i. refl))
    (λ s n i led. (i, ap (option_map (λ e. e.value)) (c.put_cursor.ensures.entries s n) ∙ led))

-- the cursor is put at one key
put : (space cursor s old new : ℕ) → (s ≡ space → new ≡ cursor) → (s ≢ space → new ≡ old) → new ≡ (if s == space then cursor else old)
put space cursor s old new here other = grind (arith, cases_eq, eq-eqb, ne_eqb)

seen : (space cursor s old new : ℕ) → new ≡ (if s == space then cursor else old) → (o : Option Node)
    → option_map (namespace_of new) o ≡ option_map (cursor_put space cursor s) (option_map (namespace_of old) o)
seen space cursor s old new is o = grind arith

pub returns-clause-namespaces : goal.returns-clause-namespaces
returns-clause-namespaces c s =
    let old = c.self.inside.ids.items in
    let new = c.put_cursor.new.ids.items in
    let nodes = c.self.inside.tree.nodes in
    views.namespace-at (cursor_on new) nodes s
    ∙ seen c.args.space c.args.cursor s (cursor_on old s) (cursor_on new s)
    (put c.args.space c.args.cursor s (cursor_on old s) (cursor_on new s) (λ same. ap (cursor_on new) same ∙ c.put_cursor.ensures.here) (c.put_cursor.ensures.others s))
    (node_in nodes s)
    ∙ ap (option_map (cursor_put c.args.space c.args.cursor s)) (sym (views.namespace_is c.self.inside c.self.view_is s))
