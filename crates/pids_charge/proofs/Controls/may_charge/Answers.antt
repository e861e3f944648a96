use Rattle.pids_charge.proofs.Words.{Option, Some, ap, option_map, sym, ℕ, ◌∙◌, PidsLimit, first_full, total_at, tree_of, Node}
use Rattle.pids_charge.proofs.Views as views
use Rattle.pids_charge.proofs.Nearest as limits
use Rattle.pids_charge.proofs.Controls.may_charge.Goals as goal

pub full_above-requires-clause-home : goal.full_above-requires-clause-home
full_above-requires-clause-home c = views.there_in c.self.inside c.self.view_is c.args.home c.requires

pub node_at-requires : goal.node_at-requires
node_at-requires c =
    let f = ap (λ ts. first_full c.self.inside.nodes (total_at ts) ((tree_of c.self.inside.nodes).level c.args.home) c.args.home) (sym c.as_slice.ensures.value) ∙ sym c.full_above.ensures ∙ c.in-Some.is in
    limits.first_there c.self.inside.nodes (total_at c.self.inside.counters.items) ((tree_of c.self.inside.nodes).level c.args.home) c.args.home c.in-Some.key f

pub returns-in-Some : goal.returns-in-Some
returns-in-Some c =
    let full = ap (λ ts. first_full c.self.inside.nodes (total_at ts) ((tree_of c.self.inside.nodes).level c.args.home) c.args.home)
    (sym c.as_slice.ensures.value) ∙ sym c.full_above.ensures ∙ c.in-Some.is in
    sym (limits.charge_seen c.self.inside c.self.view_is c.self.invariant c.args.home c.requires
    ∙ ap (λ (o : Option ℕ). option_map PidsLimit (option_map (tree_of c.self.inside.nodes).id o)) full
    ∙ ap (λ i. Some (PidsLimit i)) (views.field-is (λ (n : Node). n.id) 0 c.self.inside.nodes c.in-Some.key c.node_at.result c.node_at.ensures))

pub returns-in-None : goal.returns-in-None
returns-in-None c =
    let full = ap (λ ts. first_full c.self.inside.nodes (total_at ts) ((tree_of c.self.inside.nodes).level c.args.home) c.args.home)
    (sym c.as_slice.ensures.value) ∙ sym c.full_above.ensures ∙ c.in-None.is in
    sym (limits.charge_seen c.self.inside c.self.view_is c.self.invariant c.args.home c.requires
    ∙ ap (λ (o : Option ℕ). option_map PidsLimit (option_map (tree_of c.self.inside.nodes).id o)) full)
