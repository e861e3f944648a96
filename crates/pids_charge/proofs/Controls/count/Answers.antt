use Rattle.pids_charge.proofs.Words.{None, ap, arith, sym, ◌∙◌, get_or_read, Charges, charged_count, tree_of, Counter}
use Rattle.pids_charge.proofs.Views as views
use Rattle.pids_charge.proofs.Bridges as bridges
use Rattle.pids_charge.proofs.Controls.count.Goals as goal

pub index-requires : goal.index-requires
index-requires c =
    let s = views.stand_in c.self.inside c.self.view_is c.args.c c.requires in
    let room = (c.self.invariant.linked c.args.c (views.there c.self.inside.nodes c.args.c s)).room in
    omega (arith, room)

pub returns : goal.returns
returns c =
    let s = views.stand_in c.self.inside c.self.view_is c.args.c c.requires in
    let on = views.there c.self.inside.nodes c.args.c s in
    ap (λ (x : Counter). x.total) (get_or_read c.self.inside.counters.items c.args.c c.index.result.now (c.self.invariant.linked c.args.c on).room c.index.ensures (record { total = 0; limit = None; parent = None }))
    ∙ c.self.invariant.counted.counts c.args.c on
    ∙ sym (ap (charged_count c.args.self.now) (views.id_in c.self.inside c.self.view_is c.args.c c.requires)
    ∙ sym (ap (λ (v : Charges). charged_count v ((tree_of c.self.inside.nodes).id c.args.c)) c.self.view_is)
    ∙ bridges.count-is c.self.inside.nodes c.self.inside.children c.self.inside.ids c.self.invariant.tree c.self.invariant.listed c.args.c s)
