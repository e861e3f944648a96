-- A limit is no part of the tree, and of the list of groups it changes the one with this id
use Rattle.pids_charge.proofs.Words.{None, ap, arith, map, sym, ◌∙◌, rules, get_or_read, limited as limited_to, Charges, home_at, home_id}
use Rattle.pids_charge.proofs.Words.{control_in, limit_in, tree_of}
use Rattle.pids_charge.proofs.Views as views
use Rattle.pids_charge.proofs.Limited as limited
use Rattle.pids_charge.proofs.Controls.set_limit.Goals as goal

pub node_at-node-requires : goal.node_at-node-requires
node_at-node-requires c = views.there_in c.self.inside c.self.view_is c.args.c c.requires

pub index_mut-requires : goal.index_mut-requires
index_mut-requires c = grind (arith, views.there, views.stand_in)

pub invariant_of-self : goal.invariant_of-self
invariant_of-self c =
    let up = views.stand_in c.self.inside c.self.view_is c.args.c c.requires in
    let room = (c.self.invariant.linked c.args.c (views.there c.self.inside.nodes c.args.c up)).room in
    limited.IsKept-limited c.self.inside.nodes c.set_node.new.nodes c.args.c c.node_at-node.result c.args.limit c.node_at-node.ensures c.set_node.ensures
    c.self.inside.counters.items c.self.inside.children c.self.inside.ids c.self.invariant up c.index_mut.result.now
    (get_or_read c.self.inside.counters.items c.args.c c.index_mut.result.now room c.index_mut.ensures.value
    (record { total = 0; limit = None; parent = None }))

pub returns : goal.returns
returns c =
    let nodes = c.self.inside.nodes in
    let ids = c.self.inside.ids in
    let up = views.stand_in c.self.inside c.self.view_is c.args.c c.requires in
    record {
      refusal = search rules;
      controls =
          limited.controls-limited nodes c.set_node.new.nodes c.args.c c.node_at-node.result c.args.limit c.node_at-node.ensures c.set_node.ensures
          c.self.inside.counters.items c.self.inside.children ids c.self.invariant up
          ∙ ap (λ i. map (limited_to i c.args.limit) (map (control_in (tree_of nodes) (limit_in nodes)) ids))
          (sym (views.id_in c.self.inside c.self.view_is c.args.c c.requires))
          ∙ ap (λ (x : Charges). map (limited_to (home_id c.args.self.now c.args.c) c.args.limit) x.controls) c.self.view_is;
      homes = λ k.
          limited.homes-limited nodes c.set_node.new.nodes c.args.c c.node_at-node.result c.args.limit c.node_at-node.ensures c.set_node.ensures
          c.self.inside.counters.items c.self.inside.children ids c.self.invariant up k ∙ ap (λ (x : Charges). home_at x k) c.self.view_is;
      tasks = omega (
        arith,
        views.all-of c.self.inside c.self.view_is,
        views.all-is c.set_node.new.nodes ids,
        limited.all-limited nodes c.set_node.new.nodes c.args.c c.node_at-node.result c.args.limit c.node_at-node.ensures c.set_node.ensures,
      );
      err = search rules;
    }
