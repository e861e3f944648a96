-- The path is read before its namespace goes: where one is dead only those on its path are, and the next one is around it
use Rattle.std.proofs.Common.{arith}
use Rattle.std.proofs.lemmas.Grind.{common_steps}
use Rattle.pid_numbers.proofs.Words.{◌∙◌, refl, sym, ap, is_some, filter, node_in, way, id_in}
use Rattle.ns_tree.proofs.Orders as orders
use Rattle.pid_numbers.proofs.Climbs as climbs
use Rattle.pid_numbers.proofs.spaces.sweep.Goals as goal

pub loop-tree-init : goal.loop-tree-init
loop-tree-init c =
    let nodes = c.args.tree.now.nodes in
    record {
      around = c.requires;
      left = λ s. refl;
      order = sym (orders.all-there (id_in nodes) (id_in nodes) c.args.tree.now.order c.laws.ensures.listed (λ s. is_some (node_in nodes s)) (λ s i e. orders.id-there (node_in nodes s) i e));
      count = refl;
      tree = c.laws.ensures.tree;
      some = c.laws.ensures.some;
      listed = c.laws.ensures.listed;
    }

pub loop-tree-smaller : goal.loop-tree-smaller
loop-tree-smaller c = grind (arith, common_steps)

pub drop_space-requires-clause-bare : goal.drop_space-requires-clause-bare
drop_space-requires-clause-bare c = climbs.bare c.loop-tree.tree.nodes c.args.ids.now.items c.loop-tree.key c.loop-tree.invariant.around c.loop-tree.invariant.tree (sym c.is_dead.ensures ∙ c.loop-tree-test.true)

pub unreachable-requires : goal.unreachable-requires
unreachable-requires c = grind (arith, common_steps)

pub loop-tree-preserved : goal.loop-tree-preserved
loop-tree-preserved c =
    let old = c.loop-tree.tree.nodes in
    let new = c.drop_space.new.self.nodes in
    let ids = c.args.ids.now.items in
    let key = c.loop-tree.key in
    let i = c.loop-tree.invariant in
    let gone = c.drop_space.ensures in
    let dead = sym c.is_dead.ensures ∙ c.loop-tree-test.true in
    let up = climbs.above (way old) i.tree key c.in-Some.parent c.in-Some.ensures in
    record {
      around = climbs.around-next old ids key i.around i.tree dead new c.in-Some.parent up gone.here gone.others;
      left = λ s. climbs.left-next old ids key i.around i.tree dead new c.in-Some.parent up gone.here gone.others s ∙ i.left s;
      order = gone.order ∙ ap (filter (λ p. is_some (node_in new p.1))) i.order
          ∙ orders.filter-filter (λ p. is_some (node_in new p.1)) (λ p. is_some (node_in old p.1)) (λ p. climbs.there-before old ids key i.around i.tree dead new c.in-Some.parent up gone.here gone.others p.1) c.args.tree.now.order;
      count = gone.count ∙ i.count;
      tree = c.laws-in-loop-tree.ensures.tree;
      some = c.laws-in-loop-tree.ensures.some;
      listed = c.laws-in-loop-tree.ensures.listed;
    }
