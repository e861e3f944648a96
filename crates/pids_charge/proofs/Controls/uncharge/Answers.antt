-- The zombie goes, and then the nodes that were kept for zombies alone: neither step is seen in a group that stands
use Rattle.pids_charge.proofs.Words.{Option, ap, arith, option_and_then, refl, subst, sym, ◌-◌, ◌∙◌, Home, kept, IsListed, standing_key, IsNodeTree, TreeOfNodes}
use Rattle.pids_charge.proofs.Words.{tree_of, Node}
use Rattle.pids_charge.proofs.Views as views
use Rattle.pids_charge.proofs.Written as written
use Rattle.pids_charge.proofs.Dropped as dropped
use Rattle.pids_charge.proofs.Controls.uncharge.Goals as goal

pub take_zombie-requires-clause-some : goal.take_zombie-requires-clause-some
take_zombie-requires-clause-some c = omega (arith, views.zombies-of c.self.inside c.self.view_is c.args.home, c.requires)

pub drop_empty-requires-clause-there : goal.drop_empty-requires-clause-there
drop_empty-requires-clause-there c =
    ap (λ (t : TreeOfNodes). t.there c.args.home) c.take_zombie.ensures.changes.tree
    ∙ views.zombie_there c.self.inside.nodes c.args.home (omega (arith, views.zombies-of c.self.inside c.self.view_is c.args.home, c.requires))

pub invariant_of-self : goal.invariant_of-self
invariant_of-self c =
    dropped.IsKept-dropped c.take_zombie.new.nodes c.drop_empty.new.nodes c.drop_empty.ensures.drops c.take_zombie.new.counters.items c.self.inside.children c.self.inside.ids c.drop_empty.ensures.tree c.drop_empty.ensures.counted c.drop_empty.ensures.linked (subst (λ t. IsListed t c.self.inside.children c.self.inside.ids) (sym c.take_zombie.ensures.changes.tree) c.self.invariant.listed)
    (λ j on. c.self.invariant.room j (sym (ap (λ (t : TreeOfNodes). t.there j) c.take_zombie.ensures.changes.tree) ∙ on)) c.self.invariant.small

pub returns : goal.returns
returns c =
    let nodes = c.self.inside.nodes in
    let mid = c.take_zombie.new.nodes in
    let ids = c.self.inside.ids in
    let v = c.args.self.now in
    let less : Home → Option Home = λ h. kept (record h { zombies = h.zombies - 1 }) in
    let changed = written.home-changed nodes mid c.args.home
    (λ (n : Node). record n { zombies = n.zombies - 1 }) c.take_zombie.ensures.changes ids v c.self.view_is
    (option_and_then less) refl
    (λ n found.
    let own = views.field-is (λ (x : Node). x.zombies) 0 nodes c.args.home n found in
    let home : Home = record { id = (tree_of nodes).id (standing_key (tree_of nodes) c.args.home); stands = n.standing; live = n.live; zombies = n.zombies } in
    sym (ap (option_and_then less) (views.kept_some home (omega (arith, own, views.zombies-of c.self.inside c.self.view_is c.args.home, c.requires))))) in
    record {
      home = dropped.ChangesHome-dropped mid c.drop_empty.new.nodes c.drop_empty.ensures.drops v c.args.home _ c.self.inside.children ids
          (subst IsNodeTree (sym c.take_zombie.ensures.changes.tree) c.self.invariant.tree)
          (subst (λ t. IsListed t c.self.inside.children ids) (sym c.take_zombie.ensures.changes.tree) c.self.invariant.listed) changed;
      tasks = omega (arith, views.all-of c.self.inside c.self.view_is, views.all-is c.drop_empty.new.nodes ids);
    }
