use Rattle.std.proofs.Common.{◌≡◌, ◌≢◌, ◌∙◌, sym, subst, ℕ, List, Option, Some, None, MatchOption}
use Rattle.id_slab.specs.Ids.{key_of}
use Rattle.id_slab.proofs.Keys.{entry_of}
use Rattle.ns_tree.specs.Tree.{TreeOfSpaces, Node, id_in}
use Rattle.ns_tree.proofs.SpaceTree.find.Goals as goal

pub returns : goal.returns
returns c = subst (λ (t : TreeOfSpaces). MatchOption c.find.result ((s : ℕ) → id_in t.nodes s ≢ Some c.args.id) (λ s. id_in t.nodes s ≡ Some c.args.id)) c.self.view_is (go c.find.result c.find.ensures)
  where
    nodes : List (Option Node)
    nodes = c.self.inside.places.nodes

    go : (o : Option ℕ) → o ≡ key_of c.self.inside.order c.args.id → MatchOption o ((s : ℕ) → id_in nodes s ≢ Some c.args.id) (λ s. id_in nodes s ≡ Some c.args.id)
    go None e = λ s at. (let bad : None ≡ Some s = e ∙ c.self.invariant.listed.listed s c.args.id at in cc)
    go (Some k) e = entry_of (λ i s. id_in nodes s ≡ Some i) c.self.inside.order c.args.id k c.self.invariant.listed.each (sym e)
