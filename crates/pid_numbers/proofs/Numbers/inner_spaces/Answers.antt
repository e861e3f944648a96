use Rattle.pid_numbers.proofs.Words.{ℕ, List, sym, subst}
use Rattle.ns_tree.specs.Tree.{AreInside}
use Rattle.pid_numbers.proofs.Views as views
use Rattle.pid_numbers.proofs.Numbers.inner_spaces.Goals as goal

pub children-requires : goal.children-requires
children-requires c = views.there c.self.inside c.self.view_is c.args.space c.requires

pub returns : goal.returns
returns c =
    subst (λ (ways : ℕ → List ℕ). AreInside ways c.args.space c.children.result)
    (λ i s. sym (views.path-of c.self.inside c.self.view_is s) i) c.children.ensures
