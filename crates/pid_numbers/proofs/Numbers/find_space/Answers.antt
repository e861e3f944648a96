use Rattle.pid_numbers.proofs.Words.{◌≡◌, ◌≢◌, ◌∙◌, sym, ℕ, Option, Some, None, MatchOption, id_in, id_at}
use Rattle.pid_numbers.proofs.Views as views
use Rattle.pid_numbers.proofs.Numbers.find_space.Goals as goal

pub returns : goal.returns
returns c = go c.find.result c.find.ensures
  where
    is : (s : ℕ) → id_at c.args.self.now s ≡ id_in c.self.inside.tree.nodes s
    is = views.id_is c.self.inside c.self.view_is

    go : (o : Option ℕ) → MatchOption o ((s : ℕ) → id_in c.self.inside.tree.nodes s ≢ Some c.args.id) (λ s. id_in c.self.inside.tree.nodes s ≡ Some c.args.id) → MatchOption o ((s : ℕ) → id_at c.args.self.now s ≢ Some c.args.id) (λ s. id_at c.args.self.now s ≡ Some c.args.id)
    go None none = λ s at. none s (sym (is s) ∙ at)
    go (Some k) at = is k ∙ at
