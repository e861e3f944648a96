use Rattle.std.proofs.Common.{◌≡◌, ℕ, [], Option, Some, None, option_map, refl, ap, ◌∙◌}
use Rattle.std.specs.Option.{option_map_or}
use Rattle.pid_numbers.specs.Numbering.{Namespace, namespace_at, fallen_within}
use Rattle.task_table.specs.Store.{Store}
use Rattle.task_table.proofs.Rest as rest
use Rattle.task_table.proofs.Threaded as threads
use Rattle.task_table.proofs.Tasks.fell.Goals as goal

path_kept : (space : ℕ) (o : Option Namespace) → option_map_or (λ t. t.path) (option_map (fallen_within space) o) [] ≡ option_map_or (λ t. t.path) o []
path_kept space None = refl
path_kept space (Some t) = refl

pub invariant_of-self : goal.invariant_of-self
invariant_of-self c = record {
  agree =
      let old : Store = record { numbering = c.self.inside.numbers; tree = c.self.inside.tree; members = c.self.inside.members; charges = c.self.inside.controls; threads = c.self.inside.threads } in
      rest.renumbered old c.fell.new.self c.self.invariant.agree c.fell.ensures.names
      (λ s. ap (λ o. option_map_or (λ t. t.path) o []) (c.fell.ensures.namespaces s) ∙ path_kept c.args.space (namespace_at c.self.inside.numbers s));
  threaded = threads.still c.self.inside.numbers c.fell.new.self c.self.inside.threads c.self.invariant.threaded (threads.same c.self.inside.numbers c.fell.new.self c.fell.ensures.names);
  housed =
      c.self.invariant.housed;
}
