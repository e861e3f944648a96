use Rattle.std.proofs.Common.{◌≡◌, ℕ, [], Option, Some, None, option_map, refl, ap, ◌∙◌}
use Rattle.std.specs.Option.{option_map_or}
use Rattle.pid_numbers.specs.Numbering.{Namespace, namespace_at, cursor_put}
use Rattle.task_table.specs.Store.{Store}
use Rattle.task_table.proofs.Rest as rest
use Rattle.task_table.proofs.Threaded as threads
use Rattle.task_table.proofs.Tasks.put_cursor.Goals as goal

path_kept : (space cursor s : ℕ) (o : Option Namespace) → option_map_or (λ t. t.path) (option_map (cursor_put space cursor s) o) [] ≡ option_map_or (λ t. t.path) o []
path_kept space cursor s None = refl
path_kept space cursor s (Some t) = refl

pub invariant_of-self : goal.invariant_of-self
invariant_of-self c = record {
  agree =
      let old : Store = record { numbering = c.self.inside.numbers; tree = c.self.inside.tree; members = c.self.inside.members; charges = c.self.inside.controls; threads = c.self.inside.threads } in
      rest.renumbered old c.put_cursor.new.self c.self.invariant.agree c.put_cursor.ensures.names
      (λ s. ap (λ o. option_map_or (λ t. t.path) o []) (c.put_cursor.ensures.namespaces s) ∙ path_kept c.args.space c.args.cursor s (namespace_at c.self.inside.numbers s));
  threaded = threads.still c.self.inside.numbers c.put_cursor.new.self c.self.inside.threads c.self.invariant.threaded (threads.same c.self.inside.numbers c.put_cursor.new.self c.put_cursor.ensures.names);
  housed =
      c.self.invariant.housed;
}
