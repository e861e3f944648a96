-- The new namespace takes a key that none had, so it is on no identifier's path
use Rattle.std.proofs.Common.{◌≡◌, ◌≢◌, ◌<◌, ℕ, [], length, None, Result, Ok, Err, IfOk, OnErr, ap, arith, ◌∙◌}
use Rattle.std.specs.Option.{option_map_or}
use Rattle.pid_numbers.specs.Numbering.{Numbering, namespace_at, path_at}
use Rattle.task_table.specs.Store.{Store}
use Rattle.task_table.proofs.Rest as rest
use Rattle.task_table.proofs.Threaded as threads
use Rattle.task_table.proofs.Tasks.add_space.Goals as goal

-- a namespace with a path keeps it
kept : {X : Type 0} (old new : Numbering) (r : Result ℕ X) → IfOk r (λ key. namespace_at old key ≡ None) → IfOk r (λ key. (s : ℕ) → s ≢ key → namespace_at new s ≡ namespace_at old s)
    → OnErr r (new ≡ old) → (s : ℕ) → 0 < length (path_at old s) → path_at new s ≡ path_at old s
kept old new (Err e) fresh others same s some = ap (λ b. path_at b s) same
kept old new (Ok key) fresh others same s some =
    ap (λ o. option_map_or (λ t. t.path) o []) (others s (λ e. let l = ap length (ap (path_at old) e ∙ ap (λ o. option_map_or (λ t. t.path) o []) fresh) in omega (arith, some, l)))

pub invariant_of-self : goal.invariant_of-self
invariant_of-self c = record {
  agree =
      let old : Store = record { numbering = c.self.inside.numbers; tree = c.self.inside.tree; members = c.self.inside.members; charges = c.self.inside.controls; threads = c.self.inside.threads } in
      rest.renumbered-where old c.add_space.new.self c.self.invariant.agree c.add_space.ensures.names
      (λ i u is. kept c.self.inside.numbers c.add_space.new.self c.add_space.result c.add_space.ensures.fresh c.add_space.ensures.others c.add_space.ensures.err u.space
      (let f = c.laws.ensures.full i u is in let a = f.0 in let b = f.1 in omega (arith, a, b)));
  threaded = threads.still c.self.inside.numbers c.add_space.new.self c.self.inside.threads c.self.invariant.threaded (threads.same c.self.inside.numbers c.add_space.new.self c.add_space.ensures.names);
  housed =
      c.self.invariant.housed;
}
