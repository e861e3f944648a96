use Rattle.std.proofs.Common.{◌≡◌, ℕ, false, ◌&&◌, ◌==◌, sym, ap}
use Rattle.std.specs.Option.{option_map_or}
use Rattle.pid_numbers.specs.Numbering.{identifier_at}
use Rattle.task_tree.specs.Tree.{task_at, is_subreaper}
use Rattle.ns_teardown.specs.Heirs.{is_subreaper_of, ancestor_keys}
use Rattle.ns_teardown.proofs.Ancestors as ancestors
use Rattle.ns_teardown.proofs.heirs.nearest_subreaper.Goals as goal

pub returns-then-not-any_subreaper : goal.returns-then-not-any_subreaper
returns-then-not-any_subreaper c =
    let s = c.args.store.now in
    let none : (k : ℕ) → is_subreaper (task_at s.tree k) ≡ false = rw c.tree.ensures at c.any_subreaper.ensures.none c.if-not-any_subreaper.true in
    sym (ancestors.found-none (is_subreaper_of s c.args.space) (λ k. ap (λ b. b && option_map_or (λ u. u.space == c.args.space) (identifier_at s.numbering k) false) (none k)) (ancestor_keys s c.args.key))
