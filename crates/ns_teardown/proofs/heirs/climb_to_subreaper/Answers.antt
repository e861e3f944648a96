-- The climb may stop at the first ancestor in another namespace, since above that one none is in the task's own again
use Rattle.std.proofs.Common.{◌≡◌, ℕ, ◌+◌, Bool, true, false, cond, length, Some, None, refl, sym, ap, ◌∙◌, arith}
use Rattle.std.proofs.lemmas.Grind.{common_steps}
use Rattle.std.specs.Option.{option_map_or}
use Rattle.pid_types.specs.Chains.{climb}
use Rattle.pid_types.proofs.Ancestors.{found_above, climb-step, found-top}
use Rattle.model_laws.proofs.Chains.{Stops}
use Rattle.model_laws.proofs.Lists.{IsIn-from_contains}
use Rattle.task_tree.specs.Tree.{parent_of}
use Rattle.ns_teardown.specs.Heirs.{is_subreaper_of, nearest_subreaper_key}
use Rattle.ns_teardown.proofs.Climbs.{Stops-at_top, climb-shorter, found-up}
use Rattle.ns_teardown.proofs.Outer as outer
use Rattle.ns_teardown.proofs.Visible as visible
use Rattle.ns_teardown.proofs.heirs.climb_to_subreaper.Goals as goal
use Rattle.ns_teardown.proofs.heirs.climb_to_subreaper.Goals.{In-Some}

module _ (c : In-Some) where
  up : parent_of c.args.store.now.tree c.loop-parent.at ≡ Some c.in-Some.parent
  up = rw (← c.tree.ensures) (sym c.in-Some.ensures)

  stops : Stops (parent_of c.args.store.now.tree) (length c.args.store.now.tree.tasks) c.loop-parent.at
  stops =
      let t = c.args.store.now.tree in
      let top = c.requires.good.chain c.loop-parent.at c.loop-parent.invariant.there in
      Stops-at_top (parent_of t) (length t.tasks) c.loop-parent.at top.0 top.2 (IsIn-from_contains (climb (parent_of t) (length t.tasks) c.loop-parent.at) top.0 top.1)

  -- whether the parent passes says what is found
  found-by : (b : Bool) → is_subreaper_of c.args.store.now c.args.space c.in-Some.parent ≡ b
      → cond b (Some c.in-Some.parent) (found_above (parent_of c.args.store.now.tree) (is_subreaper_of c.args.store.now c.args.space) (length c.args.store.now.tree.tasks) c.in-Some.parent)
      ≡ nearest_subreaper_key c.args.store.now c.args.space c.args.key
  found-by b passes =
      let s = c.args.store.now in
      sym (found-up (parent_of s.tree) (is_subreaper_of s c.args.space) (length s.tree.tasks) c.loop-parent.at c.in-Some.parent stops up
      ∙ ap (λ b. cond b (Some c.in-Some.parent) (found_above (parent_of s.tree) (is_subreaper_of s c.args.space) (length s.tree.tasks) c.in-Some.parent)) passes)
      ∙ c.loop-parent.invariant.found

pub loop-parent-init : goal.loop-parent-init
loop-parent-init c = record {
  found = rw (climb-step (parent_of c.args.store.now.tree) (length c.args.store.now.tree.tasks + 1) (length c.args.store.now.tree.tasks) c.args.key refl) refl;
  there = c.requires.there;
  own = c.requires.own;
}

pub parent-requires : goal.parent-requires
parent-requires c = grind (arith, common_steps)

pub space_at-requires : goal.space_at-requires
space_at-requires c =
    let there = c.requires.good.parents c.loop-parent.at c.in-Some.parent (up (goal.at.space_at-requires c).In-Some) in
    rw (c.numbers.ensures, (visible.named c.args.store.now c.laws.ensures.agree c.in-Some.parent there).1) refl

pub loop-parent-preserved : goal.loop-parent-preserved
loop-parent-preserved c =
    let d = (goal.at.loop-parent-preserved c).In-Some in
    let mark = rw c.tree-in-Some.ensures at c.is_subreaper_at.ensures in
    record {
      found = found-by d false (outer.unmarked c.args.store.now c.args.space c.in-Some.parent (sym mark ∙ c.if-is_subreaper_at.false));
      there = c.requires.good.parents c.loop-parent.at c.in-Some.parent (up d);
      own = rw c.numbers.ensures at c.space_at.ensures ∙ ap Some c.if-space_at-space.false;
    }

pub loop-parent-smaller : goal.loop-parent-smaller
loop-parent-smaller c =
    let d = (goal.at.loop-parent-smaller c).In-Some in
    climb-shorter (parent_of c.args.store.now.tree) (length c.args.store.now.tree.tasks) c.loop-parent.at c.in-Some.parent (stops d) (up d)

pub returns-then-is_subreaper_at : goal.returns-then-is_subreaper_at
returns-then-is_subreaper_at c =
    let mark = rw c.tree-in-Some.ensures at c.is_subreaper_at.ensures in
    let own = rw c.numbers.ensures at c.space_at.ensures ∙ ap Some c.if-space_at-space.false in
    found-by (goal.at.returns-then-is_subreaper_at c).In-Some true (outer.marked-here c.args.store.now c.args.space c.in-Some.parent (sym mark ∙ c.if-is_subreaper_at.true) own)

pub returns-then-space_at-space : goal.returns-then-space_at-space
returns-then-space_at-space c =
    let s = c.args.store.now in
    let d = (goal.at.returns-then-space_at-space c).In-Some in
    let own = rw c.numbers.ensures at c.space_at.ensures in
    let out = outer.left-space s c.laws.ensures c.requires.good c.args.space c.loop-parent.at c.in-Some.parent c.loop-parent.invariant.own (up d)
    (λ z. c.if-space_at-space.true (ap (λ o. option_map_or (λ (n : ℕ). n) o c.args.space) (sym own ∙ z))) in
    sym (outer.outer-none s c.laws.ensures c.requires.good c.args.space (length s.tree.tasks) c.in-Some.parent out)
    ∙ found-by d false (outer.outer-fails s c.laws.ensures c.requires.good c.args.space c.in-Some.parent out)

pub returns : goal.returns
returns c =
    let s = c.args.store.now in
    let top : parent_of s.tree c.loop-parent.at ≡ None = rw (← c.tree.ensures) (sym c.in_default.ensures) in
    found-top (parent_of s.tree) (is_subreaper_of s c.args.space) (length s.tree.tasks) c.loop-parent.at _ top c.loop-parent.invariant.found
