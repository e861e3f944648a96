-- The walk goes one level deeper in each call, as a path has one namespace more
use Rattle.std.proofs.Common.{◌≡◌, ◌∙◌, ◌++◌, ◌∷◌, ℕ, ◌<◌, List, [], length, Option, Some, None, IsSome, slice_get, refl, sym, ap, subst, arith, append_assoc, append-nil}
use Rattle.std.specs.List.{AllByRecursion}
use Rattle.std.specs.Option.{option_map_or}
use Rattle.member_lists.specs.Owners.{owner_of, AreMembers}
use Rattle.ns_tree.specs.Tree.{Node, IsPathTree, node_in, way, outer_of}
use Rattle.ns_tree.proofs.Fallen as fallen
use Rattle.ns_tree.proofs.fall.+fall_within.Goals as goal

-- the paths are those that they were
paths : (old new : ℕ → Option Node) (outer : ℕ) (met : List ℕ) → ((s : ℕ) → new s ≡ fallen.fallen_so_far outer met s (old s)) → (s : ℕ) → option_map_or (λ t. t.path) (new s) [] ≡ option_map_or (λ t. t.path) (old s) []
paths old new outer met so_far s = ap (λ o. option_map_or (λ t. t.path) o []) (so_far s) ∙ fallen.so_far-path outer met s (old s)

-- who is directly inside is there
there : (o : Option Node) (outer : ℕ) → slice_get (option_map_or (λ t. t.path) o []) 1 ≡ Some outer → IsSome o
there None outer at = absurd (cc)
there (Some t) outer at = refl

-- what comes next of a list of members is directly inside
owned-next : (owners : List (Option ℕ)) (outer : ℕ) (before : List ℕ) (next : ℕ) (rest : List ℕ) → AllByRecursion (λ k. owner_of owners k ≡ Some outer) (before ++ next ∷ rest) → owner_of owners next ≡ Some outer
owned-next owners outer [] next rest all = all.0
owned-next owners outer (k ∷ ks) next rest all = owned-next owners outer ks next rest all.1

pub loop-inner-init : goal.loop-inner-init
loop-inner-init t c = record {
  count = c.mark_fallen.ensures.count;
  walk = subst (AreMembers c.args.children.now c.args.outer) (sym c.into_iter-inner-iterator.ensures.into_iter_gives) c.members-inner-items.ensures;
  so_far = fallen.begun c.args.outer (node_in c.args.places.now.nodes) (node_in c.mark_fallen.new.self.nodes) c.mark_fallen.ensures.here c.mark_fallen.ensures.others;
}

pub fall_within-requires : goal.fall_within-requires
fall_within-requires t c =
    let old = node_in c.args.places.now.nodes in
    let same = paths old (node_in c.loop-inner.places.nodes) c.args.outer c.loop-inner.yielded c.loop-inner.invariant.so_far in
    let next : AreMembers c.args.children.now c.args.outer (c.loop-inner.yielded ++ c.in-Some.inner ∷ c.next.new.self) = subst (λ l. AreMembers c.args.children.now c.args.outer (c.loop-inner.yielded ++ l)) c.in-Some.ensures.steps c.loop-inner.invariant.walk in
    let owned = owned-next c.args.children.now c.args.outer c.loop-inner.yielded c.in-Some.inner c.next.new.self next.owned in
    let inside : outer_of (way c.args.places.now.nodes) c.in-Some.inner ≡ Some c.args.outer = sym (c.requires.owners c.in-Some.inner) ∙ owned in
    let deeper = fallen.deeper (way c.args.places.now.nodes) c.requires.tree c.args.outer c.in-Some.inner inside in
    let few = c.requires.tree.few c.in-Some.inner in
    let level = ap length (same c.in-Some.inner) in
    let d = c.decreases in
    let count = c.loop-inner.invariant.count in
    let lists = c.requires.lists in (
      omega (arith, deeper, few, level, d),
      (
        there (node_in c.loop-inner.places.nodes c.in-Some.inner) c.args.outer (ap (λ p. slice_get p 1) (same c.in-Some.inner) ∙ inside),
        (
          subst IsPathTree (λ i s. sym (same s) i) c.requires.tree,
          (
            (λ s is. subst (λ (p : List ℕ). 0 < length p) (sym (same s)) (c.requires.some s (fallen.was-there c.args.outer c.loop-inner.yielded s (old s) (subst IsSome (c.loop-inner.invariant.so_far s) is)))),
            (
              (λ s. c.requires.owners s ∙ ap (λ p. slice_get p 1) (sym (same s))),
              omega (arith, count, lists),
            ),
          ),
        ),
      ),
    )

pub loop-inner-preserved : goal.loop-inner-preserved
loop-inner-preserved t c = record {
  count = c.fall_within.ensures.count ∙ c.loop-inner.invariant.count;
  walk = subst (AreMembers c.args.children.now c.args.outer) (ap (λ l. c.loop-inner.yielded ++ l) c.in-Some.ensures.steps ∙ sym (append_assoc c.loop-inner.yielded (c.in-Some.inner ∷ []) c.next.new.self)) c.loop-inner.invariant.walk;
  so_far = λ s. fallen.one_more c.args.outer c.loop-inner.yielded c.in-Some.inner s (node_in c.args.places.now.nodes s) (node_in c.loop-inner.places.nodes s) (node_in c.fall_within.new.places.nodes s) (c.loop-inner.invariant.so_far s) (c.fall_within.ensures.nodes s);
}

pub returns-clause-nodes : goal.returns-clause-nodes
returns-clause-nodes t c s =
    let all : AreMembers c.args.children.now c.args.outer c.loop-inner.yielded = subst (AreMembers c.args.children.now c.args.outer) (ap (λ l. c.loop-inner.yielded ++ l) c.in-None.ensures.steps.0 ∙ append-nil c.loop-inner.yielded) c.loop-inner.invariant.walk in
    c.loop-inner.invariant.so_far s
    ∙ fallen.all_met (way c.args.places.now.nodes) c.requires.tree c.args.outer c.args.children.now c.requires.owners c.loop-inner.yielded all s (node_in c.args.places.now.nodes s) refl (c.requires.some s)

pub returns-clause-count : goal.returns-clause-count
returns-clause-count t c = c.loop-inner.invariant.count
