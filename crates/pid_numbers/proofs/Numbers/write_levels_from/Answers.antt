-- An identifier has one number for each namespace of its path: so the levels to leave out are a difference of two paths' lengths
use Rattle.std.proofs.Common.{length-take, drop, ◌++◌}
use Rattle.pid_numbers.proofs.Words.{ℕ, List, ◌<◌, ◌≡◌, ◌∙◌, sym, ap, subst, arith, ◌+◌, ◌≤◌, ◌-◌, suc, length, get_or, take, [], IfSome, reverse, length-reverse}
use Rattle.pid_numbers.proofs.Words.{ident_at, way}
use Rattle.pid_numbers.specs.Numbering.{levels_of}
use Rattle.ns_tree.proofs.Paths as paths
use Rattle.pid_numbers.proofs.Views as views
use Rattle.pid_numbers.proofs.Inwards as inwards
use Rattle.pid_numbers.proofs.Numbers.write_levels_from.Goals as goal
use Rattle.pid_numbers.proofs.Numbers.write_levels_from.Goals.{After-levels-2, After-write_levels, After-write_levels-2, Then-not-is_within}

-- so many numbers are the first ones, the other way round
so_many : (n : ℕ) (numbers : List ℕ) → n ≤ length numbers → n ≡ length (reverse (take n numbers))
so_many n numbers there = omega (arith, there, length-reverse (take n numbers), length-take n numbers)

-- it has none in a namespace that is not on its path
none : (c : Then-not-is_within) → levels_of c.args.self.now c.args.ident c.args.space ≡ []
none c =
    let h = views.home (ident_at c.self.inside.idents c.args.ident) c.in-Some.own c.in-Some.ensures in
    views.levels-of c.self.inside c.self.view_is c.args.ident c.args.space c.in-Some.own h.0 h.1 h.2
    ∙ inwards.from-none c.args.space (way c.self.inside.tree.nodes c.in-Some.own) h.0.numbers (sym c.if-not-is_within.ensures)

pub returns-then-not-is_within-clause-count : goal.returns-then-not-is_within-clause-count
returns-then-not-is_within-clause-count c = ap length (sym (none c))

pub returns-then-not-is_within-clause-numbers : goal.returns-then-not-is_within-clause-numbers
returns-then-not-is_within-clause-numbers c = ap (λ l. l ++ c.args.room.now) (sym (none c))

-- in its own namespace the first number is the only one
pub write_levels-requires-clause-fits : goal.write_levels-requires-clause-fits
write_levels-requires-clause-fits c =
    let h = views.home (ident_at c.self.inside.idents c.args.ident) c.in-Some.own c.in-Some.ensures in
    let some = c.self.invariant.whole.numbering.tied.some c.args.ident h.0 h.1 in
    subst (λ o. IfSome o (λ u. 1 ≤ length u.numbers)) (sym h.1) (omega (arith, some))

own : (c : After-write_levels) → let h = views.home (ident_at c.self.inside.idents c.args.ident) c.in-Some.own c.in-Some.ensures in
    (1 ≤ length h.0.numbers) × (levels_of c.args.self.now c.args.ident c.args.space ≡ reverse (take 1 h.0.numbers))
own c =
    let ways = way c.self.inside.tree.nodes in
    let b = c.self.invariant.whole.numbering in
    let own = c.in-Some.own in
    let h = views.home (ident_at c.self.inside.idents c.args.ident) own c.in-Some.ensures in
    let len : length h.0.numbers ≡ length (ways own) = b.tied.full c.args.ident h.0 h.1 ∙ ap (λ s. length (ways s)) h.2 in
    let some = b.tied.some c.args.ident h.0 h.1 in
    let below : 0 < length (ways own) = omega (arith, len, some) in (
      omega (arith, some),
      views.levels-of c.self.inside c.self.view_is c.args.ident c.args.space own h.0 h.1 h.2
          ∙ inwards.from-place c.args.space (ways own) h.0.numbers (paths.distinct-path ways (ways own) (b.tree.paths own)) len 0 below (paths.own-first ways b.tree own below ∙ c.if-own-space.true),
    )

pub returns-then-own-space-clause-count : goal.returns-then-own-space-clause-count
returns-then-own-space-clause-count c =
    let h = views.home (ident_at c.self.inside.idents c.args.ident) c.in-Some.own c.in-Some.ensures in
    so_many 1 h.0.numbers (own c).0 ∙ ap length (sym (own c).1)

pub returns-then-own-space-clause-numbers : goal.returns-then-own-space-clause-numbers
returns-then-own-space-clause-numbers c =
    let h = views.home (ident_at c.self.inside.idents c.args.ident) c.in-Some.own c.in-Some.ensures in
    c.write_levels.ensures h.0 h.1 ∙ ap (λ l. l ++ drop 1 c.args.room.now) (sym (own c).1)

pub overflow_sub-count : goal.overflow_sub-count
overflow_sub-count c =
    let few = (paths.within (way c.self.inside.tree.nodes) c.self.invariant.whole.numbering.tree c.in-Some.own c.args.space (sym c.if-not-is_within.ensures)).1 in
    omega (arith, few, c.levels.ensures.value, c.levels-2.ensures.value)

-- the place of the namespace on the path
placed : (c : After-levels-2) → let k = c.levels.result - c.levels-2.result in (k < length (way c.self.inside.tree.nodes c.in-Some.own)) × (get_or (way c.self.inside.tree.nodes c.in-Some.own) k 0 ≡ c.args.space)
placed c =
    let ways = way c.self.inside.tree.nodes in
    let own = c.in-Some.own in
    let w = paths.within ways c.self.invariant.whole.numbering.tree own c.args.space (sym c.if-not-is_within.ensures) in
    let place : c.levels.result - c.levels-2.result ≡ length (ways own) - length (ways c.args.space) = ap (λ n. n - c.levels-2.result) c.levels.ensures.value ∙ ap (λ n. length (ways own) - n) c.levels-2.ensures.value in
    (omega (arith, place, w.0, w.1), ap (λ j. get_or (ways own) j 0) place ∙ w.2)

pub write_levels-requires-2-clause-fits : goal.write_levels-requires-2-clause-fits
write_levels-requires-2-clause-fits c =
    let h = views.home (ident_at c.self.inside.idents c.args.ident) c.in-Some.own c.in-Some.ensures in
    let len = c.self.invariant.whole.numbering.tied.full c.args.ident h.0 h.1 ∙ ap (λ s. length (way c.self.inside.tree.nodes s)) h.2 in
    let lt = (placed (goal.at.write_levels-requires-2-clause-fits c).After-levels-2).0 in
    subst (λ o. IfSome o (λ u. c.levels.result - c.levels-2.result + 1 ≤ length u.numbers)) (sym h.1) (omega (arith, lt, len))

pub write_levels-requires-2-clause-few : goal.write_levels-requires-2-clause-few
write_levels-requires-2-clause-few c =
    let lt = (placed (goal.at.write_levels-requires-2-clause-few c).After-levels-2).0 in
    omega (arith, lt, c.levels.ensures.value, c.levels.ensures.few)

-- in a namespace of its path it has as many as there are levels from there on
inwards_of : (c : After-write_levels-2) → let n = c.levels.result - c.levels-2.result + 1 in
    let h = views.home (ident_at c.self.inside.idents c.args.ident) c.in-Some.own c.in-Some.ensures in
    (n ≤ length h.0.numbers) × (levels_of c.args.self.now c.args.ident c.args.space ≡ reverse (take n h.0.numbers))
inwards_of c =
    let ways = way c.self.inside.tree.nodes in
    let b = c.self.invariant.whole.numbering in
    let own = c.in-Some.own in
    let k = c.levels.result - c.levels-2.result in
    let h = views.home (ident_at c.self.inside.idents c.args.ident) own c.in-Some.ensures in
    let len : length h.0.numbers ≡ length (ways own) = b.tied.full c.args.ident h.0 h.1 ∙ ap (λ s. length (ways s)) h.2 in
    let place = placed (goal.at.returns-clause-count c).After-levels-2 in
    let one : suc k ≡ k + 1 = omega arith in (
      omega (arith, place.0, len),
      views.levels-of c.self.inside c.self.view_is c.args.ident c.args.space own h.0 h.1 h.2
          ∙ inwards.from-place c.args.space (ways own) h.0.numbers (paths.distinct-path ways (ways own) (b.tree.paths own)) len k place.0 place.1
          ∙ ap (λ n. reverse (take n h.0.numbers)) one,
    )

pub returns-clause-count : goal.returns-clause-count
returns-clause-count c =
    let h = views.home (ident_at c.self.inside.idents c.args.ident) c.in-Some.own c.in-Some.ensures in
    so_many (c.levels.result - c.levels-2.result + 1) h.0.numbers (inwards_of c).0 ∙ ap length (sym (inwards_of c).1)

pub returns-clause-numbers : goal.returns-clause-numbers
returns-clause-numbers c =
    let h = views.home (ident_at c.self.inside.idents c.args.ident) c.in-Some.own c.in-Some.ensures in
    c.write_levels-2.ensures h.0 h.1 ∙ ap (λ l. l ++ drop (c.levels.result - c.levels-2.result + 1) c.args.room.now) (sym (inwards_of c).1)
