use Rattle.std.proofs.Common.{rules, ◌≡◌, ℕ, ◌-◌, length, Some, None, IsSome, is_some, sym, ◌∙◌, slice_get, Option, true, false}
use Rattle.id_slab.proofs.Lives as lives
use Rattle.id_slab.proofs.trim.Goals as goal

some_key : (key : Option ℕ) → true ≡ is_some key → IsSome key
some_key None e = absurd (true_false e)
  where
    true_false : true ≡ false → ⊥
    true_false e = cc
some_key (Some k) e = search rules

pub returns-then-is_some-clause-ends : goal.returns-then-is_some-clause-ends
returns-then-is_some-clause-ends c =
    let last : Some c.in-Some.last.now ≡ slice_get c.loop-last.entries.items (length c.loop-last.entries.items - 1) = rw c.deref.ensures.value at c.in-Some.ensures.value in
    lives.EndsLive-last_at c.loop-last.entries.items c.in-Some.last.now (sym last) (some_key c.in-Some.last.now.key c.if-is_some.ensures)

pub loop-last-preserved : goal.loop-last-preserved
loop-last-preserved c =
    let last : Some c.in-Some.last.now ≡ slice_get c.loop-last.entries.items (length c.loop-last.entries.items - 1) = rw c.deref.ensures.value at c.in-Some.ensures.value in
    let p = lives.popped c.loop-last.entries.items c.pop.new.self.items c.pop.result c.in-Some.last.now c.pop.ensures.items (sym last) (sym c.if-is_some.ensures) in
    record { rise = p.rise c.loop-last.invariant.rise; same = p.same ∙ c.loop-last.invariant.same }
