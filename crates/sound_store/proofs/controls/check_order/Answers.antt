use Rattle.std.proofs.Common.{ℕ, List, map, subst}
use Rattle.sound_store.specs.Groups.{ids_of}
use Rattle.task_table.proofs.Results.{is_true, never}
use Rattle.sound_store.proofs.Groups.{GoesOn, goes-not, goes-on}
use Rattle.sound_store.proofs.controls.check_order.Goals as goal

pub returns-then-not-is_above-clause-told : goal.returns-then-not-is_above-clause-told
returns-then-not-is_above-clause-told c good =
    goes-not (ids_of c.args.controls.now) (map (λ p. p.0) c.next.new.self) c.loop-id.last c.in-Some.id (λ h. never (c.if-not-is_above.ensures.1 h))
    (subst (λ (it : List (ℕ × ℕ)). GoesOn (ids_of c.args.controls.now) c.loop-id.last (map (λ p. p.0) it)) c.in-Some.ensures.steps c.loop-id.invariant) good.tree.rising

pub loop-id-preserved : goal.loop-id-preserved
loop-id-preserved c =
    goes-on (ids_of c.args.controls.now) (map (λ p. p.0) c.next.new.self) c.loop-id.last c.in-Some.id (c.if-not-is_above.ensures.0 is_true)
    (subst (λ (it : List (ℕ × ℕ)). GoesOn (ids_of c.args.controls.now) c.loop-id.last (map (λ p. p.0) it)) c.in-Some.ensures.steps c.loop-id.invariant)
