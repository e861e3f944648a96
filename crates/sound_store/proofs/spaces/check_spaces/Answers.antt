use Rattle.std.proofs.Common.{◌⊎◌, ℕ, List, inl, inr, refl, sym, subst}
use Rattle.pid_types.specs.Membership.{IsIn}
use Rattle.task_table.proofs.Around.{id-listed, in-order}
use Rattle.task_table.proofs.Places.{each-next, each-all}
use Rattle.task_table.proofs.Results.{is_true, never, if_err}
use Rattle.sound_store.proofs.Told.{root-told, space-told}
use Rattle.sound_store.specs.Flaws.{IsFlaw}
use Rattle.sound_store.specs.Spaces.{IsGoodSpace}
use Rattle.sound_store.proofs.spaces.check_spaces.Goals as goal

pub loop-id-preserved : goal.loop-id-preserved
loop-id-preserved c =
    let s = c.args.store.now in
    record {
      each = each-next (λ (p : ℕ × ℕ). IsGoodSpace s p.0 p.1) s.numbering.order c.next.new.self (c.in-Some.id, c.in-Some.key) c.in_ok-check_space.ensures.ok
          (λ p on. subst (λ (it : List (ℕ × ℕ)). IsGoodSpace s p.0 p.1 ⊎ IsIn p it) c.in-Some.ensures.steps (c.loop-id.invariant.each p on));
      listed = λ p on. c.loop-id.invariant.listed p (subst (λ (it : List (ℕ × ℕ)). IsIn p it) (sym c.in-Some.ensures.steps) (inr on));
    }

pub returns-then-not-has_good_root-clause-told : goal.returns-then-not-has_good_root-clause-told
returns-then-not-has_good_root-clause-told c = root-told c.args.store.now c.laws.ensures (λ h. never (c.if-not-has_good_root.ensures.1 h))

pub returns-in_err-check_space-clause-told : goal.returns-in_err-check_space-clause-told
returns-in_err-check_space-clause-told c =
    let s = c.args.store.now in
    let flaw = c.in_err-check_space.field-0.0 in
    let on = c.loop-id.invariant.listed (c.in-Some.id, c.in-Some.key) (subst (λ (it : List (ℕ × ℕ)). IsIn (c.in-Some.id, c.in-Some.key) it) (sym c.in-Some.ensures.steps) (inl refl)) in
    if_err c.from_residual.result (IsFlaw s) flaw c.from_residual.ensures.1
    (space-told s c.laws.ensures c.in-Some.id c.in-Some.key (id-listed s.numbering c.laws.ensures.numbering (c.in-Some.id, c.in-Some.key) on) flaw c.in_err-check_space.ensures.told)

pub returns-clause-ok : goal.returns-clause-ok
returns-clause-ok c =
    let s = c.args.store.now in
    let root = c.if-not-has_good_root.ensures.0 is_true in
    record {
      root = root.0;
      stands = root.1;
      each = λ id k e. each-all (λ (p : ℕ × ℕ). IsGoodSpace s p.0 p.1) s.numbering.order
          (λ p on. subst (λ (it : List (ℕ × ℕ)). IsGoodSpace s p.0 p.1 ⊎ IsIn p it) c.in-None.ensures.steps.0 (c.loop-id.invariant.each p on))
          (id, k) (in-order s.numbering c.laws.ensures.numbering k id e);
    }
