use Rattle.std.proofs.Common.{◌≡◌, ◌⊎◌, ℕ, List, true, inl, inr, map, refl, sym, subst, arith}
use Rattle.std.specs.List.{AllByRecursion}
use Rattle.pid_types.specs.Membership.{IsIn}
use Rattle.pids_charge.specs.Charges.{stands, home_id}
use Rattle.sound_store.specs.Groups.{IsGoodControl, ids_of}
use Rattle.task_table.proofs.Results.{is_true, never}
use Rattle.sound_store.proofs.Groups.{good-each}
use Rattle.task_table.proofs.Places.{each-next}
use Rattle.sound_store.proofs.controls.check_each.Goals as goal

pub returns-then-not-is_good_control-clause-told : goal.returns-then-not-is_good_control-clause-told
returns-then-not-is_good_control-clause-told c good =
    let v = c.args.controls.now in
    let keys = subst (AllByRecursion (λ (p : ℕ × ℕ). (stands v p.1 ≡ true) × (home_id v p.1 ≡ p.0))) c.in-Some.ensures.steps c.loop-id.invariant.keys in
    let on : IsIn c.in-Some.id (ids_of v) = c.loop-id.invariant.listed c.in-Some.id (subst (λ (it : List (ℕ × ℕ)). IsIn c.in-Some.id (map (λ p. p.0) it)) (sym c.in-Some.ensures.steps) (inl refl)) in
    never (c.if-not-is_good_control.ensures.1 (subst (IsGoodControl v) (sym keys.0.1) (good-each v good c.in-Some.id on)))

pub returns-clause-ok : goal.returns-clause-ok
returns-clause-ok c = grind arith

pub loop-id-preserved : goal.loop-id-preserved
loop-id-preserved c =
    let v = c.args.controls.now in
    let keys = subst (AllByRecursion (λ (p : ℕ × ℕ). (stands v p.1 ≡ true) × (home_id v p.1 ≡ p.0))) c.in-Some.ensures.steps c.loop-id.invariant.keys in
    let good = subst (IsGoodControl v) keys.0.1 (c.if-not-is_good_control.ensures.0 is_true) in
    record {
      each = each-next (IsGoodControl v) (ids_of v) (map (λ p. p.0) c.next.new.self) c.in-Some.id good
          (λ i on. subst (λ (it : List (ℕ × ℕ)). IsGoodControl v i ⊎ IsIn i (map (λ p. p.0) it)) c.in-Some.ensures.steps (c.loop-id.invariant.each i on));
      listed = λ i on. c.loop-id.invariant.listed i (subst (λ (it : List (ℕ × ℕ)). IsIn i (map (λ p. p.0) it)) (sym c.in-Some.ensures.steps) (inr on));
      keys = keys.1;
    }
