use Rattle.std.proofs.Common.{◌≡◌, ◌∙◌, ◌++◌, ◌∷◌, [], ℕ, true, sym, ap, subst, map, append_assoc, append-nil}
use Rattle.std.specs.List.{AllByRecursion}
use Rattle.pid_types.specs.declared.plain.Control.{Control}
use Rattle.pids_charge.specs.Charges.{Charges, stands, home_id}
use Rattle.task_table.specs.View.{state_of}
use Rattle.translate.specs.ById.{control_row_of}
use Rattle.translate.proofs.Parts.{rows-by_id}
use Rattle.translate.proofs.shown.all_controls.Goals as goal

pub loop-id-init : goal.loop-id-init
loop-id-init c =
    let shown = λ (p : ℕ × ℕ). control_row_of (state_of c.args.store.now) p.0 in
    record {
      walk = ap (λ items. items ++ map shown c.into_iter-id-iterator.result) c.new-rows.ensures.items
          ∙ ap (map shown) c.into_iter-id-iterator.ensures.into_iter_gives
          ∙ rows-by_id (state_of c.args.store.now) c.keys-id-items.result c.requires.sound.coherent.controls.rising
          (c.keys-id-items.ensures.ids ∙ ap (λ (v : Charges). map (λ (g : Control). g.id) v.controls) c.controls.ensures);
      keys = subst (AllByRecursion (λ (p : ℕ × ℕ). (stands c.args.store.now.charges p.1 ≡ true) × (home_id c.args.store.now.charges p.1 ≡ p.0))) (sym c.into_iter-id-iterator.ensures.into_iter_gives)
          (subst (λ v. AllByRecursion (λ (p : ℕ × ℕ). (stands v p.1 ≡ true) × (home_id v p.1 ≡ p.0)) c.keys-id-items.result) c.controls.ensures c.keys-id-items.ensures.keys);
    }

pub control_row-requires : goal.control_row-requires
control_row-requires c =
    let all = subst (AllByRecursion (λ (p : ℕ × ℕ). (stands c.args.store.now.charges p.1 ≡ true) × (home_id c.args.store.now.charges p.1 ≡ p.0))) c.in-Some.ensures.steps c.loop-id.invariant.keys in
    record { whole = c.requires; stands = all.0.0; id = all.0.1 }

pub loop-id-preserved : goal.loop-id-preserved
loop-id-preserved c =
    let shown = λ (p : ℕ × ℕ). control_row_of (state_of c.args.store.now) p.0 in
    record {
      walk = ap (λ items. items ++ map shown c.next.new.self) c.in_ok-push.ensures.items
          ∙ append_assoc c.loop-id.rows.items (c.control_row.result ∷ []) (map shown c.next.new.self)
          ∙ ap (λ s. c.loop-id.rows.items ++ s ∷ map shown c.next.new.self) c.control_row.ensures
          ∙ ap (λ it. c.loop-id.rows.items ++ map shown it) (sym c.in-Some.ensures.steps) ∙ c.loop-id.invariant.walk;
      keys = (subst (AllByRecursion (λ (p : ℕ × ℕ). (stands c.args.store.now.charges p.1 ≡ true) × (home_id c.args.store.now.charges p.1 ≡ p.0))) c.in-Some.ensures.steps c.loop-id.invariant.keys).1;
    }

pub returns : goal.returns
returns c =
    sym (append-nil c.loop-id.rows.items) ∙ ap (λ it. c.loop-id.rows.items ++ map (λ (p : ℕ × ℕ). control_row_of (state_of c.args.store.now) p.0) it) (sym c.in-None.ensures.steps.0) ∙ c.loop-id.invariant.walk
