use Rattle.std.proofs.Common.{◌≡◌, ◌∙◌, Bool, true, false, [], ◌∷◌, ◌++◌, sym, ap, subst}
use Rattle.std.proofs.lemmas.Result.{IfOk-weaker}
use Rattle.std.specs.List.Sorted.{IsPermutation}
use Rattle.pid_types.specs.declared.call.Call.TheVariants.{Exit}
use Rattle.call_effects.specs.Touched.{Touches}
unfoldable use Rattle.pid_types.specs.Step.{step}
use Rattle.call_effects.proofs.Touching.{touches_refused, touches_members, touches_children}
use Rattle.call_effects.proofs.whom.touched_by_exit.Goals as goal

not_both : {b : Bool} → b ≡ true → b ≡ false → ⊥
not_both t f = cc

pub returns-then-not-would_be_done-clause-touches : goal.returns-then-not-would_be_done-clause-touches
returns-then-not-would_be_done-clause-touches c =
    subst (Touches c.args.table.now (step c.args.table.now c.args.stamp (Exit c.args.caller c.args.status)).state) (sym c.new.ensures.items)
    (touches_refused c.args.table.now c.args.stamp c.laws.ensures c.requires c.no_threads.ensures.threads c.no_threads.ensures.left c.args.caller c.args.status
    (λ done. not_both (c.would_be_done.ensures.1 done) c.if-not-would_be_done.true))

pub returns-then-is_own_init-clause-touches : goal.returns-then-is_own_init-clause-touches
returns-then-is_own_init-clause-touches c =
    IfOk-weaker c.list_from_root.result _ _ (λ r lists.
    touches_members c.args.table.now c.args.stamp c.laws.ensures c.requires c.no_threads.ensures.threads c.no_threads.ensures.left c.args.caller c.args.status (c.would_be_done.ensures.0 c.if-not-would_be_done.false)
    (λ row at. sym (c.is_own_init.ensures row at) ∙ c.if-is_own_init.true) r.items lists) c.list_from_root.ensures

pub returns-clause-touches : goal.returns-clause-touches
returns-clause-touches c =
    let items = c.in_ok-extend_from_slice.ensures.items ∙ ap (λ ns. ns ++ c.deref.result.now) c.in_ok-numbers.ensures ∙ ap (λ ns. (c.args.caller ∷ []) ++ ns) c.deref.ensures.value in
    touches_children c.args.table.now c.args.stamp c.laws.ensures c.requires c.no_threads.ensures.threads c.no_threads.ensures.left c.args.caller c.args.status (c.would_be_done.ensures.0 c.if-not-would_be_done.false)
    (λ row at. sym (c.is_own_init.ensures row at) ∙ c.if-is_own_init.false) c.in_ok-children.children.items c.sort.new.self.items c.in_ok-children.ensures
    (subst (λ ns. IsPermutation ns c.sort.new.self.items) items c.sort.ensures.permutation) c.in_ok-sort.ensures.sorted

pub returns-then-not-would_be_done-clause-just : goal.returns-then-not-would_be_done-clause-just
returns-then-not-would_be_done-clause-just c = record {
  refused = λ not. c.new.ensures.items;
  init = λ row done at init. absurd (not_both (c.would_be_done.ensures.1 done) c.if-not-would_be_done.true);
  other = λ row done at other. absurd (not_both (c.would_be_done.ensures.1 done) c.if-not-would_be_done.true);
}

pub returns-then-is_own_init-clause-just : goal.returns-then-is_own_init-clause-just
returns-then-is_own_init-clause-just c =
    IfOk-weaker c.list_from_root.result _ _ (λ r lists. record {
      refused = λ not. absurd (not (c.would_be_done.ensures.0 c.if-not-would_be_done.false));
      init = λ row done at init. lists;
      other = λ row done at other. absurd (not_both (sym (c.is_own_init.ensures row at) ∙ c.if-is_own_init.true) other);
    }) c.list_from_root.ensures

pub returns-clause-just : goal.returns-clause-just
returns-clause-just c =
    let items = c.in_ok-extend_from_slice.ensures.items ∙ ap (λ ns. ns ++ c.deref.result.now) c.in_ok-numbers.ensures ∙ ap (λ ns. (c.args.caller ∷ []) ++ ns) c.deref.ensures.value in
    record {
      refused = λ not. absurd (not (c.would_be_done.ensures.0 c.if-not-would_be_done.false));
      init = λ row done at init. absurd (not_both init (sym (c.is_own_init.ensures row at) ∙ c.if-is_own_init.false));
      other = λ row done at other. (c.in_ok-children.children.items, c.in_ok-children.ensures, subst (λ ns. IsPermutation ns c.sort.new.self.items) items c.sort.ensures.permutation);
    }
