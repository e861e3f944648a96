use Rattle.std.proofs.Common.{◌≡◌, ◌≢◌, ◌∙◌, ℕ, None, ap, refl, sym, subst}
use Rattle.std.proofs.lemmas.Result.{IfOk-weaker}
use Rattle.pid_types.specs.declared.call.Call.TheVariants.{Wait}
unfoldable use Rattle.pid_types.specs.Step.{step}
use Rattle.pid_types.specs.State.{State}
use Rattle.pid_types.specs.declared.plain.Ended.{Ended}
use Rattle.pid_types.specs.declared.reply.Reply.{Reply}
use Rattle.pid_types.specs.declared.reply.Reply.TheVariants.{Forked, Done, Number, Levels, Reaped, NoneYet, Counted, Control, End, Refused}
use Rattle.call_effects.specs.Reckoned.{reaped_by}
use Rattle.call_effects.specs.Touched.{Touches}
use Rattle.call_effects.specs.Whom.{none_or_one}
use Rattle.call_effects.proofs.Touching.{touches_reaped, touches_nobody}
use Rattle.call_effects.proofs.whom.touched_by_wait.Goals as goal

pub returns-in-Reaped-clause-touches : goal.returns-in-Reaped-clause-touches
returns-in-Reaped-clause-touches c =
    let s = c.args.table.now in
    IfOk-weaker c.list_one.result _ _ (λ r is.
    subst (Touches s (step s c.args.stamp (Wait c.args.caller c.args.which)).state) (sym is)
    (touches_reaped s c.args.stamp c.laws.ensures c.requires c.no_threads.ensures.threads c.no_threads.ensures.left c.args.caller c.args.which c.in-Reaped.child c.in-Reaped.ended c.root_of.result
    (sym c.would.ensures ∙ c.in-Reaped.is) c.root_of.ensures)) c.list_one.ensures

pub returns-in_default-clause-touches : goal.returns-in_default-clause-touches
returns-in_default-clause-touches c =
    let s = c.args.table.now in
    subst (Touches s (step s c.args.stamp (Wait c.args.caller c.args.which)).state) (sym c.new.ensures.items)
    (touches_nobody s c.args.stamp c.laws.ensures c.requires c.no_threads.ensures.threads c.no_threads.ensures.left c.args.caller c.args.which (λ child ended told. c.in_default.not-Reaped child ended (c.would.ensures ∙ told)))

pub returns-in-Reaped-clause-just : goal.returns-in-Reaped-clause-just
returns-in-Reaped-clause-just c =
    IfOk-weaker c.list_one.result _ _ (λ r is.
    is ∙ ap none_or_one (c.root_of.ensures ∙ ap (reaped_by c.args.table.now c.args.caller) (sym c.in-Reaped.is ∙ c.would.ensures))) c.list_one.ensures

-- what is no reply of a child names none
no_child : (state : State) (caller : ℕ) (reply : Reply) → ((child : ℕ) (ended : Ended) → reply ≢ Reaped child ended) → reaped_by state caller reply ≡ None
no_child state caller (Reaped child ended) not = absurd (not child ended refl)
no_child state caller (Forked child root) not = refl
no_child state caller Done not = refl
no_child state caller (Number number) not = refl
no_child state caller (Levels numbers) not = refl
no_child state caller NoneYet not = refl
no_child state caller (Counted count) not = refl
no_child state caller (Control id) not = refl
no_child state caller End not = refl
no_child state caller (Refused refusal) not = refl

pub returns-in_default-clause-just : goal.returns-in_default-clause-just
returns-in_default-clause-just c =
    c.new.ensures.items
    ∙ ap none_or_one (sym (no_child c.args.table.now c.args.caller _ (λ child ended told. c.in_default.not-Reaped child ended (c.would.ensures ∙ told))))
