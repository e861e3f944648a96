use Rattle.std.proofs.Common.{ℕ, ◌++◌, ◌∷◌, [], arith, rules, refl, ap, sym, subst, ◌∙◌}
use Rattle.pid_types.specs.declared.call.Call.{Call}
use Rattle.pid_types.specs.declared.reply.Reply.{Reply}
use Rattle.pid_types.specs.declared.entry.Entry.{Entry}
use Rattle.pid_types.specs.Sound.{IsBelow}
use Rattle.pid_types.specs.Step.{step}
use Rattle.kept_table.specs.Chronicle.{Chronicle, next_stamp}
use Rattle.kept_past.specs.Past.{Past}
use Rattle.kept_table.proofs.Counts.{some_of_room, whole-push}
use Rattle.kept_table.proofs.Totals.{last_reply_pushed}
use Rattle.kept_table.proofs.Invariant.{outcome-of, present-sound}
use Rattle.kept_table.proofs.kept.Kept.make_call.Goals as goal

abbrev entry : ℕ → Call → Reply → Entry
entry worker call reply = record { worker = worker; call = call; reply = reply }

-- the history is one entry longer
pub invariant_of-self-2 : goal.invariant_of-self-2
invariant_of-self-2 c =
    let e : Entry = record { worker = c.args.worker; call = c.args.call; reply = (step c.self.inside.table c.in-Some.stamp c.args.call).reply } in
    let some = some_of_room c.self.inside.history.opening c.self.inside.history.room (omega (arith, c.in_ok-reserve_calls.ensures.ok, ap (λ (t : Chronicle). t.memory.room) c.self.view_is)) in
    whole-push c.self.inside.history c.enter.new.self _ _ _ _ _ _ _ _ _ _ e some.0 c.self.invariant c.in_ok-told.ensures.entry
    (search rules)
    (search rules)
    (outcome-of _ _ _ c.in_ok-told.ensures.state refl
    ∙ ap (λ n. step c.self.inside.table n c.args.call) (c.in-Some.ensures.some ∙ sym (ap next_stamp (c.self.view_is ∙ c.in_ok-reserve_calls.ensures.makes.same))))
    c.count_call.ensures.each
    c.count_call.ensures.all
    c.count_call.ensures.len

-- the ids of the present state are below the stamp, and a state is held since there is room
pub enter-requires : goal.enter-requires
enter-requires c =
    let some = some_of_room c.self.inside.history.opening c.self.inside.history.room (omega (arith, c.in_ok-reserve_calls.ensures.ok, ap (λ (t : Chronicle). t.memory.room) c.self.view_is)) in
    record {
      below = subst (λ (stamp : ℕ). IsBelow stamp c.self.inside.table) (sym (c.in-Some.ensures.some ∙ sym (ap next_stamp (c.self.view_is ∙ c.in_ok-reserve_calls.ensures.makes.same))))
          (present-sound c.soundness_is_kept.ensures.run _ _ c.self.invariant.counted.kept).1;
      room = some.1;
      begun = some.0;
      fits = omega (arith, c.self.invariant.at, c.self.invariant.counted.kept.counted.fits);
    }

pub returns-clause-reply : goal.returns-clause-reply
returns-clause-reply c =
    last_reply_pushed c.self.inside.history.entries c.enter.new.self.entries _ _ (ap (λ (p : Past). p.entries) c.in_ok-told.ensures.entry)
    (ap (λ n. (step c.self.inside.table n c.args.call).reply) c.in-Some.ensures.some
    ∙ ap (λ (t : Chronicle). (step t.present (next_stamp c.args.self.now) c.args.call).reply) (c.self.view_is ∙ c.in_ok-reserve_calls.ensures.makes.same))

-- where the call is not made, all is as it was
pub invariant_of-self : goal.invariant_of-self
invariant_of-self c = search rules

pub returns-in_err-told-clause-err : goal.returns-in_err-told-clause-err
returns-in_err-told-clause-err c = search rules

pub returns-clause-history : goal.returns-clause-history
returns-clause-history c =
    let seen = c.self.view_is ∙ c.in_ok-reserve_calls.ensures.makes.same in
    ap (λ (p : Past). p.entries) c.in_ok-told.ensures.entry
    ∙ (ap (λ n. c.self.inside.history.entries ++ entry c.args.worker c.args.call (step c.self.inside.table n c.args.call).reply ∷ []) c.in-Some.ensures.some
    ∙ ap (λ (t : Chronicle). t.entries ++ entry c.args.worker c.args.call (step t.present (next_stamp c.args.self.now) c.args.call).reply ∷ []) seen)
