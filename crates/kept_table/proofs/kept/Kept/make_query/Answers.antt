use Rattle.std.proofs.Common.{arith, rules, refl, ap, sym, ◌∙◌}
use Rattle.pid_types.specs.declared.entry.Entry.{Entry}
use Rattle.pid_types.specs.Step.{step}
use Rattle.kept_past.specs.Past.{Past}
use Rattle.kept_table.specs.Chronicle.{Chronicle, next_stamp}
use Rattle.kept_table.proofs.Counts.{counted-query, room-stays, some_of_room, whole-push}
use Rattle.kept_table.proofs.Invariant.{outcome-of}
use Rattle.kept_table.proofs.kept.Kept.make_query.Goals as goal

-- the history is one entry longer, and the state as it was
pub invariant_of-self : goal.invariant_of-self
invariant_of-self c =
    let stamp = next_stamp c.args.self.now in
    let table = c.self.inside.table in
    let e : Entry = record { worker = c.args.worker; call = c.args.query; reply = (step table stamp c.args.query).reply } in
    let some = some_of_room c.self.inside.history.opening c.self.inside.history.room (omega (arith, c.in_ok-reserve_calls.ensures.ok, ap (λ (t : Chronicle). t.memory.room) c.self.view_is)) in
    whole-push c.self.inside.history c.enter_query.new.self _ _ _ _ _ _ _ _ table table e some.0 c.self.invariant (c.enter_query.ensures.entry stamp)
    (search rules)
    (search rules)
    (outcome-of _ _ _ (sym (c.nothing_changes.ensures.query table stamp c.args.query c.requires.asks)) refl
    ∙ ap (λ n. step table n c.args.query) (sym (ap next_stamp (c.self.view_is ∙ c.in_ok-reserve_calls.ensures.makes.same))))
    c.count_call.ensures.each
    c.count_call.ensures.all
    c.count_call.ensures.len

pub returns-clause-step : goal.returns-clause-step
returns-clause-step c =
    ap (λ (t : Chronicle). t.present) (c.self.view_is ∙ c.in_ok-reserve_calls.ensures.makes.same)
    ∙ sym (c.nothing_changes.ensures.query c.args.self.now.present (next_stamp c.args.self.now) c.args.query c.requires.asks)

pub returns-clause-reply : goal.returns-clause-reply
returns-clause-reply c =
    let stamp = next_stamp c.args.self.now in
    c.enter_query.ensures.reply stamp ∙ ap (λ (t : Chronicle). (step t.present stamp c.args.query).reply) (c.self.view_is ∙ c.in_ok-reserve_calls.ensures.makes.same)

pub returns-clause-others : goal.returns-clause-others
returns-clause-others c =
    counted-query c.self.inside.history c.enter_query.new.self _ _ _ _ _ _ c.self.inside.calls.items c.count_call.new.calls.items _ _ c.args.self.now _ (c.enter_query.ensures.entry (next_stamp c.args.self.now)) c.count_call.ensures.all
    (c.self.view_is ∙ c.in_ok-reserve_calls.ensures.makes.same)

pub returns-clause-room : goal.returns-clause-room
returns-clause-room c =
    let less = room-stays _ _ _ _ (ap (λ (p : Past). p.opening) (c.enter_query.ensures.entry 0)) c.enter_query.ensures.room in
    omega (arith, less, ap (λ (t : Chronicle). t.memory.room) c.self.view_is, c.in_ok-reserve_calls.ensures.makes.room)
