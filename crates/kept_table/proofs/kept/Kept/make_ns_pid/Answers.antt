use Rattle.std.proofs.Common.{◌≡◌, ℕ, arith, rules, refl, ap, sym, subst, ◌∙◌}
use Rattle.pid_types.specs.declared.call.Call.TheVariants.{NsPid}
use Rattle.pid_types.specs.declared.entry.Entry.{Entry}
use Rattle.pid_types.specs.Outcome.{Outcome}
use Rattle.pid_types.specs.State.{State}
use Rattle.pid_types.specs.Step.{step}
use Rattle.pid_types.specs.Written.{IsWritten}
use Rattle.kept_past.specs.Past.{Past}
use Rattle.kept_table.specs.Chronicle.{Chronicle, next_stamp}
use Rattle.kept_table.proofs.Counts.{counted-query, room-stays, some_of_room, whole-push}
use Rattle.kept_table.proofs.kept.Kept.make_ns_pid.Goals as goal

-- a query leaves the state, whatever its stamp
stays : (present : State) (stamp caller target : ℕ) → (let o : Outcome = record { state = present; reply = (step present stamp (NsPid caller target)).reply } in o) ≡ step present stamp (NsPid caller target)
unfolding step
stays present stamp caller target = refl

-- the history is one entry longer
pub invariant_of-self : goal.invariant_of-self
invariant_of-self c =
    let call = NsPid c.args.caller c.args.target in
    let stamp = next_stamp c.args.self.now in
    let table = c.self.inside.table in
    let e : Entry = record { worker = c.args.worker; call = call; reply = (step table stamp call).reply } in
    let some = some_of_room c.self.inside.history.opening c.self.inside.history.room (omega (arith, c.in_ok-reserve_calls.ensures.ok, ap (λ (t : Chronicle). t.memory.room) c.self.view_is)) in
    whole-push c.self.inside.history c.enter_ns_pid-told.new.self _ _ _ _ _ _ _ _ table table e some.0 c.self.invariant (c.enter_ns_pid-told.ensures.entry stamp)
    (search rules)
    (search rules)
    (stays table stamp c.args.caller c.args.target ∙ ap (λ n. step table n call) (sym (ap next_stamp (c.self.view_is ∙ c.in_ok-reserve_calls.ensures.makes.same))))
    c.count_call.ensures.each
    c.count_call.ensures.all
    c.count_call.ensures.len

pub returns-clause-step : goal.returns-clause-step
unfolding step
returns-clause-step c = ap (λ (t : Chronicle). t.present) (c.self.view_is ∙ c.in_ok-reserve_calls.ensures.makes.same)

pub returns-clause-reply : goal.returns-clause-reply
returns-clause-reply c =
    let stamp = next_stamp c.args.self.now in
    subst (λ (t : Chronicle). IsWritten c.enter_ns_pid-told.result c.enter_ns_pid-told.new.numbers (step t.present stamp (NsPid c.args.caller c.args.target)).reply)
    (c.self.view_is ∙ c.in_ok-reserve_calls.ensures.makes.same) (c.enter_ns_pid-told.ensures.reply stamp)

pub returns-clause-others : goal.returns-clause-others
returns-clause-others c =
    counted-query c.self.inside.history c.enter_ns_pid-told.new.self _ _ _ _ _ _ c.self.inside.calls.items c.count_call.new.calls.items _ _ c.args.self.now _ (c.enter_ns_pid-told.ensures.entry (next_stamp c.args.self.now)) c.count_call.ensures.all
    (c.self.view_is ∙ c.in_ok-reserve_calls.ensures.makes.same)

pub returns-clause-room : goal.returns-clause-room
returns-clause-room c =
    let less = room-stays _ _ _ _ (ap (λ (p : Past). p.opening) (c.enter_ns_pid-told.ensures.entry 0)) c.enter_ns_pid-told.ensures.room in
    omega (arith, less, ap (λ (t : Chronicle). t.memory.room) c.self.view_is, c.in_ok-reserve_calls.ensures.makes.room)
