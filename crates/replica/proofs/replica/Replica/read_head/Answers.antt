use Rattle.std.proofs.Common.{ℕ, ◌-◌, List, length, refl, sym, ◌∙◌, subst}
use Rattle.replica.specs.Log.{Log}
use Rattle.replica.specs.Snapshots.{FailsAtHead, Restores}
use Rattle.replica.specs.HeadReading.{log_of, words_of_settings, words_of_state}
use Rattle.replica.proofs.Heads.{Settings, State, failed, found_head, no_head, no_settings, no_state, other_head, rest_within, restores, unread}
use Rattle.replica.proofs.replica.Replica.read_head.Goals as goal

pub returns-in_default-clause-err : goal.returns-in_default-clause-err
returns-in_default-clause-err c = no_head c.args.text.now c.args.pid_max c.args.model (no_settings c.args.text.now c.in_default.ensures)

pub returns-in_default-read_state-clause-err : goal.returns-in_default-read_state-clause-err
returns-in_default-read_state-clause-err c =
    let s : Settings × List ℕ = (words_of_settings c.in-Some.settings, c.in-Some.rest.now) in
    no_head c.args.text.now c.args.pid_max c.args.model (no_state c.args.text.now s c.in-Some.ensures c.in_default-read_state.ensures)

pub returns-in_err-rest-clause-err : goal.returns-in_err-rest-clause-err
returns-in_err-rest-clause-err c =
    let s : Settings × List ℕ = (words_of_settings c.in-Some.settings, c.in-Some.rest.now) in
    let t : State × List ℕ = (words_of_state c.in-Some-read_state.state, c.in-Some-read_state.lines.now) in
    let fails = unread c.args.text.now c.args.pid_max c.args.model s t c.in_err-rest.field-0.0 c.in-Some.ensures c.in-Some-read_state.ensures c.in_err-rest.ensures.err in
    failed (FailsAtHead c.args.text.now c.args.pid_max c.args.model) c.from_residual.result c.in_err-rest.field-0.0 c.from_residual.ensures.1 fails

pub returns-then-not-has_settings-clause-err : goal.returns-then-not-has_settings-clause-err
returns-then-not-has_settings-clause-err c =
    let s : Settings × List ℕ = (words_of_settings c.in-Some.settings, c.in-Some.rest.now) in
    let t : State × List ℕ = (words_of_state c.in-Some-read_state.state, c.in-Some-read_state.lines.now) in
    let found = found_head c.args.text.now s t (c.open_sessions.new.sessions, c.in_ok-rest.rest.now) c.in-Some.ensures c.in-Some-read_state.ensures c.in_ok-rest.ensures.ok in
    other_head c.args.text.now c.args.pid_max c.args.model (log_of s.0 t.0 c.open_sessions.new.sessions) c.in_ok-rest.rest.now found (sym c.has_settings.ensures ∙ c.if-not-has_settings.true)

pub overflow_sub-used : goal.overflow_sub-used
overflow_sub-used c =
    let s : Settings × List ℕ = (words_of_settings c.in-Some.settings, c.in-Some.rest.now) in
    let t : State × List ℕ = (words_of_state c.in-Some-read_state.state, c.in-Some-read_state.lines.now) in
    let found = found_head c.args.text.now s t (c.open_sessions.new.sessions, c.in_ok-rest.rest.now) c.in-Some.ensures c.in-Some-read_state.ensures c.in_ok-rest.ensures.ok in
    rest_within c.args.text.now (log_of s.0 t.0 c.open_sessions.new.sessions) c.in_ok-rest.rest.now found

pub returns-clause-ok : goal.returns-clause-ok
returns-clause-ok c =
    let s : Settings × List ℕ = (words_of_settings c.in-Some.settings, c.in-Some.rest.now) in
    let t : State × List ℕ = (words_of_state c.in-Some-read_state.state, c.in-Some-read_state.lines.now) in
    let found = found_head c.args.text.now s t (c.open_sessions.new.sessions, c.in_ok-rest.rest.now) c.in-Some.ensures c.in-Some-read_state.ensures c.in_ok-rest.ensures.ok in
    let used : ℕ = length c.args.text.now - length c.in_ok-rest.rest.now in
    subst (λ (log : Log). Restores c.args.text.now c.args.pid_max c.args.model log used) (sym c.restored.ensures)
    (restores c.args.text.now c.args.pid_max c.args.model (log_of s.0 t.0 c.open_sessions.new.sessions) c.in_ok-rest.rest.now used found refl
    (sym c.has_settings.ensures ∙ c.if-not-has_settings.false))
