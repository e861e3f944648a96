use Rattle.std.proofs.Common.{◌∙◌, slice_get, refl, sym, subst, arith}
use Rattle.task_table.proofs.Results.{if_err}
use Rattle.table_build.proofs.Gathered.{rows-are, rows-rise}
use Rattle.table_build.proofs.LineSteps.{lines-same}
use Rattle.table_build.proofs.Steps.{places-both}
use Rattle.table_build.proofs.Places.{none_some}
use Rattle.task_table.specs.Store.{HasNoThreads}
use Rattle.table_build.proofs.build.put_tasks.Goals as goal

pub returns-clause-rows : goal.returns-clause-rows
returns-clause-rows c =
    let s = c.remove_placeholders.new.store in
    let placed = c.enter_sessions.new.placed in
    let rows = c.args.saved.now.rows in
    let few = c.in_ok-enter_sessions.ensures.keys in
    let lines = lines-same c.settle_tasks.new.store s placed placed (slice_get rows) c.in_ok-settle_tasks.ensures.lines c.remove_placeholders.ensures.keeps.lines refl in
    rows-are s c.laws.ensures placed rows lines few c.remove_placeholders.ensures.gone (rows-rise s c.laws.ensures placed rows lines few c.in_ok-placed.ensures.sorted)

pub settle_tasks-requires-clause-keys : goal.settle_tasks-requires-clause-keys
settle_tasks-requires-clause-keys c = grind arith

pub returns-in_err-placed-clause-refused : goal.returns-in_err-placed-clause-refused
returns-in_err-placed-clause-refused c = if_err c.from_residual.result _ c.in_err-placed.field-0.0 c.from_residual.ensures.1 c.in_err-placed.ensures.refused

pub returns-in_err-enter_sessions-clause-refused : goal.returns-in_err-enter_sessions-clause-refused
returns-in_err-enter_sessions-clause-refused c =
    if_err c.from_residual-in_err-enter_sessions.result _ c.in_err-enter_sessions.field-0.0 c.from_residual-in_err-enter_sessions.ensures.1 (λ not sound had.
    c.in_err-enter_sessions.ensures.refused not sound (c.in_ok-placed.ensures.part had))

pub returns-in_err-settle_tasks-clause-refused : goal.returns-in_err-settle_tasks-clause-refused
returns-in_err-settle_tasks-clause-refused c =
    let e = c.in_ok-enter_sessions.ensures in
    if_err c.from_residual-in_err-settle_tasks.result _ c.in_err-settle_tasks.field-0.0 c.from_residual-in_err-settle_tasks.ensures.1 (λ not sound had.
    c.in_err-settle_tasks.ensures.refused sound (e.part (c.in_ok-placed.ensures.part had)) (e.seated sound.coherent.groups))

pub remove_placeholders-requires-clause-settled : goal.remove_placeholders-requires-clause-settled
remove_placeholders-requires-clause-settled c = grind arith

pub settle_tasks-requires-clause-all : goal.settle_tasks-requires-clause-all
settle_tasks-requires-clause-all c = grind arith

pub settle_tasks-requires-clause-grouping : goal.settle_tasks-requires-clause-grouping
settle_tasks-requires-clause-grouping c =
    let u = c.in_ok-enter_sessions.ensures.keeps.ungrouped in
    record { kin = λ k p e. absurd (none_some (sym (u.orphans k) ∙ e)); borne = u.borne; standing = u.standing; single = u.single }

pub settle_tasks-requires-clause-real : goal.settle_tasks-requires-clause-real
settle_tasks-requires-clause-real c = λ k q e. absurd (none_some (sym (c.in_ok-enter_sessions.ensures.keeps.ungrouped.orphans k) ∙ e))

pub remove_placeholders-requires-clause-few : goal.remove_placeholders-requires-clause-few
remove_placeholders-requires-clause-few c = grind arith

pub returns-clause-alone : goal.returns-clause-alone
returns-clause-alone c = subst HasNoThreads (sym c.remove_placeholders.ensures.threads) c.in_ok-settle_tasks.ensures.keeps.grouping.single

pub returns-clause-places : goal.returns-clause-places
returns-clause-places c =
    let s1 = c.begin_tasks.new.store in
    let s2 = c.enter_sessions.new.store in
    let s3 = c.settle_tasks.new.store in
    let s4 = c.remove_placeholders.new.store in
    places-both c.args.store.now s1 s4 c.in_ok-placed.ensures.keeps.places
    (places-both s1 s2 s4 c.in_ok-enter_sessions.ensures.keeps.places (places-both s2 s3 s4 c.in_ok-settle_tasks.ensures.keeps.places c.remove_placeholders.ensures.keeps.places))

pub returns-clause-kin : goal.returns-clause-kin
returns-clause-kin c = c.remove_placeholders.ensures.keeps.settled.kin
