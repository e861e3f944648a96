use Rattle.std.proofs.Common.{◌∙◌, arith, subst, sym}
use Rattle.pid_types.specs.Settings.{HasGoodPidMax}
use Rattle.task_table.proofs.Results.{if_err-map}
use Rattle.table_load.proofs.Kept.{if_loaded, memory-alone}
use Rattle.table_load.proofs.laws.what_is_dumped_is_loaded.Goals as goal

pub returns-clause-loaded : goal.returns-clause-loaded
returns-clause-loaded c =
    let words = c.what_fits_is_of_words.ensures c.args.table.now c.in-Ok.ensures.held in
    if_loaded c.load.result _ _ _ c.load.ensures.text c.load.ensures.words (λ l text other.
    c.texts_tell_states.ensures l.stamp c.args.stamp l.table c.args.table.now other.0 (omega (arith, c.ranges.stamp)) other.1 words (sym text ∙ c.as_slice.ensures.value ∙ c.in-Ok.ensures.text))

pub returns-clause-err : goal.returns-clause-err
returns-clause-err c =
    let bound = subst HasGoodPidMax c.pid_max-bound.ensures.value c.pid_max-bound.ensures.good in
    if_err-map c.load.result _ _ (λ fault refuses. memory-alone fault (λ not.
    refuses not c.args.stamp c.args.table.now (omega (arith, c.ranges.stamp)) c.in-Ok.ensures.held (record { sound = c.laws.ensures; bound = bound }) c.requires (c.as_slice.ensures.value ∙ c.in-Ok.ensures.text)))
    c.load.ensures.refused
