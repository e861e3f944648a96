use Rattle.std.proofs.Common.{ap, is_some, ◌∙◌, arith}
use Rattle.pid_types.specs.Controls.{control_at}
use Rattle.task_table.proofs.Results.{if_err-map}
use Rattle.table_build.proofs.Parts.{may-bear}
use Rattle.table_build.proofs.sessions.bearer.Goals as goal

pub returns-in-Some-clause-put : goal.returns-in-Some-clause-put
returns-in-Some-clause-put c = grind arith

pub returns-in-None-clause-refused : goal.returns-in-None-clause-refused
returns-in-None-clause-refused c =
    if_err-map c.begin_placeholder.result _ _ (λ fault refuses not text sound part used.
    let root = ap is_some (ap (λ cs. control_at cs 0) part.places.controls ∙ sound.coherent.controls.root.1) in
    let unborne = c.in_ok-key.ensures.nobody c.in-None.is in
    refuses not root (may-bear c.args.store.now c.laws.ensures text sound part c.args.name.now used c.requires.ungrouped.borne unborne))
    c.begin_placeholder.ensures.refused

pub returns-in-None-clause-recent : goal.returns-in-None-clause-recent
returns-in-None-clause-recent c = grind arith

pub returns-in-Some-clause-recent : goal.returns-in-Some-clause-recent
returns-in-Some-clause-recent c = grind arith
