use Rattle.std.proofs.Common.{◌≡◌, ◌∙◌, sym, ap, w32}
use Rattle.std.proofs.lemmas.Int.{to_z-of_z}
use Rattle.pid_types.specs.declared.reply.Reply.TheVariants.{Done}
use Rattle.pid_types.specs.Names.{with_row}
use Rattle.pid_types.specs.Outcome.{Outcome, changed}
use Rattle.pid_types.specs.Groups.{set_group, set_pgid}
use Rattle.task_table.specs.View.{name_at, state_of}
use Rattle.set_calls.proofs.groups.would_set_pgid.Goals as goal

pub returns-in-Ok : goal.returns-in-Ok
returns-in-Ok c =
    let old = c.args.store.now in
    let goes = c.in-Ok.field-0 in
    let came : set_pgid (state_of old) c.args.caller c.args.pid c.args.pgid ≡ changed (with_row (state_of old) (name_at old.numbering goes.task) (set_group (name_at old.numbering goes.group))) Done =
    ap (λ z. set_pgid (state_of old) c.args.caller z c.args.pgid) (sym (to_z-of_z w32 c.args.pid c.ranges.pid)) ∙ ap (set_pgid (state_of old) c.args.caller _) (sym (to_z-of_z w32 c.args.pgid c.ranges.pgid)) ∙ c.in-Ok.ensures.outcome in
    sym (ap (λ (o : Outcome). o.reply) came)
