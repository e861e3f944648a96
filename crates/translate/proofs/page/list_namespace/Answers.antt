use Rattle.std.proofs.Common.{[], ◌+◌, ap, subst}
use Rattle.std.proofs.lemmas.Result.{IfOk-weaker}
use Rattle.std.specs.Option.{option_map_or}
use Rattle.pid_types.specs.declared.plain.Row.{Row}
use Rattle.task_table.specs.View.{name_at, state_of}
use Rattle.translate.specs.Members.{visible_numbers}
use Rattle.translate.specs.Pages.{AreLeastFrom}
use Rattle.translate.proofs.page.list_namespace.Goals as goal

pub returns : goal.returns
returns c =
    let s = c.args.store.now in
    let caller = c.args.caller.now in
    let task = c.in-Some.task in
    IfOk-weaker c.list_members.result _ _ (λ r all.
    subst (λ ns. AreLeastFrom ns c.args.page.now.from (c.args.room + 1) r.items)
    (ap (λ o. option_map_or (λ (row : Row). visible_numbers (state_of s) c.args.reach row.name.space (name_at s.numbering caller.key).space) o []) c.in-Some.ensures.row)
    (all (name_at s.numbering task.key).space (name_at s.numbering caller.key).space c.in-Some.ensures.own c.requires.own)) c.list_members.ensures
