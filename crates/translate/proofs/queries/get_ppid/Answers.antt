use Rattle.std.proofs.Common.{◌∙◌, sym, ap}
use Rattle.std.specs.Option.{option_map_or}
use Rattle.pid_types.specs.declared.plain.Row.{Row}
use Rattle.pid_types.specs.declared.reply.Reply.TheVariants.{Number, Refused}
use Rattle.pid_types.specs.declared.reply.Refusal.TheVariants.{NoCaller}
use Rattle.pid_types.specs.Names.{number_or_zero}
use Rattle.pid_types.specs.Queries.{get_ppid}
use Rattle.task_table.specs.View.{name_at}
use Rattle.thread_view.specs.Full.{full_state}
use Rattle.translate.proofs.queries.get_ppid.Goals as goal

pub returns : goal.returns
unfolding get_ppid
returns c =
    let s = c.args.store.now in
    let space = (name_at s.numbering c.in-Some.calling.process).space in
    ap Number (c.seen_parent.ensures space c.in-Some.ensures.id)
    ∙ sym (ap (λ o. option_map_or (λ (caller : Row). Number (option_map_or (λ parent. number_or_zero (full_state s).spaces parent caller.name.space) caller.parent 0)) o (Refused NoCaller)) c.in-Some.ensures.row)
