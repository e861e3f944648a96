use Rattle.std.proofs.Common.{◌≡◌, ◌∙◌, ℕ, Option, sym, ap, subst, filter, nat_le}
use Rattle.std.specs.Prelude.{filter_map}
use Rattle.std.specs.Option.{option_map_or}
use Rattle.pid_types.specs.declared.plain.Row.{Row}
use Rattle.pid_types.specs.declared.plain.Thread.{Thread as ThreadRow}
use Rattle.pid_types.specs.declared.reply.Reply.TheVariants.{Number, End, Refused}
use Rattle.pid_types.specs.declared.reply.Refusal.TheVariants.{NoCaller}
use Rattle.pid_types.specs.Chains.{least_of}
use Rattle.pid_types.specs.Names.{number}
use Rattle.pid_types.specs.Queries.{next_thread}
use Rattle.pid_numbers.specs.Numbering.{IsNextThread}
use Rattle.task_table.specs.View.{name_at}
use Rattle.thread_view.specs.Full.{full_state}
use Rattle.translate.proofs.LeastThread.{next-thread-is}
use Rattle.translate.proofs.threads.next_thread.Goals as goal

pub returns-in-Some-next_thread : goal.returns-in-Some-next_thread
unfolding next_thread
returns-in-Some-next_thread c =
    let s = c.args.store.now in
    let asked : Row → Option ℕ = λ caller. least_of (filter (nat_le c.args.from) (filter_map (λ (t : ThreadRow). number (full_state s).spaces t.name caller.name.space) (full_state s).threads)) in
    sym (ap (λ o. option_map_or (λ caller. option_map_or Number (asked caller) End) o (Refused NoCaller)) c.in-Some.ensures.row
    ∙ ap (λ o. option_map_or Number o End)
    (next-thread-is s c.laws.ensures c.thread_laws.ensures c.in-Some.calling.space (name_at s.numbering c.in-Some.calling.process).space c.in-Some.ensures.id c.args.from c.next_thread.result
    (subst (λ b. IsNextThread b c.in-Some.calling.space c.args.from c.next_thread.result) c.numbers.ensures c.next_thread.ensures) ∙ c.in-Some-next_thread.is))

pub returns-in-None : goal.returns-in-None
unfolding next_thread
returns-in-None c =
    let s = c.args.store.now in
    let asked : Row → Option ℕ = λ caller. least_of (filter (nat_le c.args.from) (filter_map (λ (t : ThreadRow). number (full_state s).spaces t.name caller.name.space) (full_state s).threads)) in
    sym (ap (λ o. option_map_or (λ caller. option_map_or Number (asked caller) End) o (Refused NoCaller)) c.in-Some.ensures.row
    ∙ ap (λ o. option_map_or Number o End)
    (next-thread-is s c.laws.ensures c.thread_laws.ensures c.in-Some.calling.space (name_at s.numbering c.in-Some.calling.process).space c.in-Some.ensures.id c.args.from c.next_thread.result
    (subst (λ b. IsNextThread b c.in-Some.calling.space c.args.from c.next_thread.result) c.numbers.ensures c.next_thread.ensures) ∙ c.in-None.is))
