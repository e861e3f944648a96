use Rattle.std.proofs.Common.{◌∙◌, ℕ, Option, sym, ap, subst, filter, nat_le}
use Rattle.std.specs.Option.{option_map_or}
use Rattle.pid_types.specs.declared.plain.Row.{Row}
use Rattle.pid_types.specs.declared.reply.Reply.TheVariants.{Number, End}
use Rattle.pid_types.specs.Chains.{least_of}
use Rattle.pid_types.specs.Queries.{next, numbers_by}
use Rattle.pid_types.specs.declared.reply.Reply.TheVariants.{Refused}
use Rattle.pid_types.specs.declared.reply.Refusal.TheVariants.{NoCaller}
use Rattle.pid_numbers.specs.Numbering.{IsNextUsed}
use Rattle.task_table.specs.View.{name_at}
use Rattle.thread_view.specs.Full.{full_state}
use Rattle.translate.proofs.Least.{next-is}
use Rattle.translate.proofs.queries.next.Goals as goal

pub returns-in-Some-next_used : goal.returns-in-Some-next_used
unfolding next
returns-in-Some-next_used c =
    let s = c.args.store.now in
    let asked : Row → Option ℕ = λ caller. least_of (filter (nat_le c.args.from) (numbers_by (full_state s) c.args.kind caller.name.space)) in
    sym (ap (λ o. option_map_or (λ caller. option_map_or Number (asked caller) End) o (Refused NoCaller)) c.in-Some.ensures.row
    ∙ ap (λ o. option_map_or Number o End)
    (next-is s c.laws.ensures c.in-Some.calling.space (name_at s.numbering c.in-Some.calling.process).space c.in-Some.ensures.id c.args.kind c.args.from c.next_used.result
    (subst (λ b. IsNextUsed b c.args.kind c.in-Some.calling.space c.args.from c.next_used.result) c.numbers.ensures c.next_used.ensures) ∙ c.in-Some-next_used.is))

pub returns-in-None : goal.returns-in-None
unfolding next
returns-in-None c =
    let s = c.args.store.now in
    let asked : Row → Option ℕ = λ caller. least_of (filter (nat_le c.args.from) (numbers_by (full_state s) c.args.kind caller.name.space)) in
    sym (ap (λ o. option_map_or (λ caller. option_map_or Number (asked caller) End) o (Refused NoCaller)) c.in-Some.ensures.row
    ∙ ap (λ o. option_map_or Number o End)
    (next-is s c.laws.ensures c.in-Some.calling.space (name_at s.numbering c.in-Some.calling.process).space c.in-Some.ensures.id c.args.kind c.args.from c.next_used.result
    (subst (λ b. IsNextUsed b c.args.kind c.in-Some.calling.space c.args.from c.next_used.result) c.numbers.ensures c.next_used.ensures) ∙ c.in-None.is))
