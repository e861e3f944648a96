use Rattle.std.proofs.Common.{◌∙◌, List, ℕ, drop, replicate, refl, rules, sym, ap}
use Rattle.std.specs.Option.{option_map_or}
use Rattle.pid_types.specs.declared.plain.Row.{Row}
use Rattle.pid_types.specs.declared.reply.Reply.{Reply}
use Rattle.pid_types.specs.declared.reply.Reply.TheVariants.{Levels, Refused}
use Rattle.pid_types.specs.declared.reply.Refusal.TheVariants.{NoCaller, NoTask}
use Rattle.pid_types.specs.Names.{numbers_from, task_numbered}
use Rattle.pid_types.specs.Queries.{ns_pid}
use Rattle.pid_types.specs.Threads.{process_numbered}
use Rattle.pid_numbers.specs.Numbering.{levels_of}
use Rattle.task_table.specs.View.{name_at, state_of}
use Rattle.task_table.proofs.Keys.{levels-are}
use Rattle.task_table.proofs.LookUps.{named}
use Rattle.task_table.proofs.Alone.{process-task}
use Rattle.translate.proofs.Written.{first_of, behind}
use Rattle.translate.proofs.queries.ns_pid.Goals as goal

pub returns-in_default-find_task-clause-value : goal.returns-in_default-find_task-clause-value
unfolding ns_pid task_numbered process_numbered
returns-in_default-find_task-clause-value c = search rules

pub returns-clause-value : goal.returns-clause-value
unfolding ns_pid
returns-clause-value c =
    let s = c.args.store.now in
    let space = (name_at s.numbering c.in-Some.found.key).space in
    let task = c.in-Some-find_task.task in
    let u = named s c.laws.ensures task.key task.task c.in-Some-find_task.ensures.there.0 in
    let levels : Row → Reply = λ row. Levels (record { items = numbers_from (state_of s).spaces row.name space }) in
    let told : List ℕ → Reply = λ ns. Levels (record { items = ns }) in
    let wrote = first_of c.write_levels_from.result c.write_levels_from.new.room (levels_of c.numbers.result.now task.key c.in-Some.found.space)
    (drop c.write_levels_from.result (replicate 33 0)) c.write_levels_from.ensures.count c.write_levels_from.ensures.numbers in record {
      tells = sym (ap (λ o. option_map_or (λ (caller : Row). option_map_or (λ (row : Row). Levels (record { items = numbers_from (state_of s).spaces row.name caller.name.space })) (task_numbered (state_of s) caller.name.space c.args.target) (Refused NoTask)) o (Refused NoCaller))
          c.in-Some.ensures.row
          ∙ ap (λ o. option_map_or levels o (Refused NoTask)) (sym (process-task (state_of s) refl space c.args.target) ∙ c.in-Some-find_task.ensures.row space c.in-Some.ensures.id)
          ∙ ap told (levels-are s.numbering c.laws.ensures.numbering c.in-Some.found.space space task.key u.0 c.in-Some.ensures.id u.1
          ∙ ap (λ b. levels_of b task.key c.in-Some.found.space) (sym c.numbers.ensures) ∙ sym wrote.0));
      fits = wrote.1;
    }

pub returns-clause-zeroes : goal.returns-clause-zeroes
returns-clause-zeroes c =
    let b = c.numbers.result.now in
    behind c.write_levels_from.result c.write_levels_from.new.room (levels_of b c.in-Some-find_task.task.key c.in-Some.found.space)
    (drop c.write_levels_from.result (replicate 33 0)) c.write_levels_from.ensures.count c.write_levels_from.ensures.numbers
