use Rattle.std.proofs.Common.{◌∙◌, Some, ap}
use Rattle.std.specs.Prelude.{if◌then◌else◌}
use Rattle.pid_types.specs.declared.reply.Refusal.TheVariants.{Elsewhere, SpaceFallen}
use Rattle.task_table.specs.View.{row_of}
use Rattle.fork_calls.proofs.Places.{dropped}
use Rattle.fork_calls.proofs.namespace_for.Goals as goal

pub returns-then-new_space-clause-err : goal.returns-then-new_space-clause-err
returns-then-new_space-clause-err c =
    let s = c.args.store.now in
    dropped s c.laws.ensures (row_of s c.args.found.now.key c.args.found.now.task) c.args.found.now.space c.requires.found.own c.in_default.ensures c.args.new_space
    ∙ ap (λ b. Some (if b then Elsewhere else SpaceFallen)) c.if-new_space.true

pub returns-else-new_space-clause-err : goal.returns-else-new_space-clause-err
returns-else-new_space-clause-err c =
    let s = c.args.store.now in
    dropped s c.laws.ensures (row_of s c.args.found.now.key c.args.found.now.task) c.args.found.now.space c.requires.found.own c.in_default.ensures c.args.new_space
    ∙ ap (λ b. Some (if b then Elsewhere else SpaceFallen)) c.if-new_space.false
