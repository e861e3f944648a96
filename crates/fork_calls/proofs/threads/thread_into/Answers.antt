-- The first namespace without a number on the path of keys is the model's first on the path of ids: so the refusal names the same one
use Rattle.std.proofs.Common.{◌≡◌, ◌∙◌, find, is_none, Some, sym, ap}
use Rattle.pid_types.specs.Outcome.{Outcome}
use Rattle.pid_numbers.specs.Numbering.{path_at, draw_in}
use Rattle.fork_calls.proofs.Plans.{full-there-in}
use Rattle.fork_calls.proofs.Cloned.{thread-full}
use Rattle.fork_calls.proofs.threads.thread_into.Goals as goal

pub id_of-requires : goal.id_of-requires
id_of-requires c =
    full-there-in c.args.store.now c.laws.ensures c.args.calling.now.space c.in-Err.exhausted
    (ap (λ b. find (λ q. is_none (draw_in b q)) (path_at b c.args.calling.now.space)) (sym c.numbers.ensures) ∙ c.in-Err.ensures.err)

pub returns-in-Err-clause-state : goal.returns-in-Err-clause-state
returns-in-Err-clause-state c =
    let s = c.args.store.now in
    let full : find (λ q. is_none (draw_in s.numbering q)) (path_at s.numbering c.args.calling.now.space) ≡ Some c.in-Err.exhausted =
    ap (λ b. find (λ q. is_none (draw_in b q)) (path_at b c.args.calling.now.space)) (sym c.numbers.ensures) ∙ c.in-Err.ensures.err in
    sym (ap (λ (o : Outcome). o.state) (thread-full s c.laws.ensures c.thread_laws.ensures c.args.calling.now c.args.task.now c.requires.may c.in-Err.exhausted c.id_of.result full c.id_of.ensures))

pub returns-in-Err-clause-reply : goal.returns-in-Err-clause-reply
returns-in-Err-clause-reply c =
    let s = c.args.store.now in
    let full : find (λ q. is_none (draw_in s.numbering q)) (path_at s.numbering c.args.calling.now.space) ≡ Some c.in-Err.exhausted =
    ap (λ b. find (λ q. is_none (draw_in b q)) (path_at b c.args.calling.now.space)) (sym c.numbers.ensures) ∙ c.in-Err.ensures.err in
    sym (ap (λ (o : Outcome). o.reply) (thread-full s c.laws.ensures c.thread_laws.ensures c.args.calling.now c.args.task.now c.requires.may c.in-Err.exhausted c.id_of.result full c.id_of.ensures))
