-- The first namespace without a number on the path of keys is the model's first on the path of ids: so the refusal names the same one
use Rattle.std.proofs.Common.{◌≡◌, ◌∙◌, find, is_none, Some, sym, ap}
use Rattle.pid_types.specs.Outcome.{Outcome, unless_found}
use Rattle.pid_types.specs.Fork.{forked}
use Rattle.pid_numbers.specs.Numbering.{path_at, draw_in}
use Rattle.task_table.specs.View.{row_of, state_of}
use Rattle.fork_calls.proofs.Plans.{room-full, full-there}
use Rattle.fork_calls.proofs.fork_into.Goals as goal

pub id_of-requires : goal.id_of-requires
id_of-requires c =
    let s = c.args.store.now in
    let full : find (λ q. is_none (draw_in s.numbering q)) (path_at s.numbering c.args.space) ≡ Some c.in-Err.exhausted =
    ap (λ b. find (λ q. is_none (draw_in b q)) (path_at b c.args.space)) (sym c.numbers.ensures) ∙ c.in-Err.ensures.err in
    full-there s c.laws.ensures c.requires.whole.alone c.args.space c.args.found.now.task.children_space c.requires.id (row_of s c.args.found.now.key c.args.found.now.task) c.in-Err.exhausted full

pub returns-in-Err-clause-state : goal.returns-in-Err-clause-state
returns-in-Err-clause-state c =
    let s = c.args.store.now in
    let row = row_of s c.args.found.now.key c.args.found.now.task in
    let full : find (λ q. is_none (draw_in s.numbering q)) (path_at s.numbering c.args.space) ≡ Some c.in-Err.exhausted =
    ap (λ b. find (λ q. is_none (draw_in b q)) (path_at b c.args.space)) (sym c.numbers.ensures) ∙ c.in-Err.ensures.err in
    let room = room-full s c.laws.ensures c.requires.whole.alone c.args.space c.args.found.now.task.children_space c.requires.id row c.in-Err.exhausted c.id_of.result full c.id_of.ensures in
    let is = ap (λ o. unless_found (state_of s) o (λ r. r) (forked (state_of s) row c.args.found.now.task.children_space)) room in
    sym (ap (λ (o : Outcome). o.state) is)

pub returns-in-Err-clause-reply : goal.returns-in-Err-clause-reply
returns-in-Err-clause-reply c =
    let s = c.args.store.now in
    let row = row_of s c.args.found.now.key c.args.found.now.task in
    let full : find (λ q. is_none (draw_in s.numbering q)) (path_at s.numbering c.args.space) ≡ Some c.in-Err.exhausted =
    ap (λ b. find (λ q. is_none (draw_in b q)) (path_at b c.args.space)) (sym c.numbers.ensures) ∙ c.in-Err.ensures.err in
    let room = room-full s c.laws.ensures c.requires.whole.alone c.args.space c.args.found.now.task.children_space c.requires.id row c.in-Err.exhausted c.id_of.result full c.id_of.ensures in
    let is = ap (λ o. unless_found (state_of s) o (λ r. r) (forked (state_of s) row c.args.found.now.task.children_space)) room in
    sym (ap (λ (o : Outcome). o.reply) is)
