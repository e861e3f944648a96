-- The plan is that of a fork, and so are its refusals; the numbers are those that the model's child would have
use Rattle.std.proofs.Common.{◌≡◌, ◌<◌, ◌∙◌, find, is_none, map, length, Some, None, sym, ap, subst, arith}
use Rattle.std.proofs.lemmas.Grind.{common_steps}
use Rattle.std.specs.Prelude.{unwrap_or}
use Rattle.std.proofs.lemmas.List.{length-map}
use Rattle.pid_types.specs.Outcome.{unless_found}
use Rattle.pid_types.specs.Fork.{forked}
use Rattle.pid_numbers.specs.Numbering.{path_at, draw_in}
use Rattle.task_table.specs.View.{row_of, state_of}
use Rattle.fork_calls.proofs.Plans.{room-full, room-ok, full-there}
use Rattle.fork_calls.proofs.Cursors.{IsPlanned-own, drew-own}
use Rattle.fork_calls.proofs.Foretold.{own-on_path, would-get}
use Rattle.fork_calls.proofs.would.would_fork_into.Goals as goal

pub id_of-requires : goal.id_of-requires
id_of-requires c =
    let s = c.args.store.now in
    let full : find (λ q. is_none (draw_in s.numbering q)) (path_at s.numbering c.args.space) ≡ Some c.in-Err.full =
    ap (λ b. find (λ q. is_none (draw_in b q)) (path_at b c.args.space)) (sym c.numbers.ensures) ∙ c.in-Err.ensures.err in
    full-there s c.laws.ensures c.requires.whole.alone c.args.space c.args.found.now.task.children_space c.requires.id (row_of s c.args.found.now.key c.args.found.now.task) c.in-Err.full full

pub returns-in-Err : goal.returns-in-Err
returns-in-Err c =
    let s = c.args.store.now in
    let row = row_of s c.args.found.now.key c.args.found.now.task in
    let full : find (λ q. is_none (draw_in s.numbering q)) (path_at s.numbering c.args.space) ≡ Some c.in-Err.full =
    ap (λ b. find (λ q. is_none (draw_in b q)) (path_at b c.args.space)) (sym c.numbers.ensures) ∙ c.in-Err.ensures.err in
    let room = room-full s c.laws.ensures c.requires.whole.alone c.args.space c.args.found.now.task.children_space c.requires.id row c.in-Err.full c.id_of.result full c.id_of.ensures in
    sym (ap (λ o. (unless_found (state_of s) o (λ r. r) (forked (state_of s) row c.args.found.now.task.children_space)).reply) room)

pub would_get-requires-clause-some : goal.would_get-requires-clause-some
would_get-requires-clause-some c = grind (arith, common_steps)

pub returns-in-Ok : goal.returns-in-Ok
returns-in-Ok c =
    let s = c.args.store.now in
    let l = c.laws.ensures in
    let found = c.args.found.now in
    let t = found.task.children_space in
    let caller = c.requires.caller.found in
    let row = row_of s found.key found.task in
    let none : find (λ q. is_none (draw_in s.numbering q)) (path_at s.numbering c.args.space) ≡ None =
    ap (λ b. find (λ q. is_none (draw_in b q)) (path_at b c.args.space)) (sym c.numbers.ensures) ∙ c.in-Ok.ensures.ok.0 in
    let drew : c.as_slice.result.now ≡ map (λ q. unwrap_or (draw_in s.numbering q) 0) (path_at s.numbering c.args.space) =
    c.as_slice.ensures.value ∙ c.in-Ok.ensures.ok.1 ∙ ap (λ b. map (λ q. unwrap_or (draw_in b q) 0) (path_at b c.args.space)) c.numbers.ensures in
    let some : 0 < length c.as_slice.result.now =
    subst (λ n. 0 < n) (sym (ap length drew ∙ length-map (path_at s.numbering c.args.space) (λ q. unwrap_or (draw_in s.numbering q) 0))) (l.numbering.some c.args.space t c.requires.id) in
    c.would_get.ensures
    ∙ would-get s l (state_of s) (IsPlanned-own s l c.requires.whole.alone) row t found.space caller.own (own-on_path s l c.requires.whole found.key found.task caller.there c.args.space c.requires.id)
    c.as_slice.result.now (drew ∙ drew-own s l c.requires.whole.alone c.args.space t c.requires.id) some (state_of s) _ (room-ok s l c.requires.whole.alone c.args.space t c.requires.id row none)
