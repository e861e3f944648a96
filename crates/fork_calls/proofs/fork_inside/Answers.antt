-- A namespace above the deepest level has a short path, so a plan in it has room; a full one on it is the model's refusal
use Rattle.std.proofs.Common.{◌≡◌, ◌≤◌, ◌∙◌, find, is_none, Some, sym, ap, subst, length}
use Rattle.pid_types.specs.Bounds.{deepest_space}
use Rattle.pid_types.specs.Outcome.{Outcome, unless_found}
use Rattle.pid_types.specs.Fork.{forked, with_space}
use Rattle.pid_numbers.specs.Numbering.{path_at, draw_in}
use Rattle.task_table.specs.View.{row_of, state_of}
use Rattle.fork_calls.proofs.Plans.{full-there}
use Rattle.fork_calls.proofs.Inside as inside
use Rattle.fork_calls.proofs.fork_inside.Goals as goal

pub plan_new_into-requires : goal.plan_new_into-requires
plan_new_into-requires c =
    let s = c.args.store.now in
    let short = inside.path-short s c.laws.ensures c.requires.whole c.args.stamp c.requires.below c.args.found.now.space c.args.found.now.task.children_space c.requires.id c.requires.stands c.requires.shallow in
    record { shallow = subst (λ b. length (path_at b c.args.found.now.space) ≤ deepest_space) (sym c.numbers.ensures) short }

pub id_of-requires : goal.id_of-requires
id_of-requires c =
    let s = c.args.store.now in
    let full : find (λ q. is_none (draw_in s.numbering q)) (path_at s.numbering c.args.found.now.space) ≡ Some c.in-Err.full =
    ap (λ b. find (λ q. is_none (draw_in b q)) (path_at b c.args.found.now.space)) (sym c.numbers.ensures) ∙ c.in-Err.ensures.err in
    full-there s c.laws.ensures c.requires.whole.alone c.args.found.now.space c.args.found.now.task.children_space c.requires.id (row_of s c.args.found.now.key c.args.found.now.task) c.in-Err.full full

pub returns-in-Err-clause-state : goal.returns-in-Err-clause-state
returns-in-Err-clause-state c =
    let s = c.args.store.now in
    let row = row_of s c.args.found.now.key c.args.found.now.task in
    let full : find (λ q. is_none (draw_in s.numbering q)) (path_at s.numbering c.args.found.now.space) ≡ Some c.in-Err.full =
    ap (λ b. find (λ q. is_none (draw_in b q)) (path_at b c.args.found.now.space)) (sym c.numbers.ensures) ∙ c.in-Err.ensures.err in
    let room = inside.room-full_new s c.laws.ensures c.requires.whole c.args.stamp c.requires.below c.args.found.now.space c.args.found.now.task.children_space c.requires.id c.requires.stands c.requires.shallow
    row c.in-Err.full c.id_of.result full c.id_of.ensures in
    let is = ap (λ o. unless_found (state_of s) o (λ r. r) (forked (with_space (state_of s) c.args.found.now.task.children_space c.args.stamp) row c.args.stamp)) room in
    sym (ap (λ (o : Outcome). o.state) is)

pub returns-in-Err-clause-reply : goal.returns-in-Err-clause-reply
returns-in-Err-clause-reply c =
    let s = c.args.store.now in
    let row = row_of s c.args.found.now.key c.args.found.now.task in
    let full : find (λ q. is_none (draw_in s.numbering q)) (path_at s.numbering c.args.found.now.space) ≡ Some c.in-Err.full =
    ap (λ b. find (λ q. is_none (draw_in b q)) (path_at b c.args.found.now.space)) (sym c.numbers.ensures) ∙ c.in-Err.ensures.err in
    let room = inside.room-full_new s c.laws.ensures c.requires.whole c.args.stamp c.requires.below c.args.found.now.space c.args.found.now.task.children_space c.requires.id c.requires.stands c.requires.shallow
    row c.in-Err.full c.id_of.result full c.id_of.ensures in
    let is = ap (λ o. unless_found (state_of s) o (λ r. r) (forked (with_space (state_of s) c.args.found.now.task.children_space c.args.stamp) row c.args.stamp)) room in
    sym (ap (λ (o : Outcome). o.reply) is)
