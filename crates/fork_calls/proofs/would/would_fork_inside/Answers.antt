-- The plan is that of a fork, and so are its refusals; the numbers are those that the model's child would have in the new namespace and around it
use Rattle.std.proofs.Common.{◌≡◌, ◌<◌, ◌≤◌, ◌∙◌, ◌∷◌, find, is_none, map, length, Some, None, sym, ap, subst, arith, inr}
use Rattle.std.specs.Prelude.{unwrap_or}
use Rattle.pid_types.specs.Bounds.{deepest_space}
use Rattle.pid_types.specs.Membership.{IsIn}
use Rattle.pid_types.specs.Names.{path_up}
use Rattle.pid_types.specs.Outcome.{unless_found}
use Rattle.pid_types.specs.Fork.{forked, with_space}
use Rattle.pid_numbers.specs.Numbering.{path_at, draw_in}
use Rattle.task_table.specs.View.{row_of, state_of}
use Rattle.fork_calls.proofs.Plans.{full-there}
use Rattle.fork_calls.proofs.Inside as inside
use Rattle.fork_calls.proofs.Foretold.{on-own_path, would-get}
use Rattle.fork_calls.proofs.would.would_fork_inside.Goals as goal

pub plan_new_into-requires : goal.plan_new_into-requires
plan_new_into-requires c =
    let s = c.args.store.now in
    let short = inside.path-short s c.laws.ensures c.requires.whole c.args.stamp c.requires.below c.args.found.now.space c.args.found.now.task.children_space c.requires.id c.requires.stands c.requires.shallow in
    record { shallow = subst (λ b. length (path_at b c.args.found.now.space) ≤ deepest_space) (sym c.numbers.ensures) short }

pub id_of-requires : goal.id_of-requires
id_of-requires c =
    let s = c.args.store.now in
    let full : find (λ q. is_none (draw_in s.numbering q)) (path_at s.numbering c.args.found.now.space) ≡ Some c.in-Err.full =
    ap (λ b. find (λ q. is_none (draw_in b q)) (path_at b c.args.found.now.space)) (sym c.numbers.ensures) ∙ c.in-Err.ensures.err in
    full-there s c.laws.ensures c.requires.whole.alone c.args.found.now.space c.args.found.now.task.children_space c.requires.id (row_of s c.args.found.now.key c.args.found.now.task) c.in-Err.full full

pub returns-in-Err : goal.returns-in-Err
returns-in-Err c =
    let s = c.args.store.now in
    let row = row_of s c.args.found.now.key c.args.found.now.task in
    let full : find (λ q. is_none (draw_in s.numbering q)) (path_at s.numbering c.args.found.now.space) ≡ Some c.in-Err.full =
    ap (λ b. find (λ q. is_none (draw_in b q)) (path_at b c.args.found.now.space)) (sym c.numbers.ensures) ∙ c.in-Err.ensures.err in
    let room = inside.room-full_new s c.laws.ensures c.requires.whole c.args.stamp c.requires.below c.args.found.now.space c.args.found.now.task.children_space c.requires.id c.requires.stands c.requires.shallow
    row c.in-Err.full c.id_of.result full c.id_of.ensures in
    sym (ap (λ o. (unless_found (state_of s) o (λ r. r) (forked (with_space (state_of s) c.args.found.now.task.children_space c.args.stamp) row c.args.stamp)).reply) room)

pub returns-in-Ok : goal.returns-in-Ok
returns-in-Ok c =
    let s = c.args.store.now in
    let found = c.args.found.now in
    let p = found.task.children_space in
    let row = row_of s found.key found.task in
    let none : find (λ q. is_none (draw_in s.numbering q)) (path_at s.numbering found.space) ≡ None =
    ap (λ b. find (λ q. is_none (draw_in b q)) (path_at b found.space)) (sym c.numbers.ensures) ∙ c.in-Ok.ensures.ok.0 in
    let drew : c.as_slice.result.now ≡ 1 ∷ map (λ q. unwrap_or (draw_in s.numbering q) 0) (path_at s.numbering found.space) =
    c.as_slice.ensures.value ∙ c.in-Ok.ensures.ok.1 ∙ ap (λ b. 1 ∷ map (λ q. unwrap_or (draw_in b q) 0) (path_at b found.space)) c.numbers.ensures in
    let some : 0 < length c.as_slice.result.now = rw drew (omega arith) in
    let same : Some row.name.space ≡ Some p = sym c.requires.caller.found.own ∙ c.requires.id in
    let on = subst (λ ids. IsIn row.name.space ids) (sym (inside.path-new s c.laws.ensures c.requires.whole c.args.stamp c.requires.below c.args.found.now.space c.args.found.now.task.children_space c.requires.id c.requires.stands c.requires.shallow)) (inr (subst (λ q. IsIn q (path_up (state_of s).spaces p)) (let e : p ≡ row.name.space = cc in e) (on-own_path (state_of s).spaces p))) in
    c.would_get.ensures
    ∙ would-get s c.laws.ensures (with_space (state_of s) p c.args.stamp) (inside.IsPlanned-new s c.laws.ensures c.requires.whole c.args.stamp c.requires.below c.args.found.now.space c.args.found.now.task.children_space c.requires.id c.requires.stands c.requires.shallow) row c.args.stamp found.space c.requires.caller.found.own on
    c.as_slice.result.now (drew ∙ sym (inside.drew-new s c.laws.ensures c.requires.whole c.args.stamp c.requires.below c.args.found.now.space c.args.found.now.task.children_space c.requires.id c.requires.stands c.requires.shallow)) some (state_of s) _
    (inside.room-ok_new s c.laws.ensures c.requires.whole c.args.stamp c.requires.below c.args.found.now.space c.args.found.now.task.children_space c.requires.id c.requires.stands c.requires.shallow row none)
